-- Two trees are equal or not.
use Rattle.std.proofs.Common.{◌≡◌, ◌⊎◌, ap, inl, inr, ⊎_elim}
use Rattle.std.proofs.lemmas.Bool.{cases_eq}
use Rattle.ml_types.specs.Types.{Head, ConHead, TupleHead, ArrowHead, Tree, Leaf, Node, Trees, Nil, Cons}

pub head_cases : (h k : Head) → (h ≡ k) ⊎ (h ≡ k → ⊥)
head_cases (ConHead d n) (ConHead e m) = by (cases_eq d e) (cases_eq n m)
  where
    by : (d ≡ e) ⊎ (d ≡ e → ⊥) → (n ≡ m) ⊎ (n ≡ m → ⊥) → (ConHead d n ≡ ConHead e m) ⊎ (ConHead d n ≡ ConHead e m → ⊥)
    by (inl p) (inl q) = inl cc
    by (inr p) q = inr (λ (h : ConHead d n ≡ ConHead e m). p cc)
    by (inl p) (inr q) = inr (λ (h : ConHead d n ≡ ConHead e m). q cc)
head_cases (TupleHead n) (TupleHead m) = ⊎_elim (λ e. inl (ap TupleHead e)) (λ d. inr (λ (h : TupleHead n ≡ TupleHead m). d cc)) (cases_eq n m)
head_cases ArrowHead ArrowHead = inl cc
head_cases (ConHead d n) (TupleHead m) = inr (λ h. cc)
head_cases (ConHead d n) ArrowHead = inr (λ h. cc)
head_cases (TupleHead n) (ConHead e m) = inr (λ h. cc)
head_cases (TupleHead n) ArrowHead = inr (λ h. cc)
head_cases ArrowHead (ConHead e m) = inr (λ h. cc)
head_cases ArrowHead (TupleHead m) = inr (λ h. cc)

node_by : (h k : Head) (ts rs : Trees) → (h ≡ k) ⊎ (h ≡ k → ⊥) → (ts ≡ rs) ⊎ (ts ≡ rs → ⊥) → (Node h ts ≡ Node k rs) ⊎ (Node h ts ≡ Node k rs → ⊥)
node_by h k ts rs (inl p) (inl q) = inl cc
node_by h k ts rs (inr p) q = inr (λ (e : Node h ts ≡ Node k rs). p cc)
node_by h k ts rs (inl p) (inr q) = inr (λ (e : Node h ts ≡ Node k rs). q cc)

cons_by : (t r : Tree) (ts rs : Trees) → (t ≡ r) ⊎ (t ≡ r → ⊥) → (ts ≡ rs) ⊎ (ts ≡ rs → ⊥) → (Cons t ts ≡ Cons r rs) ⊎ (Cons t ts ≡ Cons r rs → ⊥)
cons_by t r ts rs (inl p) (inl q) = inl cc
cons_by t r ts rs (inr p) q = inr (λ (e : Cons t ts ≡ Cons r rs). p cc)
cons_by t r ts rs (inl p) (inr q) = inr (λ (e : Cons t ts ≡ Cons r rs). q cc)

mutual
  pub tree_cases : (t r : Tree) → (t ≡ r) ⊎ (t ≡ r → ⊥)
  tree_cases (Leaf n) (Leaf m) = ⊎_elim (λ e. inl (ap Leaf e)) (λ d. inr (λ (h : Leaf n ≡ Leaf m). d cc)) (cases_eq n m)
  tree_cases (Leaf n) (Node k rs) = inr (λ h. cc)
  tree_cases (Node h ts) (Leaf m) = inr (λ h. cc)
  tree_cases (Node h ts) (Node k rs) = node_by h k ts rs (head_cases h k) (trees_cases ts rs)

  pub trees_cases : (ts rs : Trees) → (ts ≡ rs) ⊎ (ts ≡ rs → ⊥)
  trees_cases Nil Nil = inl cc
  trees_cases Nil (Cons r rs) = inr (λ h. cc)
  trees_cases (Cons t ts) Nil = inr (λ h. cc)
  trees_cases (Cons t ts) (Cons r rs) = cons_by t r ts rs (tree_cases t r) (trees_cases ts rs)
