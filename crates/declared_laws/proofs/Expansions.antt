-- Trees in which the names of abbreviations are replaced by the types that they stand for.
use Rattle.std.proofs.Common.{◌≡◌, ℕ, zero, suc, inl, inr, List, [], ◌∷◌, ◌++◌, Bool, true, false, ◌&&◌, Option, Some, None, refl, ap, ◌∙◌}
use Rattle.std.specs.Prelude.{option_map}
use Rattle.ml_types.specs.Types.{Head, ConHead, TupleHead, ArrowHead, Tree, Leaf, Node, Trees, Nil, Cons}
use Rattle.ml_decls.specs.Lists.{IsIn}
use Rattle.ml_decls.proofs.Members.{in_left, in_right}
use Rattle.declared_laws.specs.Expanding.{body_at, applied, expand, expand_all, layers}

-- ---- the declarations that a tree names

abbrev pub head_numbers : Head → List ℕ
head_numbers (ConHead d n) = d ∷ []
head_numbers (TupleHead n) = []
head_numbers ArrowHead = []

abbrev mutual
  pub numbers : Tree → List ℕ
  numbers (Leaf v) = []
  numbers (Node h ts) = head_numbers h ++ all_numbers ts

  pub all_numbers : Trees → List ℕ
  all_numbers Nil = []
  all_numbers (Cons t ts) = numbers t ++ all_numbers ts

-- ---- expanding

body_at-agrees : (f g : ℕ → Option Tree) (h : Head) → ((d : ℕ) → IsIn d (head_numbers h) → f d ≡ g d) → body_at f h ≡ body_at g h
body_at-agrees f g (ConHead d n) same = same d (inl refl)
body_at-agrees f g (TupleHead n) same = refl
body_at-agrees f g ArrowHead same = refl

-- only the abbreviations that a tree names matter
mutual
  pub expand-agrees : (f g : ℕ → Option Tree) (t : Tree) → ((d : ℕ) → IsIn d (numbers t) → f d ≡ g d) → expand f t ≡ expand g t
  expand-agrees f g (Leaf v) same = refl
  expand-agrees f g (Node h ts) same =
      ap (applied h (expand_all f ts)) (body_at-agrees f g h (λ d i. same d (in_left d (head_numbers h) (all_numbers ts) i)))
      ∙ ap (λ z. applied h z (body_at g h)) (expand_all-agrees f g ts (λ d i. same d (in_right d (head_numbers h) (all_numbers ts) i)))

  pub expand_all-agrees : (f g : ℕ → Option Tree) (ts : Trees) → ((d : ℕ) → IsIn d (all_numbers ts) → f d ≡ g d) → expand_all f ts ≡ expand_all g ts
  expand_all-agrees f g Nil same = refl
  expand_all-agrees f g (Cons t ts) same =
      ap (λ z. Cons z (expand_all f ts)) (expand-agrees f g t (λ d i. same d (in_left d (numbers t) (all_numbers ts) i)))
      ∙ ap (Cons (expand g t)) (expand_all-agrees f g ts (λ d i. same d (in_right d (numbers t) (all_numbers ts) i)))

-- ---- abbreviations through abbreviations

abbrev pub every : (ℕ → Bool) → List ℕ → Bool
every p [] = true
every p (d ∷ ds) = p d && every p ds

both_true : (a b : Bool) → (a && b) ≡ true → (a ≡ true) × (b ≡ true)
both_true true b e = (refl, e)
both_true false b e = absurd cc

every-in : (p : ℕ → Bool) (ds : List ℕ) → every p ds ≡ true → (d : ℕ) → IsIn d ds → p d ≡ true
every-in p [] e d i = absurd i
every-in p (x ∷ xs) e d (inl s) = ap p s ∙ (both_true (p x) (every p xs) e).0
every-in p (x ∷ xs) e d (inr i) = every-in p xs (both_true (p x) (every p xs) e).1 d i

-- whether p holds of each number that is named, if there is a tree
abbrev pub each_named : (ℕ → Bool) → Option Tree → Bool
each_named p None = true
each_named p (Some t) = every p (numbers t)

abbrev pub is_no_tree : Option Tree → Bool
is_no_tree None = true
is_no_tree (Some t) = false

module _ (bodies : ℕ → Option Tree) where
  -- whether no chain of more than so many abbreviations begins at a number
  abbrev pub is_shallow : ℕ → ℕ → Bool
  is_shallow zero = λ d. is_no_tree (bodies d)
  is_shallow (suc k) = λ d. each_named (is_shallow k) (bodies d)

none_stays : (f : Tree → Tree) (o : Option Tree) → is_no_tree o ≡ true → o ≡ option_map f o
none_stays f None e = refl
none_stays f (Some t) e = absurd cc

same_by_names : (p : ℕ → Bool) (f g : ℕ → Option Tree) (o : Option Tree) → ((d : ℕ) → p d ≡ true → f d ≡ g d) → each_named p o ≡ true → option_map (expand f) o ≡ option_map (expand g) o
same_by_names p f g None same e = refl
same_by_names p f g (Some t) same e = ap Some (expand-agrees f g t (λ d i. same d (every-in p (numbers t) e d i)))

-- more layers than the longest chain change nothing
pub layers-stable : (bodies : ℕ → Option Tree) (k d : ℕ) → is_shallow bodies k d ≡ true → layers bodies k d ≡ layers bodies (suc k) d
layers-stable bodies zero d e = none_stays (expand bodies) (bodies d) e
layers-stable bodies (suc k) d e = same_by_names (is_shallow bodies k) (layers bodies k) (layers bodies (suc k)) (bodies d) (layers-stable bodies k) e
