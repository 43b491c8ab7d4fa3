-- The parts of a numbered program are in the order of the source too.
use Rattle.std.proofs.Common.{◌≡◌, ℕ, zero, suc, ◌+◌, ◌≤◌, List, [], ◌∷◌, ◌++◌, map, length, slice_get, Some, refl, sym, ap, ◌∙◌, subst, arith}
use Rattle.std.specs.List.{range_with_len}
use Rattle.std.proofs.lemmas.List.{append_assoc, append-nil, length-append}
use Rattle.std.proofs.lemmas.List.FromFn.{length-range_with_len}
use Rattle.ml_tree.specs.Nodes.{expr_nodes}
use Rattle.ml_tree.specs.declared.expr.Expr.{Expr, fold-roll-Expr}
use Rattle.ml_tree.specs.declared.program.Program.{Program}
use Rattle.ml_numbers.specs.Ids.{Ids, all, step, arm_step, bind_step, expr_node, field_node, expr_ids, kind_ids, program_ids, IsNumbered}
use Rattle.ml_scope.proofs.Counts.{expr_counts}

-- a part of a list that stands in it without a gap
pub record Inside (part whole : List ℕ) : Type 0 where
  pub before : List ℕ
  pub after : List ℕ
  pub same : before ++ (part ++ after) ≡ whole

pub whole_inside : (xs : List ℕ) → Inside xs xs
whole_inside xs = record { before = []; after = []; same = append-nil xs }

pub left_inside : (xs ys : List ℕ) → Inside xs (xs ++ ys)
left_inside xs ys = record { before = []; after = ys; same = refl }

pub right_inside : (xs ys : List ℕ) → Inside ys (xs ++ ys)
right_inside xs ys = record { before = xs; after = []; same = ap (λ zs. xs ++ zs) (append-nil ys) }

pub inside_inside : (xs ys zs : List ℕ) → Inside xs ys → Inside ys zs → Inside xs zs
inside_inside xs ys zs i j = record {
  before = j.before ++ i.before;
  after = i.after ++ j.after;
  same =
      append_assoc j.before i.before (xs ++ (i.after ++ j.after)) ∙
      (ap (λ l. j.before ++ (i.before ++ l)) (sym (append_assoc xs i.after j.after)) ∙
      (ap (λ l. j.before ++ l) (sym (append_assoc i.before (xs ++ i.after) j.after)) ∙
      (ap (λ l. j.before ++ (l ++ j.after)) i.same ∙ j.same)));
}

pub one_inside : {A : Type 0} (ids : A → Ids) (list : List A) (i : ℕ) (x : A) → slice_get list i ≡ Some x → Inside (ids x).nodes (all (map ids list)).nodes
one_inside ids [] i x e = absurd (cc)
one_inside ids (y ∷ list) zero x e = let here : y ≡ x = cc in subst (λ z. Inside (ids z).nodes (all (map ids (y ∷ list))).nodes) here (left_inside (ids y).nodes (all (map ids list)).nodes)
one_inside ids (y ∷ list) (suc i) x e = inside_inside (ids x).nodes (all (map ids list)).nodes (all (map ids (y ∷ list))).nodes (one_inside ids list i x e) (right_inside (ids y).nodes (all (map ids list)).nodes)

-- where a whole counts up, what stands in it counts up
rest_counts : (xs ys : List ℕ) (a n : ℕ) → xs ++ ys ≡ range_with_len a n → ys ≡ range_with_len (a + length xs) (length ys)
rest_counts [] ys a n e = let many : length ys ≡ n = ap length e ∙ length-range_with_len a n in let from : a + 0 ≡ a = omega arith in e ∙ (ap (range_with_len a) (sym many) ∙ ap (λ b. range_with_len b (length ys)) (sym from))
rest_counts (x ∷ xs) ys a zero e = absurd (cc)
rest_counts (x ∷ xs) ys a (suc n) e = let tails : xs ++ ys ≡ range_with_len (a + 1) n = cc in let from : (a + 1) + length xs ≡ a + suc (length xs) = omega arith in rest_counts xs ys (a + 1) n tails ∙ ap (λ b. range_with_len b (length ys)) from

first_counts : (xs ys : List ℕ) (a n : ℕ) → xs ++ ys ≡ range_with_len a n → xs ≡ range_with_len a (length xs)
first_counts [] ys a n e = refl
first_counts (x ∷ xs) ys a zero e = absurd (cc)
first_counts (x ∷ xs) ys a (suc n) e = let same : x ≡ a = cc in let tails : xs ++ ys ≡ range_with_len (a + 1) n = cc in ap (λ y. y ∷ xs) same ∙ ap (λ zs. a ∷ zs) (first_counts xs ys (a + 1) n tails)

part_counts : (part whole : List ℕ) (a n : ℕ) (i : Inside part whole) → whole ≡ range_with_len a n → part ≡ range_with_len (a + length i.before) (length part)
part_counts part whole a n i counts = first_counts part i.after (a + length i.before) (length (part ++ i.after)) (rest_counts i.before (part ++ i.after) a n (i.same ∙ counts))

part_length : (part whole : List ℕ) (a n : ℕ) (i : Inside part whole) → whole ≡ range_with_len a n → length i.before + length part ≤ n
part_length part whole a n i counts =
    let all : length whole ≡ n = ap length counts ∙ length-range_with_len a n in
    let here : length i.before + length (part ++ i.after) ≡ length whole = sym (length-append i.before (part ++ i.after)) ∙ ap length i.same in
    let there : length (part ++ i.after) ≡ length part + length i.after = length-append part i.after in
    omega (arith, all, here, there)

first_number : (x : ℕ) (xs : List ℕ) (a n : ℕ) → x ∷ xs ≡ range_with_len a n → x ≡ a
first_number x xs a zero e = absurd (cc)
first_number x xs a (suc n) e = cc

-- an expression's own number comes first
expr_head : (x : Expr) → (expr_ids x).nodes ≡ x.id ∷ (kind_ids x.kind).nodes
expr_head x = ap (λ (i : Ids). i.nodes) (fold-roll-Expr Ids Ids Ids Ids Ids step arm_step bind_step expr_node field_node (record { id = x.id; span = x.span; kind = x.kind }))

starts_at : (x : Expr) (whole : List ℕ) (a n : ℕ) (i : Inside (expr_ids x).nodes whole) → whole ≡ range_with_len a n → x.id ≡ a + length i.before
starts_at x whole a n i counts = first_number x.id (kind_ids x.kind).nodes (a + length i.before) (length (expr_ids x).nodes) (sym (expr_head x) ∙ part_counts (expr_ids x).nodes whole a n i counts)

-- an expression that stands in a numbered program is in order, which is what `free_names` asks for
pub in_order : (p : Program) (x : Expr) → IsNumbered p → Inside (expr_ids x).nodes (program_ids p).nodes → (expr_ids x).nodes ≡ range_with_len x.id (expr_nodes x)
in_order p x numbered i =
    part_counts (expr_ids x).nodes (program_ids p).nodes 0 p.nodes i numbered.nodes ∙
    (ap (λ n. range_with_len n (length (expr_ids x).nodes)) (sym (starts_at x (program_ids p).nodes 0 p.nodes i numbered.nodes)) ∙
    ap (range_with_len x.id) (expr_counts x))

-- and its numbers are below the program's count
pub within : (p : Program) (x : Expr) → IsNumbered p → Inside (expr_ids x).nodes (program_ids p).nodes → x.id + expr_nodes x ≤ p.nodes
within p x numbered i =
    let long = part_length (expr_ids x).nodes (program_ids p).nodes 0 p.nodes i numbered.nodes in
    omega (arith, long, starts_at x (program_ids p).nodes 0 p.nodes i numbered.nodes, expr_counts x)
