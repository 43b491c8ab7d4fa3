-- The fresh types of arguments, one after the other.
use Rattle.std.proofs.Common.{◌≡◌, ℕ, suc, ◌+◌, ◌<◌, ◌≤◌, List, [], ◌∷◌, ◌++◌, map, length, get_or, drop, refl, sym, ap, ◌∙◌, add-one, drop-cons, arith}
use Rattle.std.proofs.lemmas.List.{append_assoc, append-nil, drop_all}
use Rattle.ml_tree.specs.declared.expr.Expr.{Expr, out-Expr}
use Rattle.ml_typing.specs.declared.equation.Unknown.TheVariants.{Node}
use Rattle.ml_typing.specs.declared.equation.Term.{Term}
use Rattle.ml_typing.specs.declared.equation.Equation.{Equation}
use Rattle.ml_typing.specs.Written.{Names}
use Rattle.ml_typing.specs.Rows.{equation, node_is, at}
use Rattle.ml_typing.specs.Steps.{expression, ats, args_are}
use Rattle.hm_steps.proofs.RowParts.{expression_is}

split : (xs : List Expr) (i : ℕ) (x : Expr) → i < length xs → x ≡ get_or xs i x → drop i xs ≡ x ∷ drop (i + 1) xs
split xs i x lt e = rw add-one (drop-cons xs i x lt ∙ ap (λ z. z ∷ drop (suc i) xs) (sym e))

next : (xs : List Expr) (i : ℕ) → i < length xs → (x : Expr) × (drop i xs ≡ x ∷ drop (i + 1) xs)
next [] i lt = absurd (omega (arith, lt))
next (x ∷ xs) i lt = (get_or (x ∷ xs) i x, rw add-one (drop-cons (x ∷ xs) i x lt))

pub types_step : (names : Names) (n : ℕ) (xs : List Expr) (i : ℕ) (old new all : List Term) → i < length xs → new ≡ old ++ at n i ∷ [] → old ++ ats n i (map (expression names) (drop i xs)) ≡ all → new ++ ats n (i + 1) (map (expression names) (drop (i + 1) xs)) ≡ all
types_step names n xs i old new all lt grown h =
    let s : (x : Expr) × (drop i xs ≡ x ∷ drop (i + 1) xs) = next xs i lt in
    let rest = ats n (i + 1) (map (expression names) (drop (i + 1) xs)) in
    ap (λ z. z ++ rest) grown ∙ (append_assoc old (at n i ∷ []) rest ∙ (ap (λ z. old ++ ats n i (map (expression names) z)) (sym s.1) ∙ h))

pub types_end : (names : Names) (n : ℕ) (xs : List Expr) (i : ℕ) (ready all : List Term) → length xs ≤ i → ready ++ ats n i (map (expression names) (drop i xs)) ≡ all → ready ≡ all
types_end names n xs i ready all le h = sym (append-nil ready) ∙ (ap (λ z. ready ++ ats n i (map (expression names) z)) (sym (drop_all i xs le)) ∙ h)

pub args_step : (names : Names) (n : ℕ) (xs : List Expr) (i : ℕ) (x : Expr) (right : Term) (old new all : List Equation) → i < length xs → x ≡ get_or xs i x → right ≡ at n i → new ≡ old ++ equation (out-Expr x).span (Node (out-Expr x).id) right ∷ [] → old ++ args_are n i (map (expression names) (drop i xs)) ≡ all → new ++ args_are n (i + 1) (map (expression names) (drop (i + 1) xs)) ≡ all
args_step names n xs i x right old new all lt is r grown h =
    let rest = args_are n (i + 1) (map (expression names) (drop (i + 1) xs)) in
    ap (λ z. z ++ rest) (grown ∙ ap (λ z. old ++ z ∷ []) (expression_is names x x right (at n i) refl r))
    ∙ (append_assoc old (node_is (expression names x) (at n i) ∷ []) rest ∙ (ap (λ z. old ++ args_are n i (map (expression names) z)) (sym (split xs i x lt is)) ∙ h))

pub args_end : (names : Names) (n : ℕ) (xs : List Expr) (i : ℕ) (ready all : List Equation) → length xs ≤ i → ready ++ args_are n i (map (expression names) (drop i xs)) ≡ all → ready ≡ all
args_end names n xs i ready all le h = sym (append-nil ready) ∙ (ap (λ z. ready ++ args_are n i (map (expression names) z)) (sym (drop_all i xs le)) ∙ h)
