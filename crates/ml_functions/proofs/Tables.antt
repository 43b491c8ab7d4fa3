-- A loop that puts the functions of each part behind those that are there.
use Rattle.std.proofs.Common.{◌≡◌, ℕ, suc, ◌+◌, ◌<◌, ◌≤◌, List, [], ◌∷◌, ◌++◌, map, sum, length, get_or, drop, Option, refl, sym, ap, ◌∙◌, add-one, drop-cons}
use Rattle.std.specs.List.{flat_map}
use Rattle.std.proofs.lemmas.List.{append_assoc, append-nil, drop_all, map-append}
use Rattle.ml_tree.specs.declared.expr.Expr.{Expr}
use Rattle.ml_tree.specs.declared.expr.Arm.{Arm}
use Rattle.ml_tree.specs.declared.pattern.Param.{Param}
use Rattle.ml_meaning.specs.Names.{References}
use Rattle.ml_meaning.specs.Captures.{together, bound_by_params, binders, binders_of_arm, uses, uses_of_arm, free}
use Rattle.ml_meaning.specs.Weights.{patterns_of_params, expressions_of, expressions_of_arm, weight}
use Rattle.ml_meaning.specs.Functions as m
use Rattle.ml_meaning.specs.Functions.{FunctionCode, Functions, at_most_one, with_params, with_arms}
use Rattle.ml_functions.specs.declared.function.Function.{Function}
use Rattle.ml_meaning.specs.Tellings.{Setting}
use Rattle.ml_meaning.specs.Evaluation.{body_arity}
use Rattle.ml_functions.specs.Table.{arity_of, code_of, entries, entry_of}

-- the functions that are there, and those of the parts from this index on, are those from before and those of all parts
pub record Lists {A : Type 0} (f : A → Functions) (xs : List A) (i : ℕ) (before now : Functions) : Type 0 where
  pub so_far : now ++ flat_map f (drop i xs) ≡ before ++ flat_map f xs

pub table_start : {A : Type 0} (f : A → Functions) (xs : List A) (before : Functions) → Lists f xs 0 before before
table_start f xs before = record { so_far = refl }

split : {A : Type 0} (xs : List A) (i : ℕ) (x : A) → i < length xs → x ≡ get_or xs i x → drop i xs ≡ x ∷ drop (i + 1) xs
split xs i x lt e = rw add-one (drop-cons xs i x lt ∙ ap (λ z. z ∷ drop (suc i) xs) (sym e))

pub table_step : {A : Type 0} (f : A → Functions) (xs : List A) (i : ℕ) (x : A) (before now after : Functions) → i < length xs → x ≡ get_or xs i x → after ≡ now ++ f x → Lists f xs i before now → Lists f xs (i + 1) before after
table_step f xs i x before now after lt is e g =
    let rest = flat_map f (drop (i + 1) xs) in
    let here : now ++ (f x ++ rest) ≡ before ++ flat_map f xs = ap (λ zs. now ++ flat_map f zs) (sym (split xs i x lt is)) ∙ g.so_far in
    record { so_far = ap (λ ys. ys ++ rest) e ∙ (append_assoc now (f x) rest ∙ here) }

pub table_end : {A : Type 0} (f : A → Functions) (xs : List A) (i : ℕ) (before now : Functions) → length xs ≤ i → Lists f xs i before now → now ≡ before ++ flat_map f xs
table_end f xs i before now le g = sym (append-nil now) ∙ (ap (λ zs. now ++ flat_map f zs) (sym (drop_all i xs le)) ∙ g.so_far)

pub one_more : (before after : List (ℕ × Function)) (node : ℕ) (f : Function) (code : FunctionCode) → after ≡ before ++ (node, f) ∷ [] → code_of f ≡ code → entries after ≡ entries before ++ (node, code) ∷ []
one_more before after node f code e same = ap entries e ∙ (map-append entry_of before ((node, f) ∷ []) ∙ ap (λ c. entries before ++ (node, c) ∷ []) same)

pub params_code : (names : References) (own : Option ℕ) (params : List Param) (body : Expr) (captures found_uses found_binders : List ℕ) (w : ℕ) → captures ≡ free (at_most_one own ++ found_binders) found_uses → found_uses ≡ uses names body → found_binders ≡ bound_by_params params ++ binders body → w ≡ weight (patterns_of_params params + expressions_of body) → record { own = own; captures = captures; params = params; body = m.Single body; weight = w } ≡ with_params names own params body
params_code names own params body captures found_uses found_binders w c u b e =
    λ i. record { own = own; captures = (c ∙ (ap (λ xs. free (at_most_one own ++ found_binders) xs) u ∙ ap (λ xs. free (at_most_one own ++ xs) (uses names body)) b)) i; params = params; body = m.Single body; weight = e i }

pub arms_code : (names : References) (own : Option ℕ) (arms : List Arm) (captures found_uses found_binders : List ℕ) (w : ℕ) → captures ≡ free (at_most_one own ++ found_binders) found_uses → found_uses ≡ together (map (uses_of_arm names) arms) → found_binders ≡ together (map binders_of_arm arms) → w ≡ weight (sum (map expressions_of_arm arms)) → record { own = own; captures = captures; params = []; body = m.Cases arms; weight = w } ≡ with_arms names own arms
arms_code names own arms captures found_uses found_binders w c u b e =
    λ i. record { own = own; captures = (c ∙ (ap (λ xs. free (at_most_one own ++ found_binders) xs) u ∙ ap (λ xs. free (at_most_one own ++ xs) (together (map (uses_of_arm names) arms))) b)) i; params = []; body = m.Cases arms; weight = e i }

-- the arity of a body is that of the meaning
pub arity_is : (E : Type 0) (s : Setting E) (b : m.Body) (params : ℕ) → arity_of b params ≡ body_arity E s b params
arity_is E s (m.Single body) params = refl
arity_is E s (m.Cases arms) params = refl
