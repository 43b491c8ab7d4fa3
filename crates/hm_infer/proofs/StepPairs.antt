-- The pairs of all steps, as they are lowered one step after the other.
use Rattle.std.proofs.Common.{◌≡◌, ℕ, zero, suc, ◌+◌, ◌<◌, ◌≤◌, List, [], ◌∷◌, ◌++◌, map, take, length, Some, None, get_or, refl, sym, ap, ◌∙◌, subst, add-one, append_assoc}
use Rattle.std.specs.List.{slice_get}
use Rattle.std.proofs.lemmas.List.{append-nil}
use Rattle.std.proofs.lemmas.Option.{slice_get_read}
use Rattle.ml_types.specs.declared.declared.DeclInfo.{DeclInfo}
use Rattle.ml_typing.specs.declared.equation.Equation.{Equation}
use Rattle.ml_typing.specs.declared.equation.Step.{Step}
use Rattle.ml_typing.specs.Terms.{Context}
use Rattle.ml_typing.specs.Typing.{Pair, pair_of, pairs, step_pairs}
use Rattle.hm_unify.specs.Solutions.{Pairs}
use Rattle.hm_terms.specs.Stores.{Store}
use Rattle.hm_terms.specs.Contexts.{IsRead}
use Rattle.hm_terms.proofs.Growth.{grows_same, grows_then}
use Rattle.hm_terms.proofs.Contexts.{read_grows}
use Rattle.hm_terms.proofs.Walking.{take_all}
use Rattle.hm_infer.specs.Running.{HoldPairs, LowersPairs}

pairs_suc : (c : Context) (steps : List Step) (n : ℕ) (step : Step) → slice_get steps n ≡ Some step → pairs c (take (suc n) steps) ≡ pairs c (take n steps) ++ step_pairs c step
pairs_suc c [] n step e = absurd (let q : None ≡ Some step = e in cc)
pairs_suc c (s ∷ steps) zero step e = let q : s ≡ step = cc in append-nil (step_pairs c s) ∙ ap (step_pairs c) q
pairs_suc c (s ∷ steps) (suc n) step e =
    ap (λ (ps : List Pair). step_pairs c s ++ ps) (pairs_suc c steps n step e) ∙ sym (append_assoc (step_pairs c s) (pairs c (take n steps)) (step_pairs c step))

pairs_next : (c : Context) (steps : List Step) (n : ℕ) (step : Step) → slice_get steps n ≡ Some step → pairs c (take (n + 1) steps) ≡ pairs c (take n steps) ++ step_pairs c step
pairs_next c steps n step e = rw add-one (pairs_suc c steps n step e)

-- no step yet
pub all_none : (s : Store) (c : Context) (steps : List Step) (ids : Pairs) → ids ≡ [] → LowersPairs s s (pairs c (take 0 steps)) ids
all_none s c steps ids e = record { grows = grows_same s; hold = subst (λ (is : Pairs). HoldPairs s [] is) (sym e) tt }

-- one step more
pub all_next : (first old new : Store) (decls : List DeclInfo) (c : Context) (steps : List Step) (n : ℕ) (step : Step) (slice : List Equation) (ids more : Pairs) → n < length steps → step ≡ get_or steps n step → slice ≡ step.equations → IsRead first decls c → LowersPairs first old (pairs c (take n steps)) ids → ((b : Context) (before : List Pair) → IsRead old decls b → HoldPairs old before ids → LowersPairs old new (before ++ map (pair_of b) slice) more) → LowersPairs first new (pairs c (take (n + 1) steps)) more
all_next first old new decls c steps n step slice ids more lt is same k l pushes =
    let next = pushes c (pairs c (take n steps)) (read_grows first old decls c k l.grows) l.hold in
    let grown : pairs c (take (n + 1) steps) ≡ pairs c (take n steps) ++ map (pair_of c) slice =
    pairs_next c steps n step (slice_get_read steps (length steps) n step refl lt is) ∙ ap (λ (es : List Equation). pairs c (take n steps) ++ map (pair_of c) es) (sym same) in
    record {
      grows = grows_then first old new l.grows next.grows;
      hold = subst (λ (ps : List Pair). HoldPairs new ps more) (sym grown) next.hold;
    }

-- all steps
pub all_done : (first old : Store) (c : Context) (steps : List Step) (n : ℕ) (ids : Pairs) → length steps ≤ n → LowersPairs first old (pairs c (take n steps)) ids → LowersPairs first old (pairs c steps) ids
all_done first old c steps n ids h l =
    subst (λ (ss : List Step). LowersPairs first old (pairs c ss) ids) (take_all steps n h) l
