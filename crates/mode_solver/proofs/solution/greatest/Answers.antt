use Rattle.std.proofs.Common.{◌≡◌, ◌+◌, length, map, List, not, sym, ap, ◌∙◌, subst}
use Rattle.std.proofs.lemmas.List.{length-map}
use Rattle.std.proofs.lemmas.Result.{IfOk-weaker}
use Rattle.mode_lattice.specs.declared.clause.Form.{Form}
use Rattle.mode_solver.specs.declared.search.Outcome.{Outcome}
use Rattle.mode_solver.specs.Forms.{Fits, AllBelow, turned}
use Rattle.mode_solver.specs.Searching.{IsLeastOf, IsGreatestOf, IsConflictOf, IsOutcome}
use Rattle.mode_solver.proofs.Turns.{Fits-turned, AllBelow-turned, IsGreatestOf-turned, path-none, Fits-take}
use Rattle.mode_solver.proofs.solution.greatest.Goals as goal

pub search_all-requires-clause-below : goal.search_all-requires-clause-below
search_all-requires-clause-below c =
    let P : List Form → Type 0 = λ forms. AllBelow c.args.bits forms in
    subst P (sym (c.as_slice.ensures.value ∙ c.in_ok-turned.ensures)) (AllBelow-turned _ _ c.requires.below)

pub search_all-requires-clause-short : goal.search_all-requires-clause-short
search_all-requires-clause-short c =
    let count = ap length (c.as_slice.ensures.value ∙ c.in_ok-turned.ensures) ∙ length-map c.args.forms.now turned in
    rw count c.requires.short

pub unreachable-requires : goal.unreachable-requires
unreachable-requires c =
    let P : Outcome → Type 0 = λ o. IsOutcome c.args.bits c.as_slice.result.now o in
    let conflict : IsConflictOf c.as_slice.result.now c.in-Conflict.last c.in-Conflict.path = subst P c.in-Conflict.is c.in_ok-least.ensures in
    let Q : List Form → Type 0 = λ forms. Fits (λ b. not (c.requires.some.0 b)) forms in
    let fits = subst Q (sym (c.as_slice.ensures.value ∙ c.in_ok-turned.ensures)) (Fits-turned c.requires.some.0 c.args.forms.now c.requires.some.1) in
    path-none _ _ _ (Fits-take _ (c.in-Conflict.last + 1) _ fits) conflict.path_is

pub returns : goal.returns
returns c =
    let P : Outcome → Type 0 = λ o. IsOutcome c.args.bits c.as_slice.result.now o in
    let least : IsLeastOf c.args.bits c.as_slice.result.now c.in-Least.least.items = subst P c.in-Least.is c.in_ok-least.ensures in
    let Q : List Form → Type 0 = λ forms. IsLeastOf c.args.bits forms c.in-Least.least.items in
    let turned_least = subst Q (c.as_slice.ensures.value ∙ c.in_ok-turned.ensures) least in
    IfOk-weaker c.opposite.result (λ v. v.items ≡ map not c.as_slice-in-Least.result.now) (λ v. IsGreatestOf c.args.bits c.args.forms.now v.items)
    (λ v e. IsGreatestOf-turned _ _ _ _ c.requires.below turned_least (e ∙ ap (map not) c.as_slice-in-Least.ensures.value)) c.opposite.ensures
