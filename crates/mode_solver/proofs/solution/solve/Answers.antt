use Rattle.std.proofs.Common.{◌≡◌, length, List, Bool, Some, sym, refl, ap, ◌∙◌, subst, slice_get}
use Rattle.std.proofs.lemmas.List.{length-map}
use Rattle.mode_lattice.specs.declared.clause.Clause.{Clause}
use Rattle.mode_lattice.specs.declared.clause.Form.{Form}
use Rattle.mode_solver.specs.declared.error.ModeErr.{ModeErr}
use Rattle.mode_solver.specs.declared.search.Outcome.{Outcome}
use Rattle.mode_solver.specs.Forms.{AllBelow}
use Rattle.mode_solver.specs.Searching.{IsLeastOf, IsGreatestOf, IsConflictOf, IsOutcome}
use Rattle.mode_solver.specs.Solving.{IsCause}
use Rattle.mode_solver.proofs.Conversions.{forms_of, AllBelow-from_closed, IsLeast-from_forms, IsGreatest-from_forms, IsRefused-from_forms}
use Rattle.mode_solver.proofs.solution.solve.Goals as goal

pub search_all-requires-clause-below : goal.search_all-requires-clause-below
search_all-requires-clause-below c =
    let forms_is : c.as_slice.result.now ≡ forms_of c.args.c.now.list = c.as_slice.ensures.value ∙ (c.in_ok-forms.ensures ∙ ap forms_of c.as_slice-list.ensures) in
    let P : List Form → Type 0 = λ forms. AllBelow c.args.c.now.bits forms in
    subst P (sym forms_is) (AllBelow-from_closed _ c.requires.closed)

pub search_all-requires-clause-short : goal.search_all-requires-clause-short
search_all-requires-clause-short c =
    let forms_is : c.as_slice.result.now ≡ forms_of c.args.c.now.list = c.as_slice.ensures.value ∙ (c.in_ok-forms.ensures ∙ ap forms_of c.as_slice-list.ensures) in
    let count = ap length forms_is ∙ length-map c.args.c.now.list (λ (x : Clause). x.form) in
    rw count c.requires.short

pub refused-requires : goal.refused-requires
refused-requires c =
    let P : Outcome → Type 0 = λ o. IsOutcome c.args.c.now.bits c.as_slice.result.now o in
    let conflict : IsConflictOf c.as_slice.result.now c.in-Conflict.last c.in-Conflict.path = subst P c.in-Conflict.is c.in_ok-last.ensures in
    let forms_is = c.as_slice.ensures.value ∙ c.in_ok-forms.ensures in
    let count = ap length forms_is ∙ length-map c.as_slice-list.result.now (λ (x : Clause). x.form) in
    rw (← count) conflict.within

pub returns-in-Conflict-clause-refused : goal.returns-in-Conflict-clause-refused
returns-in-Conflict-clause-refused c =
    let forms_is : c.as_slice.result.now ≡ forms_of c.args.c.now.list = c.as_slice.ensures.value ∙ (c.in_ok-forms.ensures ∙ ap forms_of c.as_slice-list.ensures) in
    let P : Outcome → Type 0 = λ o. IsOutcome c.args.c.now.bits c.as_slice.result.now o in
    let conflict : IsConflictOf c.as_slice.result.now c.in-Conflict.last c.in-Conflict.path = subst P c.in-Conflict.is c.in_ok-last.ensures in
    let Q : List Form → Type 0 = λ forms. IsConflictOf forms c.in-Conflict.last c.in-Conflict.path in
    let w = c.refused.ensures in
    let S : List Clause → Type 0 = λ list. slice_get list c.in-Conflict.last ≡ Some w.0 in
    let R : ModeErr → Type 0 = λ e. IsCause c.args.c.now e in
    subst R (sym w.2) (IsRefused-from_forms c.args.c.now c.in-Conflict.last _ c.in-Conflict.path w.0 (subst S c.as_slice-list.ensures w.1) refl (subst Q forms_is conflict))

pub greatest-requires-clause-below : goal.greatest-requires-clause-below
greatest-requires-clause-below c =
    let forms_is : c.as_slice-in-Least.result.now ≡ forms_of c.args.c.now.list = c.as_slice-in-Least.ensures.value ∙ (c.in_ok-forms.ensures ∙ ap forms_of c.as_slice-list.ensures) in
    let P : List Form → Type 0 = λ forms. AllBelow c.args.c.now.bits forms in
    subst P (sym forms_is) (AllBelow-from_closed _ c.requires.closed)

pub greatest-requires-clause-short : goal.greatest-requires-clause-short
greatest-requires-clause-short c =
    let forms_is : c.as_slice-in-Least.result.now ≡ forms_of c.args.c.now.list = c.as_slice-in-Least.ensures.value ∙ (c.in_ok-forms.ensures ∙ ap forms_of c.as_slice-list.ensures) in
    let count = ap length forms_is ∙ length-map c.args.c.now.list (λ (x : Clause). x.form) in
    rw count c.requires.short

pub greatest-requires-clause-some : goal.greatest-requires-clause-some
greatest-requires-clause-some c =
    let P : Outcome → Type 0 = λ o. IsOutcome c.args.c.now.bits c.as_slice.result.now o in
    let least : IsLeastOf c.args.c.now.bits c.as_slice.result.now c.in-Least.least.items = subst P c.in-Least.is c.in_ok-last.ensures in
    let Q : List Form → Type 0 = λ forms. IsLeastOf c.args.c.now.bits forms c.in-Least.least.items in
    let there = subst Q (c.as_slice.ensures.value ∙ sym c.as_slice-in-Least.ensures.value) least in
    (_, there.fits)

pub returns-clause-least : goal.returns-clause-least
returns-clause-least c =
    let forms_is : c.as_slice.result.now ≡ forms_of c.args.c.now.list = c.as_slice.ensures.value ∙ (c.in_ok-forms.ensures ∙ ap forms_of c.as_slice-list.ensures) in
    let P : Outcome → Type 0 = λ o. IsOutcome c.args.c.now.bits c.as_slice.result.now o in
    let least : IsLeastOf c.args.c.now.bits c.as_slice.result.now c.in-Least.least.items = subst P c.in-Least.is c.in_ok-last.ensures in
    let Q : List Form → Type 0 = λ forms. IsLeastOf c.args.c.now.bits forms c.in-Least.least.items in
    let R : List Bool → Type 0 = λ bits. IsLeastOf c.args.c.now.bits (forms_of c.args.c.now.list) bits in
    IsLeast-from_forms c.args.c.now c.table.result (subst R (sym c.table.ensures) (subst Q forms_is least))

pub returns-clause-greatest : goal.returns-clause-greatest
returns-clause-greatest c =
    let forms_is : c.as_slice-in-Least.result.now ≡ forms_of c.args.c.now.list = c.as_slice-in-Least.ensures.value ∙ (c.in_ok-forms.ensures ∙ ap forms_of c.as_slice-list.ensures) in
    let Q : List Form → Type 0 = λ forms. IsGreatestOf c.args.c.now.bits forms c.in_ok-greatest-in-Least.greatest.items in
    let R : List Bool → Type 0 = λ bits. IsGreatestOf c.args.c.now.bits (forms_of c.args.c.now.list) bits in
    IsGreatest-from_forms c.args.c.now c.table-in-Least.result (subst R (sym c.table-in-Least.ensures) (subst Q forms_is c.in_ok-greatest-in-Least.ensures))
