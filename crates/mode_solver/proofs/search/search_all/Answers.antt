use Rattle.std.proofs.Common.{◌+◌, ℕ, take, List, is_some, sym, ◌∙◌, subst, arith}
use Rattle.std.proofs.lemmas.List.{take_all}
use Rattle.mode_lattice.specs.declared.clause.Form.{Form}
use Rattle.mode_solver.specs.Forms.{AllBelow}
use Rattle.mode_solver.specs.Graph.{entry}
use Rattle.mode_solver.specs.Searching.{IsComplete}
use Rattle.mode_solver.proofs.Tables.{AllBelow-take, Fits-complete, IsLeastOf-complete}
use Rattle.mode_solver.proofs.search.search_all.Goals as goal

pub add-requires-clause-below : goal.add-requires-clause-below
add-requires-clause-below c =
    let P : ℕ → Type 0 = λ n. AllBelow n (take (c.loop-number.number + 1) c.args.forms.now) in
    subst P (sym c.loop-number.invariant.count) (AllBelow-take _ _ _ c.requires.below)

pub conflict-requires-clause-below : goal.conflict-requires-clause-below
conflict-requires-clause-below c =
    let P : ℕ → Type 0 = λ n. AllBelow n (take (c.loop-number.number + 1) c.args.forms.now) in
    subst P (sym (c.in_ok-bit.ensures.count ∙ c.loop-number.invariant.count)) (AllBelow-take _ _ _ c.requires.below)

pub returns-in-Some : goal.returns-in-Some
returns-in-Some c = record {
  within = omega arith;
  before = ((λ b. is_some (entry c.loop-number.state.reach.place.items b)), Fits-complete _ _ c.loop-number.invariant.complete);
  path_is = c.in_ok-path.ensures;
}

pub returns : goal.returns
returns c =
    let all = take_all c.loop-number.number c.args.forms.now (omega arith) in
    let P : List Form → Type 0 = λ forms. IsComplete forms c.loop-number.state in
    IsLeastOf-complete _ _ c.loop-number.state _ (subst P all c.loop-number.invariant.complete) c.loop-number.invariant.count c.in_ok-table.ensures
