use Rattle.std.proofs.Common.{◌≡◌, None, Some, List, take, sym, refl, ◌∙◌, subst, arith}
use Rattle.std.proofs.lemmas.List.{get_or_read}
use Rattle.std.specs.Vec.{with_item}
use Rattle.mode_lattice.specs.declared.clause.Form.{Form}
use Rattle.mode_solver.specs.declared.search.Search.{Search}
use Rattle.mode_solver.specs.Graph.{entry}
use Rattle.mode_solver.specs.Searching.{IsComplete, IsBlocked}
use Rattle.mode_solver.proofs.Lists.{split_last, length_before_last, some_of, none_of}
use Rattle.mode_solver.proofs.Searches.{IsSearch-forbid, IsBlocked-forbid}
use Rattle.mode_solver.proofs.search.Search.forbid.Goals as goal

pub index_mut-requires : goal.index_mut-requires
index_mut-requires c =
    let within = c.requires.below.each _ _ c.requires.last in
    omega (arith, within, c.requires.before.forbidden_count)

pub index-requires : goal.index-requires
index-requires c =
    let within = c.requires.below.each _ _ c.requires.last in
    omega (arith, within)

pub returns-then-is_some-clause-blocked : goal.returns-then-is_some-clause-blocked
returns-then-is_some-clause-blocked c =
    let within = c.requires.below.each _ _ c.requires.last in
    let whole = split_last c.args.seen.now c.args.clause _ c.requires.count c.requires.last in
    let after : Search = record { implications = c.skip.new.self; forbidden = with_item c.args.self.now.forbidden c.args.bit.0 (Some c.args.clause); reach = c.args.self.now.reach } in
    let read : c.index.result.now ≡ entry c.args.self.now.reach.place.items c.args.bit.0 = get_or_read _ _ _ within c.index.ensures None in
    let some = some_of c.index.result.now (sym c.if-is_some.ensures) in
    let P : List Form → Type 0 = λ forms. IsBlocked forms after c.args.bit in
    subst P (sym whole) (IsBlocked-forbid (take c.args.clause c.args.seen.now) c.args.clause c.args.bit c.args.self.now after (length_before_last c.args.seen.now c.args.clause c.requires.count) c.requires.before within refl refl (some.0, sym read ∙ some.1))

pub returns-clause-all : goal.returns-clause-all
returns-clause-all c =
    let within = c.requires.below.each _ _ c.requires.last in
    let whole = split_last c.args.seen.now c.args.clause _ c.requires.count c.requires.last in
    let after : Search = record { implications = c.skip.new.self; forbidden = with_item c.args.self.now.forbidden c.args.bit.0 (Some c.args.clause); reach = c.args.self.now.reach } in
    let read : c.index.result.now ≡ entry c.args.self.now.reach.place.items c.args.bit.0 = get_or_read _ _ _ within c.index.ensures None in
    let none = none_of c.index.result.now (sym c.if-is_some.ensures) in
    let P : List Form → Type 0 = λ forms. IsComplete forms after in
    subst P (sym whole) (IsSearch-forbid (take c.args.clause c.args.seen.now) c.args.clause c.args.bit c.args.self.now after (length_before_last c.args.seen.now c.args.clause c.requires.count) c.requires.before within c.in_ok-skip.ensures.first c.in_ok-skip.ensures.next refl refl (sym read ∙ none))
