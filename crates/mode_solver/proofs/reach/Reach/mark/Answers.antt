use Rattle.std.proofs.Common.{◌≡◌, refl, None, ◌∙◌, sym}
use Rattle.std.proofs.lemmas.List.{get_or_read}
use Rattle.mode_solver.specs.Graph.{entry}
use Rattle.mode_solver.specs.Reaching.{Before}
use Rattle.mode_solver.proofs.Lists.{some_of}
use Rattle.mode_solver.proofs.reach.Reach.mark.Goals as goal

pub returns-else-is_none : goal.returns-else-is_none
returns-else-is_none c =
    let read : c.index.result.now ≡ entry c.args.self.now.place.items c.args.bit.0 = get_or_read _ _ _ c.requires.within c.index.ensures None in
    let some = some_of c.index.result.now (c.if-is_none.ensures) in
    Before some.0 (sym read ∙ some.1) refl refl
