use Rattle.std.proofs.Common.{refl}
use Rattle.graph_cycles.proofs.Walks.{walk_mark}
use Rattle.graph_cycles.proofs.walk.Walk.note_loop.Goals as goal

pub returns-then-from-to : goal.returns-then-from-to
returns-then-from-to c = λ graph edge w. walk_mark _ _ c.args.from c.args.to c.if-from-to.true refl refl c.mark.ensures edge w
