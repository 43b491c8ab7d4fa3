use Rattle.std.proofs.Common.{refl}
use Rattle.graph_cycles.proofs.Walks.{walk_enter}
use Rattle.graph_cycles.proofs.walk.Walk.go_on.Goals as goal

pub returns : goal.returns
returns c = λ graph edge w. walk_enter _ _ c.args.from c.args.to c.in_ok-enter.ensures.nodes c.in_ok-enter.ensures.begins c.in_ok-enter.ensures.cyclic (c.if-not-is_in_last.ensures refl w.grouped.rise) edge w
