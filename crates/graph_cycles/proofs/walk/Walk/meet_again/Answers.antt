use Rattle.std.proofs.Common.{refl}
use Rattle.graph_cycles.proofs.Walks.{walk_merge}
use Rattle.graph_cycles.proofs.walk.Walk.meet_again.Goals as goal

pub returns : goal.returns
returns c = λ graph edge w. walk_merge _ _ c.args.from c.args.to _ c.merge.ensures.nodes c.merge.ensures.begins refl (c.if-not-stands.ensures refl) (c.if-not-is_in_last.ensures refl w.grouped.rise) edge w
