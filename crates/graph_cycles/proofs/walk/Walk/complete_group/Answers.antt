use Rattle.std.proofs.Common.{refl}
use Rattle.graph_cycles.proofs.Lists.{slice_from}
use Rattle.graph_cycles.proofs.Walks.{walk_close}
use Rattle.graph_cycles.proofs.walk.Walk.complete_group.Goals as goal

pub returns : goal.returns
returns c = λ graph last none w. walk_close _ _ _ _ c.args.begin (slice_from _ _ c.args.begin c.deref.ensures.value) (c.mark_group.ensures graph) c.close.ensures.nodes c.close.ensures.begins refl last none w
