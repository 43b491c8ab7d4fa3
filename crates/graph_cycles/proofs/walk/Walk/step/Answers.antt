use Rattle.std.proofs.Common.{refl}
use Rattle.std.proofs.lemmas.Result.{on_ok_weaker}
use Rattle.graph_cycles.proofs.Walks.{same_walk}
use Rattle.graph_cycles.proofs.walk.Walk.step.Goals as goal

pub returns-in-None : goal.returns-in-None
returns-in-None c = on_ok_weaker c.leave.result (λ f. f c.args.graph.now c.requires) c.leave.ensures

pub returns-then-to-graph : goal.returns-then-to-graph
returns-then-to-graph c = same_walk _ _ refl refl refl c.requires

pub returns-else-to-graph : goal.returns-else-to-graph
returns-else-to-graph c = on_ok_weaker c.follow.result (λ f. f c.args.graph.now c.in-Some.ensures (same_walk _ _ refl refl refl c.requires)) c.follow.ensures
