use Rattle.std.proofs.lemmas.Result.{on_ok_weaker}
use Rattle.graph_cycles.proofs.walk.Walk.follow.Goals as goal

pub returns-then-number-eq0 : goal.returns-then-number-eq0
returns-then-number-eq0 c = on_ok_weaker c.go_on.result (λ f graph edge w. f graph edge (c.note_loop.ensures graph edge w)) c.go_on.ensures

pub returns-else-number-eq0 : goal.returns-else-number-eq0
returns-else-number-eq0 c = on_ok_weaker c.meet_again.result (λ f graph edge w. f graph edge (c.note_loop.ensures graph edge w)) c.meet_again.ensures
