use Rattle.std.proofs.Common.{refl}
use Rattle.std.proofs.lemmas.Option.{slice_get_within}
use Rattle.std.proofs.lemmas.Result.{on_ok_weaker}
use Rattle.graph_cycles.proofs.walk.Walk.leave.Goals as goal

pub complete_group-requires : goal.complete_group-requires
complete_group-requires c = slice_get_within _ _ _ (c.if-stands.ensures refl)

pub returns-then-stands : goal.returns-then-stands
returns-then-stands c = on_ok_weaker c.complete_group.result (λ f graph w. f graph c.last_begin-begin.ensures.is (c.last_begin-begin.ensures.last w.grouped.rise) w) c.complete_group.ensures
