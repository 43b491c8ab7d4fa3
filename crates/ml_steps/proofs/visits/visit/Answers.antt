use Rattle.std.proofs.Common.{refl}
use Rattle.ml_steps.specs.Worlds.{setting_of}
use Rattle.ml_steps.proofs.Beginnings.{steps_as}
use Rattle.ml_steps.proofs.KindRuns.{evaluated_is}
use Rattle.ml_steps.proofs.visits.visit.Goals as goal

pub returns : goal.returns
returns c =
    let s = setting_of c.args.world in
    steps_as s c.args.told.now.items c.visit_kind.new.told.items c.visit_kind.result _ _
    (evaluated_is s c.args.e.now c.args.here refl) c.visit_kind.ensures
