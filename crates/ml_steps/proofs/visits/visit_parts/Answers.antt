use Rattle.ml_steps.specs.Worlds.{setting_of}
use Rattle.ml_steps.proofs.Beginnings.{all_parts_are, steps_as}
use Rattle.ml_steps.proofs.visits.visit_parts.Goals as goal

pub returns : goal.returns
returns c =
    let s = setting_of c.args.world in
    steps_as s c.args.told.now.items c.advance.new.told.items c.advance.result _ _
    (all_parts_are s c.args.here c.args.parts c.args.last c.len.result (c.len.ensures s)) c.advance.ensures
