use Rattle.std.proofs.Common.{sym}
use Rattle.ml_steps.specs.Worlds.{setting_of}
use Rattle.ml_steps.proofs.Beginnings.{steps_as}
use Rattle.ml_steps.proofs.Overwrites.{over_constructed}
use Rattle.ml_steps.proofs.visits.overwrite_con.Goals as goal

pub returns : goal.returns
returns c =
    let s = setting_of c.args.world in
    steps_as s c.args.told.now.items c.visit_parts.new.told.items c.visit_parts.result _ _
    (over_constructed s c.args.node c.args.here c.args.of c.args.name c.args.arg.now c.in-Some.place c.field_count.result c.fields_of.result (sym c.in-Some.ensures) c.field_count.ensures (c.fields_of.ensures s))
    c.visit_parts.ensures
