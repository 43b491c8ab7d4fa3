use Rattle.std.proofs.Common.{sym, ap, ◌∙◌}
use Rattle.ml_steps.specs.Left.{con_run}
use Rattle.ml_steps.specs.Worlds.{setting_of}
use Rattle.ml_steps.proofs.Beginnings.{constructed_is, steps_as}
use Rattle.ml_steps.proofs.visits.visit_con.Goals as goal

pub returns-in-Some-arg : goal.returns-in-Some-arg
returns-in-Some-arg c =
    let s = setting_of c.args.world in
    steps_as s c.args.told.now.items c.visit_parts.new.told.items c.visit_parts.result _ _
    (ap (λ o. con_run s c.args.node c.args.name o c.args.here) c.in-Some-arg.is
    ∙ constructed_is s c.args.here c.args.node c.args.name c.in-Some-arg.arg.now c.in-Some.place c.field_count.result c.fields_of.result (sym c.in-Some.ensures) c.field_count.ensures (c.fields_of.ensures s))
    c.visit_parts.ensures
