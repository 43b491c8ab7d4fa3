use Rattle.std.proofs.Common.{sym, ap, ◌∙◌}
use Rattle.ml_meaning.specs.Runs.{after}
use Rattle.ml_values.specs.Shown.{values_list}
use Rattle.ml_steps.specs.Left.{finish_run}
use Rattle.ml_steps.specs.Worlds.{setting_of}
use Rattle.ml_steps.proofs.parts.complete.Goals as goal

pub returns-in-Apply : goal.returns-in-Apply
returns-in-Apply c =
    let s = setting_of c.args.world in
    ap (λ l. after c.args.told.now.items (finish_run s l c.args.here (values_list c.args.parts))) c.in-Apply.is ∙ ap (after c.args.told.now.items) (sym (c.evaluate_then.ensures s))
