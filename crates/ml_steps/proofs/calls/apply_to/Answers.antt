use Rattle.std.proofs.Common.{◌++◌, sym, ap, ◌∙◌}
use Rattle.ml_meaning.specs.declared.event.Event.{Event}
use Rattle.ml_meaning.specs.Tellings as t
use Rattle.ml_values.specs.Shown.{value, values_list}
use Rattle.ml_values.specs.Telling.{mode_of}
use Rattle.ml_steps.specs.Left.{applied_run}
use Rattle.ml_steps.specs.Worlds.{setting_of}
use Rattle.ml_steps.proofs.Called.{closes_is}
use Rattle.ml_steps.proofs.Runs.{steps_since}
use Rattle.ml_steps.proofs.calls.apply_to.Goals as goal

pub returns : goal.returns
returns c =
    let s = setting_of c.args.world in
    steps_since s c.args.told.now.items c.close.new.told.items c.apply.new.told.items c.apply.result (t.closes Event s (mode_of c.args.here.mode))
    (applied_run s c.args.node c.args.here (values_list c.args.args) (value c.args.function))
    (c.in_ok-close.ensures ∙ ap (λ es. c.args.told.now.items ++ es) (sym (closes_is c.args.world c.args.here.mode)))
    c.apply.ensures
