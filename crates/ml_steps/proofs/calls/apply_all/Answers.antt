use Rattle.std.proofs.Common.{ap, ◌∙◌}
use Rattle.ml_meaning.specs.Runs.{after}
use Rattle.ml_values.specs.declared.told.Mode.TheVariants as mode
use Rattle.ml_values.specs.Shown.{code_of, values_list}
use Rattle.ml_steps.specs.Left.{applied_run, call_of}
use Rattle.ml_steps.specs.Worlds.{setting_of}
use Rattle.ml_steps.proofs.Called.{called_more}
use Rattle.ml_steps.proofs.Runs.{step_then}
use Rattle.ml_steps.proofs.calls.apply_all.Goals as goal

pub returns-in_ok-next-in-And : goal.returns-in_ok-next-in-And
returns-in_ok-next-in-And c =
    let s = setting_of c.args.world in
    let told = c.args.told.now.items in
    ap (after told) (called_more s c.args.node c.args.here c.args.rest c.in-And.field-0 (code_of c.args.code) (values_list c.args.captured) (values_list c.args.all) c.in-And.is)
    ∙ step_then s told c.call-in-And.new.told.items c.go_on_then.result c.in_ok-next-in-And.next
    (call_of s c.args.here.fuel mode.Inner (code_of c.args.code) (values_list c.args.captured) (values_list c.args.all))
    (applied_run s c.args.node c.args.here (values_list c.args.rest))
    c.in_ok-next-in-And.ensures (c.go_on_then.ensures s)
