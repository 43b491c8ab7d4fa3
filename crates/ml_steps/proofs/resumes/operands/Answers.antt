use Rattle.std.proofs.Common.{sym, ap, ◌∙◌}
use Rattle.ml_meaning.specs.Runs.{after}
use Rattle.ml_meaning.specs.Tellings.{finish}
use Rattle.ml_meaning.specs.Operations.{operator}
use Rattle.ml_meaning.specs.declared.event.Event.{Event}
use Rattle.ml_values.specs.Givings.{given_run}
use Rattle.ml_values.specs.Shown.{value}
use Rattle.ml_values.specs.Telling.{mode_of}
use Rattle.ml_steps.specs.Worlds.{setting_of}
use Rattle.ml_steps.proofs.RunsParts.{goes_on}
use Rattle.ml_steps.proofs.Telling.{other_operator}
use Rattle.ml_steps.proofs.resumes.operands.Goals as goal

pub returns-in_ok-finish_given-in_default : goal.returns-in_ok-finish_given-in_default
returns-in_ok-finish_given-in_default c =
    let s = setting_of c.args.world in
    ap (after c.args.told.now.items) (other_operator s c.args.node c.args.op c.args.here (value c.args.one) (value c.args.other) c.in_default.not-Append)
    ∙ (goes_on c.args.told.now.items _ (operator Event s c.args.node c.args.op (value c.args.one) (value c.args.other)) (given_run c.in_ok-given-in_default.given) (finish Event s (mode_of c.args.here.mode)) (c.in_ok-given-in_default.ensures s.names s.fields s.code s.top s.append)
    ∙ (c.in_ok-finish_given-in_default.ensures s.names s.fields s.code s.top s.append ∙ ap (after _) (sym (c.go_on.ensures s))))
