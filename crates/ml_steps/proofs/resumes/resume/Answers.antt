use Rattle.std.proofs.Common.{sym, ap, ◌∙◌}
use Rattle.ml_meaning.specs.Runs.{after}
use Rattle.ml_values.specs.Shown.{value}
use Rattle.ml_steps.specs.Left.{step_run, then_run}
use Rattle.ml_steps.specs.Worlds.{setting_of}
use Rattle.ml_steps.proofs.Telling.{told_as, told_now}
use Rattle.ml_steps.proofs.resumes.resume.Goals as goal

pub returns-in-Sequence : goal.returns-in-Sequence
returns-in-Sequence c =
    let s = setting_of c.args.world in
    told_as (step_run s) _ _ c.sequence.result _ _ (ap (λ t. then_run s t c.args.frame.here (value c.args.word)) c.in-Sequence.is) (told_now (step_run s) _ c.sequence.result _ (c.sequence.ensures s))

pub returns-in-Left : goal.returns-in-Left
returns-in-Left c =
    let s = setting_of c.args.world in
    ap (λ t. after c.args.told.now.items (then_run s t c.args.frame.here (value c.args.word))) c.in-Left.is ∙ ap (after c.args.told.now.items) (sym (c.evaluate_then.ensures s))
