use Rattle.ml_steps.specs.Worlds.{setting_of}
use Rattle.ml_run.proofs.Stacks.{gave_answer}
use Rattle.ml_run.proofs.evaluate.give.Goals as goal

pub returns-in_ok-step-in-Some : goal.returns-in_ok-step-in-Some
returns-in_ok-step-in-Some c =
    gave_answer (setting_of c.args.world) _ _ _ _ _ c.in-Some.frame c.args.word c.in_ok-step-in-Some.step _ c.in-Some.ensures.items c.in_ok-step-in-Some.ensures c.pushed.ensures
