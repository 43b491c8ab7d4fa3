use Rattle.std.proofs.Common.{refl}
use Rattle.ml_steps.specs.declared.frame.Next.TheVariants as next
use Rattle.ml_steps.specs.Worlds.{setting_of}
use Rattle.ml_run.proofs.Stacks.{stepped_answer, stopped_at, went_on}
use Rattle.ml_run.proofs.evaluate.turn.Goals as goal

pub returns-in_ok-step-in-Visit : goal.returns-in_ok-step-in-Visit
returns-in_ok-step-in-Visit c =
    stepped_answer (setting_of c.args.world) _ _ _ _ c.args.next (next.Visit c.in-Visit.e c.in-Visit.here) c.in_ok-step-in-Visit.step _ c.in-Visit.is c.in_ok-step-in-Visit.ensures c.pushed.ensures

pub returns-in_ok-closure-in-Close : goal.returns-in_ok-closure-in-Close
returns-in_ok-closure-in-Close c =
    went_on (setting_of c.args.world) _ _ c.args.frames.now.items c.args.frames.now.items c.args.next (next.Close c.in-Close.node c.in-Close.here) c.in_ok-closure-in-Close.field-0 c.in-Close.is c.in_ok-closure-in-Close.ensures refl

pub returns-in_ok-step-in-Choose : goal.returns-in_ok-step-in-Choose
returns-in_ok-step-in-Choose c =
    stepped_answer (setting_of c.args.world) _ _ _ _ c.args.next (next.Choose c.in-Choose.arms c.in-Choose.word c.in-Choose.here) c.in_ok-step-in-Choose.step _ c.in-Choose.is c.in_ok-step-in-Choose.ensures c.pushed-in-Choose.ensures

pub returns-in-Stop : goal.returns-in-Stop
returns-in-Stop c = stopped_at (setting_of c.args.world) _ c.args.frames.now.items c.args.frames.now.items c.args.next c.in-Stop.field-0 c.in-Stop.is
