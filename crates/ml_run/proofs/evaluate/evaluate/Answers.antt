use Rattle.ml_steps.specs.Worlds.{setting_of}
use Rattle.ml_run.proofs.Stacks.{ended_answer}
use Rattle.ml_run.proofs.evaluate.evaluate.Goals as goal

pub returns-in-None-clause-ended : goal.returns-in-None-clause-ended
returns-in-None-clause-ended c =
    ended_answer (setting_of c.args.world) c.args.out.now.items c.turns.out.items c.turns.told.items c.turn.new.told.items c.turns.frames.items c.turn.new.frames.items c.args.first c.turns.next c.in_ok-more.field-0 _ c.turns.invariant.left c.in_ok-more.ensures c.in-None.is (c.ended.ensures (setting_of c.args.world))
