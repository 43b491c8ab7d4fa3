use Rattle.std.proofs.Common.{ap}
use Rattle.ml_meaning.specs.Values.{listed}
use Rattle.ml_values.specs.Shown.{values_list}
use Rattle.ml_steps.proofs.Lists.{befores_step, befores_end}
use Rattle.ml_steps.proofs.calls.before.Goals as goal

pub loop-word-preserved : goal.loop-word-preserved
loop-word-preserved c =
    befores_step c.loop-word.word-iterator.iter.rest.now c.next.new.self.iter.rest.now c.in-Some.word.now (values_list c.loop-word.all) (values_list c.in_ok-all.all) _
    c.in-Some.ensures.steps (ap listed c.in_ok-all.ensures) c.loop-word.invariant

pub returns : goal.returns
returns c = befores_end c.loop-word.word-iterator.iter.rest.now (values_list c.loop-word.all) _ c.in-None.ensures.steps.0 c.loop-word.invariant
