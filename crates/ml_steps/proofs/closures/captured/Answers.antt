use Rattle.std.proofs.Common.{ap}
use Rattle.ml_meaning.specs.Values.{listed}
use Rattle.ml_values.specs.Shown.{names, value, values_list}
use Rattle.ml_steps.specs.Worlds.{setting_of}
use Rattle.ml_steps.proofs.Lists.{captures_step, captures_end}
use Rattle.ml_steps.proofs.closures.captured.Goals as goal

pub loop-name-preserved : goal.loop-name-preserved
loop-name-preserved c =
    captures_step (setting_of c.args.world) c.args.captures.now c.loop-name.name-iterator.iter.rest.now c.next.new.self.iter.rest.now c.in-Some.name.now (names c.args.env)
    (value c.in-Some-local.word) (values_list c.loop-name.words) (values_list c.in_ok-words.words)
    c.in-Some.ensures.steps c.in-Some-local.ensures (ap listed c.in_ok-words.ensures) c.loop-name.invariant

pub returns : goal.returns
returns c = captures_end (setting_of c.args.world) c.args.captures.now c.loop-name.name-iterator.iter.rest.now (names c.args.env) (values_list c.loop-name.words) c.in-None.ensures.steps.0 c.loop-name.invariant
