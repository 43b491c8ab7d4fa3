use Rattle.ml_functions.specs.Parts.{patterns_of_param}
use Rattle.ml_functions.proofs.Counts.{counts_end}
use Rattle.ml_functions.proofs.weights.of_params.Goals as goal

pub returns : goal.returns
returns c = counts_end patterns_of_param c.args.list.now c.loop-one.one-index c.loop-one.total c.loop-one-test.false c.loop-one.invariant.0 c.loop-one.invariant.1
