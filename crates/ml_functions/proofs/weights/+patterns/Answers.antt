use Rattle.ml_meaning.specs.Weights.{patterns_of}
use Rattle.ml_functions.specs.Parts.{patterns_of_field}
use Rattle.ml_functions.proofs.Counts.{counts_end}
use Rattle.ml_functions.proofs.weights.+patterns.Goals as goal

pub of_field_patterns-returns : goal.of_field_patterns-returns
of_field_patterns-returns t c = counts_end patterns_of_field c.args.list.now c.loop-one.one-index c.loop-one.total c.loop-one-test.false c.loop-one.invariant.0 c.loop-one.invariant.1

pub of_patterns-returns : goal.of_patterns-returns
of_patterns-returns t c = counts_end patterns_of c.args.list.now c.loop-one.one-index c.loop-one.total c.loop-one-test.false c.loop-one.invariant.0 c.loop-one.invariant.1
