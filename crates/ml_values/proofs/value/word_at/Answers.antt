use Rattle.std.proofs.Common.{arith}
use Rattle.ml_values.proofs.Walks.{sought_more}
use Rattle.ml_values.proofs.value.word_at.Goals as goal

pub loop-rest-preserved : goal.loop-rest-preserved
loop-rest-preserved c = sought_more c.loop-rest.rest c.in-And.pair c.loop-rest.left _ _ c.in-And.is (omega (arith, c.if-left-eq0.false)) c.loop-rest.invariant
