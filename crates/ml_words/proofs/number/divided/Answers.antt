use Rattle.std.proofs.Common.{to_z-of_z, w64, ap, ◌∙◌}
use Rattle.ml_meaning.specs.Arithmetic.{wrapped}
use Rattle.ml_words.proofs.Quotients.{quotient_is}
use Rattle.ml_words.proofs.number.divided.Goals as goal

pub returns : goal.returns
returns c = to_z-of_z {w = w64} (record { sfits = c.wrapped.type_inv }) ∙ (c.wrapped.ensures ∙ ap wrapped (quotient_is c.args.a c.args.b c.ranges.a c.ranges.b))
