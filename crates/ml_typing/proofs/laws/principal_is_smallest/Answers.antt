use Rattle.ml_typing.proofs.Typings.{least_sizes as law}
use Rattle.ml_typing.proofs.laws.principal_is_smallest.Goals as goal

pub returns : goal.returns
returns c = law
