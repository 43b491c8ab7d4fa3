use Rattle.ml_typing.proofs.Typings.{same_instances as law}
use Rattle.ml_typing.proofs.laws.same_instances.Goals as goal

pub returns : goal.returns
returns c = law
