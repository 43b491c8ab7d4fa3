use Rattle.ml_typing.proofs.Typings.{typing_through as law}
use Rattle.ml_typing.proofs.laws.typing_through_substitution.Goals as goal

pub returns : goal.returns
returns c = law
