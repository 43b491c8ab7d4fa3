use Rattle.ml_typing.proofs.Typings.{most_general as law}
use Rattle.ml_typing.proofs.laws.most_general_is_principal.Goals as goal

pub returns : goal.returns
returns c = law
