use Rattle.ml_typing.proofs.Unique.{same_program_types}
use Rattle.ml_typing.proofs.laws.types_are_unique.Goals as goal

pub returns : goal.returns
returns c = same_program_types
