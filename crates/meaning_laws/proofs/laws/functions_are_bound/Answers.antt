use Rattle.meaning_laws.proofs.Binding.{binds_only}
use Rattle.meaning_laws.proofs.laws.functions_are_bound.Goals as goal

pub returns : goal.returns
returns c s n tops item f = binds_only s n tops item f
