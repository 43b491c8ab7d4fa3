use Rattle.ml_values.proofs.Layers.{and_of}
use Rattle.ml_values.proofs.value.and.Goals as goal

pub returns : goal.returns
returns c = and_of _ c.args.first c.args.rest c.in_ok-pair.ensures
