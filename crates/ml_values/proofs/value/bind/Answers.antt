use Rattle.ml_values.proofs.Layers.{bound_of}
use Rattle.ml_values.proofs.value.bind.Goals as goal

pub returns : goal.returns
returns c = bound_of _ c.args.name c.args.word c.args.rest c.in_ok-bound.ensures
