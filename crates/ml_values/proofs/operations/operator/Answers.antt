use Rattle.ml_values.proofs.Runs.{gives_same}
use Rattle.ml_values.proofs.operations.operator.Goals as goal

pub returns-then-is_comparison : goal.returns-then-is_comparison
returns-then-is_comparison c = λ names fields code top append. gives_same _ _ _ (c.compared.ensures names fields code top append c.args.node)
