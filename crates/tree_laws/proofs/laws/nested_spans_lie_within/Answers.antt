use Rattle.tree_laws.proofs.spans.Order.{all_within}
use Rattle.tree_laws.proofs.laws.nested_spans_lie_within.Goals as goal

pub returns : goal.returns
returns c tokens count from to edges le h n = all_within from to count tokens edges le h n
