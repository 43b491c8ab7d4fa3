use Rattle.tree_laws.proofs.TreeCounts.{numbered_nodes}
use Rattle.tree_laws.proofs.laws.counts_its_nodes.Goals as goal

pub returns : goal.returns
returns c = numbered_nodes
