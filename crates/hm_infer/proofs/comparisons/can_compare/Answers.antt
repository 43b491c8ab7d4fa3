use Rattle.std.proofs.Common.{rules}
use Rattle.hm_terms.specs.Stores.{store}
use Rattle.hm_infer.proofs.Comparing.{compares_by_head, compares_none}
use Rattle.hm_infer.proofs.comparisons.can_compare.Goals as goal

pub returns-in-Some : goal.returns-in-Some
returns-in-Some c = compares_by_head (store c.args.solver.now) c.args.unknown c.in_ok-id.id c.in-Some.node.now c.is_plain.result (search rules) (search rules) c.is_plain.ensures

pub returns-in-None : goal.returns-in-None
returns-in-None c = compares_none (store c.args.solver.now) c.args.unknown c.in_ok-id.id (search rules) (search rules)
