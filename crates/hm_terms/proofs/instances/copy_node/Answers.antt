use Rattle.std.proofs.Common.{nat_eq}
use Rattle.std.specs.HashMap.{get}
use Rattle.hm_terms.specs.Stores.{store}
use Rattle.hm_terms.specs.Slots.{places}
use Rattle.hm_terms.proofs.Copying.{copies_node}
use Rattle.hm_terms.proofs.Slots.{step_node}
use Rattle.hm_terms.proofs.instances.copy_node.Goals as goal

pub returns-clause-copies : goal.returns-clause-copies
returns-clause-copies c = copies_node (store c.args.solver.now) (store c.rebuilt.new.solver) c.args.put (get nat_eq c.args.copies.now) (get nat_eq c.insert.new.self) c.args.id c.in_ok-copy.copy c.in_ok-copy.ensures.rebuilt c.in_ok-insert.ensures.updates.0

pub returns-clause-keeps : goal.returns-clause-keeps
returns-clause-keeps c = step_node (store c.args.solver.now) (store c.rebuilt.new.solver) (places c.args.put) (get nat_eq c.args.copies.now) (get nat_eq c.insert.new.self) c.args.id c.in_ok-copy.copy c.in_ok-copy.ensures.rebuilt c.in_ok-insert.ensures.updates.0
