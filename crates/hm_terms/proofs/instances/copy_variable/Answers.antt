use Rattle.std.proofs.Common.{nat_eq}
use Rattle.std.specs.HashMap.{get}
use Rattle.hm_terms.specs.Stores.{store}
use Rattle.hm_terms.specs.Slots.{places}
use Rattle.hm_terms.proofs.Copying.{copies_variable}
use Rattle.hm_terms.proofs.Slots.{step_variable}
use Rattle.hm_terms.proofs.instances.copy_variable.Goals as goal

pub returns-clause-copies : goal.returns-clause-copies
returns-clause-copies c = λ h. copies_variable (store c.args.solver.now) (store c.type_for.new.solver) c.args.put (get nat_eq c.args.copies.now) (get nat_eq c.insert.new.self) c.args.id c.in_ok-copy.copy c.args.number c.in_ok-copy.ensures.lowers c.in_ok-insert.ensures.updates.0 h

pub returns-clause-keeps : goal.returns-clause-keeps
returns-clause-keeps c = step_variable (store c.args.solver.now) (store c.type_for.new.solver) (places c.args.put) (get nat_eq c.args.copies.now) (get nat_eq c.insert.new.self) c.args.id c.in_ok-copy.copy c.args.number c.in_ok-copy.ensures.puts c.in_ok-insert.ensures.updates.0
