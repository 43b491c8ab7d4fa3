use Rattle.hm_terms.specs.Stores.{store}
use Rattle.hm_infer.specs.Declaring.{IsBare}
use Rattle.hm_infer.proofs.Starting.{new_bare, first_read}
use Rattle.hm_infer.proofs.operations.first_solver.Goals as goal

pub returns-clause-read : goal.returns-clause-read
returns-clause-read c = λ declared reads.
    let e = c.in_ok-solver.ensures in
    let bare : IsBare (store c.in_ok-solver.solver) = new_bare _ (store c.in_ok-solver.solver) c.new.ensures e.bindings e.mark e.ids e.schemes e.operations e.declared in
    first_read (store c.in_ok-solver.solver) (store c.declare_all.new.solver) (store c.next_item.new.self) (store c.add_operations.new.solver) (store c.next_item-2.new.self) _ declared
    bare (c.in_ok-declare_all.ensures bare declared reads) c.next_item.ensures.forgets c.in_ok-add_operations.ensures c.next_item-2.ensures.forgets
