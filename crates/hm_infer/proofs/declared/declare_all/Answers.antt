use Rattle.hm_terms.specs.Stores.{store}
use Rattle.hm_infer.proofs.Declarations.{all_declared}
use Rattle.hm_infer.proofs.declared.declare_all.Goals as goal

pub returns : goal.returns
returns c =
    all_declared c.args.d.now.types c.args.table.now.nodes (store c.args.solver.now) (store c.add_variables.new.solver) (store c.declare_types.new.solver)
    c.in_ok-add_variables.ensures c.in_ok-declare_types.ensures c.sound.ensures
