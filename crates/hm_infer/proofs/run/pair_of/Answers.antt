use Rattle.hm_terms.specs.Stores.{store}
use Rattle.hm_infer.proofs.Lowerings.{pair_lowers}
use Rattle.hm_infer.proofs.Spelled.{pair_spells}
use Rattle.hm_infer.proofs.run.pair_of.Goals as goal

pub returns-clause-lowers : goal.returns-clause-lowers
returns-clause-lowers c = λ d k.
    pair_lowers (store c.args.solver.now) (store c.unknown.new.self) (store c.type_of.new.solver) c.args.d.now.types d c.args.equation.now c.in_ok-left.left c.in_ok-right.right k c.in_ok-left.ensures.knows c.in_ok-right.ensures.lowers

pub returns-clause-spells : goal.returns-clause-spells
returns-clause-spells c = λ r.
    pair_spells (store c.args.solver.now) (store c.unknown.new.self) (store c.type_of.new.solver) c.args.d.now.types c.args.solver.now.slots c.unknown.new.self.slots c.type_of.new.solver.slots c.args.equation.now c.in_ok-left.left c.in_ok-right.right r c.in_ok-left.ensures.knows c.in_ok-left.ensures.slots c.in_ok-right.ensures.spells
