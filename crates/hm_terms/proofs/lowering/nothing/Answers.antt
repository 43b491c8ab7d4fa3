use Rattle.std.proofs.Common.{[], refl}
use Rattle.std.proofs.lemmas.Result.{IfOk-weaker}
use Rattle.hm_terms.specs.Stores.{store}
use Rattle.hm_terms.proofs.Putting.{nothing_lowers}
use Rattle.ml_types.specs.declared.node.TyNode.TheVariants.{Tuple}
use Rattle.ml_types.specs.Types.{TupleHead}
use Rattle.hm_terms.proofs.SpellSteps.{node_there}
use Rattle.hm_terms.proofs.lowering.nothing.Goals as goal

pub returns-clause-lowers : goal.returns-clause-lowers
returns-clause-lowers c = IfOk-weaker c.nothing.result _ _ (λ x a r. nothing_lowers (store c.args.solver.now) (store c.nothing.new.self) x a r) c.nothing.ensures.adds

pub returns-clause-makes : goal.returns-clause-makes
returns-clause-makes c = IfOk-weaker c.nothing.result _ _ (λ x a. node_there (store c.args.solver.now) (store c.nothing.new.self) (Tuple []) (TupleHead 0) x a refl) c.nothing.ensures.adds
