use Rattle.std.proofs.lemmas.Result.{IfOk-weaker}
use Rattle.hm_terms.specs.Stores.{store}
use Rattle.hm_terms.proofs.Contexts.{declared_lowers}
use Rattle.hm_terms.proofs.lowering.declared_instance.Goals as goal

pub returns-clause-lowers : goal.returns-clause-lowers
returns-clause-lowers c = IfOk-weaker c.fresh_instance.result _ _
    (λ x l decls d k. declared_lowers (store c.args.solver.now) (store c.fresh_instance.new.solver) decls d c.args.ty c.in_ok-expanded.expanded x c.args.node c.in_ok-expanded.ensures l k)
    c.fresh_instance.ensures.lowers
