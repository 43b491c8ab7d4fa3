use Rattle.std.proofs.Common.{sym}
use Rattle.std.proofs.lemmas.Result.{IfOk-weaker}
use Rattle.hm_terms.specs.Stores.{store}
use Rattle.hm_terms.proofs.Contexts.{top_scheme, top_none}
use Rattle.hm_terms.proofs.SpellSteps.{binder_makes}
use Rattle.hm_terms.proofs.lowering.top_type.Goals as goal

pub returns-in-Some-clause-lowers : goal.returns-in-Some-clause-lowers
returns-in-Some-clause-lowers c = IfOk-weaker c.fresh_instance.result _ _ (λ x l d k. top_scheme (store c.args.solver.now) (store c.fresh_instance.new.solver) c.args.d.now.types d c.args.binder c.args.node c.in-Some.id x (sym c.in-Some.ensures) l k) c.fresh_instance.ensures.lowers

pub returns-in-None-clause-lowers : goal.returns-in-None-clause-lowers
returns-in-None-clause-lowers c = IfOk-weaker c.unknown.result _ _ (λ x n d k. top_none (store c.args.solver.now) (store c.unknown.new.self) c.args.d.now.types d c.args.binder c.args.node x (sym c.in-None.ensures) n k) c.unknown.ensures.knows

pub returns-in-None-clause-copies : goal.returns-in-None-clause-copies
returns-in-None-clause-copies c = IfOk-weaker c.unknown.result _ _ (λ x n r. binder_makes (store c.args.solver.now) (store c.unknown.new.self) c.args.binder c.args.node x (sym c.in-None.ensures) n) c.unknown.ensures.knows
