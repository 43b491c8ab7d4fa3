use Rattle.std.proofs.Common.{subst}
use Rattle.hm_terms.specs.Stores.{store}
use Rattle.hm_infer.specs.Running.{Comes}
use Rattle.hm_infer.specs.declared.run.Outcome.{Outcome}
use Rattle.hm_infer.proofs.limit.run_held.Goals as goal

pub returns-in-Holds : goal.returns-in-Holds
returns-in-Holds c = λ e before read agrees.
    subst (λ (o : Outcome). Comes (store c.run_step.new.solver) c.args.d.now.types e before c.args.step.now o) c.in-Holds.is (c.in_ok-run_step.ensures.comes e before read agrees)
