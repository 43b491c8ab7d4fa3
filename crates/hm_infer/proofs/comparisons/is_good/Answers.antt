use Rattle.std.proofs.lemmas.Result.{IfOk-weaker}
use Rattle.hm_terms.specs.Stores.{store}
use Rattle.hm_infer.proofs.Comparing.{good_at, nothing_at}
use Rattle.hm_infer.proofs.comparisons.is_good.Goals as goal

pub returns-in-Some : goal.returns-in-Some
returns-in-Some c = IfOk-weaker c.can_compare.result _ _ (λ b h. good_at (store c.args.solver.now) c.args.step.now c.in-Some.operands b c.in-Some.is h) c.can_compare.ensures

pub returns-in-None : goal.returns-in-None
returns-in-None c = λ a shows. nothing_at c.args.step.now c.in-None.is a
