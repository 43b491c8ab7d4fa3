use Rattle.std.proofs.Common.{nat_eq, subst}
use Rattle.std.specs.HashMap.{get}
use Rattle.std.proofs.lemmas.Result.{IfOk-weaker}
use Rattle.hm_unify.specs.States.{IsHead}
use Rattle.hm_terms.specs.Stores.{store, state}
use Rattle.hm_terms.specs.Slots.{places}
use Rattle.hm_terms.proofs.Rebuilding.{copies_same}
use Rattle.hm_terms.proofs.Slots.{step_same}
use Rattle.hm_terms.proofs.instances.visit.Goals as goal

pub returns-in-Var-clause-copies : goal.returns-in-Var-clause-copies
returns-in-Var-clause-copies c = IfOk-weaker c.copy_variable.result _ _ (λ _ k. k (subst (λ n. IsHead (state (store c.args.solver.now)) c.args.frame.id n) c.in-Var.is c.in-Some.ensures.some)) c.copy_variable.ensures.copies

pub returns-in-Var-clause-keeps : goal.returns-in-Var-clause-keeps
returns-in-Var-clause-keeps c = IfOk-weaker c.copy_variable.result _ _ (λ _ k. k (subst (λ n. IsHead (state (store c.args.solver.now)) c.args.frame.id n) c.in-Var.is c.in-Some.ensures.some)) c.copy_variable.ensures.keeps

pub returns-in_ok-push-in-Some-part-2-clause-copies : goal.returns-in_ok-push-in-Some-part-2-clause-copies
returns-in_ok-push-in-Some-part-2-clause-copies c = copies_same (store c.args.solver.now) c.args.put (get nat_eq c.args.copies.now)

pub returns-in_ok-push-in-Some-part-2-clause-keeps : goal.returns-in_ok-push-in-Some-part-2-clause-keeps
returns-in_ok-push-in-Some-part-2-clause-keeps c = λ r. step_same (store c.args.solver.now) (places c.args.put) (get nat_eq c.args.copies.now)

pub returns-else-not-contains_key-clause-copies : goal.returns-else-not-contains_key-clause-copies
returns-else-not-contains_key-clause-copies c = copies_same (store c.args.solver.now) c.args.put (get nat_eq c.args.copies.now)

pub returns-else-not-contains_key-clause-keeps : goal.returns-else-not-contains_key-clause-keeps
returns-else-not-contains_key-clause-keeps c = λ r. step_same (store c.args.solver.now) (places c.args.put) (get nat_eq c.args.copies.now)
