use Rattle.std.proofs.Common.{sym}
use Rattle.std.proofs.lemmas.Result.{IfOk-weaker}
use Rattle.hm_terms.specs.Stores.{store}
use Rattle.hm_terms.proofs.Putting.{fresh_put, argument_put, past_put}
use Rattle.hm_terms.proofs.Slots.{fresh_is_put, argument_is_put, past_is_put}
use Rattle.hm_terms.proofs.instances.type_for.Goals as goal

pub returns-in-Fresh-clause-lowers : goal.returns-in-Fresh-clause-lowers
returns-in-Fresh-clause-lowers c = IfOk-weaker c.unknown.result _ _ (λ x k f r p. fresh_put (store c.args.solver.now) (store c.unknown.new.self) c.args.put c.in-Fresh.node c.args.number x c.in-Fresh.is k f r p) c.unknown.ensures.knows

pub returns-in-Some-clause-lowers : goal.returns-in-Some-clause-lowers
returns-in-Some-clause-lowers c = λ f r p. argument_put (store c.args.solver.now) c.args.put c.in-Arguments.args c.args.number c.in-Some.id c.in-Arguments.is (sym c.in-Some.ensures) f r p

pub returns-in-None-clause-lowers : goal.returns-in-None-clause-lowers
returns-in-None-clause-lowers c = IfOk-weaker c.nothing.result _ _ (λ x k f r p. past_put (store c.args.solver.now) (store c.nothing.new.self) c.args.put c.in-Arguments.args c.args.number x c.in-Arguments.is (sym c.in-None.ensures) k f r p) c.nothing.ensures.adds

pub returns-in-Fresh-clause-puts : goal.returns-in-Fresh-clause-puts
returns-in-Fresh-clause-puts c = IfOk-weaker c.unknown.result _ _ (λ x k. fresh_is_put (store c.args.solver.now) (store c.unknown.new.self) c.args.put c.in-Fresh.node c.args.number x c.in-Fresh.is k) c.unknown.ensures.knows

pub returns-in-Some-clause-puts : goal.returns-in-Some-clause-puts
returns-in-Some-clause-puts c = argument_is_put (store c.args.solver.now) c.args.put c.in-Arguments.args c.args.number c.in-Some.id c.in-Arguments.is (sym c.in-Some.ensures)

pub returns-in-None-clause-puts : goal.returns-in-None-clause-puts
returns-in-None-clause-puts c = IfOk-weaker c.nothing.result _ _ (λ x k. past_is_put (store c.args.solver.now) (store c.nothing.new.self) c.args.put c.in-Arguments.args c.args.number x c.in-Arguments.is (sym c.in-None.ensures) k) c.nothing.ensures.adds
