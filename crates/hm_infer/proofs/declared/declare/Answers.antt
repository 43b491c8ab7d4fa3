use Rattle.std.proofs.Common.{subst}
use Rattle.std.proofs.lemmas.Result.{on_ok_weaker}
use Rattle.hm_terms.specs.Stores.{store}
use Rattle.hm_infer.specs.Declaring.{Finds}
use Rattle.hm_infer.proofs.Declarations.{declares_found, declares_any}
use Rattle.hm_infer.proofs.declared.declare.Goals as goal

pub returns-in_default : goal.returns-in_default
returns-in_default c = declares_any c.args.d.now.types c.args.table.now.nodes (store c.args.solver.now) (store c.find.new.solver) c.args.ty _ c.in_ok-id.ensures

pub returns : goal.returns
returns c = on_ok_weaker c.declare.result (λ d.
    declares_found c.args.d.now.types c.args.table.now.nodes (store c.args.solver.now) (store c.find.new.solver) (store c.declare.new.self) c.args.ty c.in-Some.id
    (λ declared reads. subst (Finds (store c.args.solver.now) (store c.find.new.solver) declared (declared c.args.ty)) c.in-Some.is (c.in_ok-id.ensures declared reads)) d) c.declare.ensures.declares
