use Rattle.std.proofs.Common.{sym}
use Rattle.std.proofs.lemmas.Result.{IfOk-weaker}
use Rattle.hm_terms.proofs.lowering.operation_type.Goals as goal

pub returns-in-Some-clause-lowers : goal.returns-in-Some-clause-lowers
returns-in-Some-clause-lowers c = IfOk-weaker c.fresh_instance.result _ _
    (λ x l d k. l (d.operation c.args.op) k.ready (k.operations c.args.op c.in-Some.id (sym c.in-Some.ensures)).stands)
    c.fresh_instance.ensures.lowers
