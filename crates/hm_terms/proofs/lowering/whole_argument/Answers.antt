use Rattle.std.proofs.Common.{map}
use Rattle.std.proofs.lemmas.Result.{IfOk-weaker}
use Rattle.ml_types.specs.declared.declared.ArgInfo.{ArgInfo}
use Rattle.ml_typing.specs.Terms.{at_fresh, product}
use Rattle.hm_terms.specs.Stores.{store}
use Rattle.hm_terms.proofs.Building.{lowers_then}
use Rattle.hm_terms.proofs.SpellSteps.{whole_makes}
use Rattle.hm_terms.proofs.lowering.whole_argument.Goals as goal

pub returns-clause-lowers : goal.returns-clause-lowers
returns-clause-lowers c = IfOk-weaker c.product_type.result _ _
    (λ x p decls d k.
    let l = c.in_ok-ids.ensures.lowers decls d k in
    let hs = map (λ (a : ArgInfo). at_fresh c.args.node (d.declared a.ty)) c.args.args.now in
    lowers_then (store c.args.solver.now) (store c.argument_types.new.solver) (store c.product_type.new.solver) (product hs) x l.grows (p hs (l.grows.ready k.ready) l.hold))
    c.product_type.ensures.lowers

pub returns-clause-copies : goal.returns-clause-copies
returns-clause-copies c = IfOk-weaker c.product_type.result _ _
    (λ x p r. whole_makes (store c.args.solver.now) (store c.argument_types.new.solver) (store c.product_type.new.solver) c.args.node c.args.args.now c.in_ok-ids.ids x r (c.in_ok-ids.ensures.copies r) p)
    c.product_type.ensures.makes
