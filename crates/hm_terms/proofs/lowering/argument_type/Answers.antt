use Rattle.std.proofs.Common.{◌≡◌, List, Option, Some, map, sym, subst}
use Rattle.std.specs.List.{slice_get}
use Rattle.std.proofs.lemmas.Result.{IfOk-weaker}
use Rattle.ml_types.specs.declared.declared.ArgInfo.{ArgInfo}
use Rattle.ml_types.specs.declared.declared.ConInfo.{ConInfo}
use Rattle.ml_typing.specs.Terms.{argument, at_fresh, product, cons_of}
use Rattle.hm_terms.specs.Stores.{store}
use Rattle.hm_terms.specs.Shapes.{Lowers}
use Rattle.hm_terms.proofs.lowering.argument_type.Goals as goal

pub returns-in-Some-clause-lowers : goal.returns-in-Some-clause-lowers
returns-in-Some-clause-lowers c = IfOk-weaker c.whole_argument.result _ _
    (λ x l d k.
    let at : slice_get (cons_of (slice_get c.args.d.now.types c.args.decl)) c.args.con ≡ Some c.in-Some.info.now = sym c.in-Some.ensures in
    let p = l c.args.d.now.types d k in
    let q = subst (λ (as_ : List ArgInfo). Lowers (store c.args.solver.now) (store c.whole_argument.new.solver) (product (map (λ (a : ArgInfo). at_fresh c.args.node (d.declared a.ty)) as_)) x) c.as_slice.ensures p in
    subst (λ (o : Option ConInfo). Lowers (store c.args.solver.now) (store c.whole_argument.new.solver) (argument d.declared c.args.node o) x) (sym at) q)
    c.whole_argument.ensures.lowers

pub returns-in-None-clause-lowers : goal.returns-in-None-clause-lowers
returns-in-None-clause-lowers c = IfOk-weaker c.nothing.result _ _
    (λ x l d k. subst (λ (o : Option ConInfo). Lowers (store c.args.solver.now) (store c.nothing.new.solver) (argument d.declared c.args.node o) x) c.in-None.ensures (l k.ready))
    c.nothing.ensures.lowers
