use Rattle.std.proofs.Common.{◌≡◌, Option, Some, sym, subst}
use Rattle.std.specs.List.{slice_get}
use Rattle.std.proofs.lemmas.Result.{IfOk-weaker}
use Rattle.ml_types.specs.declared.declared.FieldInfo.{FieldInfo}
use Rattle.ml_typing.specs.Terms.{field, fields_of}
use Rattle.hm_terms.specs.Stores.{store}
use Rattle.hm_terms.specs.Shapes.{Lowers}
use Rattle.hm_terms.proofs.lowering.field_type.Goals as goal

pub returns-in-Some-clause-lowers : goal.returns-in-Some-clause-lowers
returns-in-Some-clause-lowers c = IfOk-weaker c.declared_instance.result _ _
    (λ x l d k.
    let at : slice_get (fields_of (slice_get c.args.d.now.types c.args.decl)) c.args.number ≡ Some c.in-Some.info.now = sym c.in-Some.ensures in
    subst (λ (o : Option FieldInfo). Lowers (store c.args.solver.now) (store c.declared_instance.new.solver) (field d.declared c.args.node o) x) (sym at)
    (l c.args.d.now.types d k))
    c.declared_instance.ensures.lowers

pub returns-in-None-clause-lowers : goal.returns-in-None-clause-lowers
returns-in-None-clause-lowers c = IfOk-weaker c.nothing.result _ _
    (λ x l d k. subst (λ (o : Option FieldInfo). Lowers (store c.args.solver.now) (store c.nothing.new.solver) (field d.declared c.args.node o) x) c.in-None.ensures (l k.ready))
    c.nothing.ensures.lowers
