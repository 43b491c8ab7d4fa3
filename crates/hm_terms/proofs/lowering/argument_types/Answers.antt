use Rattle.std.proofs.Common.{List, [], map, sym, subst, ◌∙◌, rules}
use Rattle.ml_types.specs.declared.node.TyId.{TyId}
use Rattle.ml_types.specs.declared.declared.ArgInfo.{ArgInfo}
use Rattle.ml_typing.specs.Terms.{at_fresh}
use Rattle.hm_terms.specs.Stores.{store, Grows}
use Rattle.hm_terms.specs.Shapes.{LowersAll}
use Rattle.hm_terms.proofs.Building.{lowers_none}
use Rattle.hm_terms.proofs.Walking.{argument_next, take_all}
use Rattle.hm_terms.specs.Spelling.{AreAtFresh}
use Rattle.hm_terms.proofs.Growth.{grows_same}
use Rattle.hm_terms.proofs.SpellSteps.{field_next}
use Rattle.hm_terms.proofs.lowering.argument_types.Goals as goal

pub loop-number-init : goal.loop-number-init
loop-number-init c = record {
  lowers = λ decls d k. subst (λ (xs : List TyId). LowersAll (store c.args.solver.now) (store c.args.solver.now) [] xs) (sym c.new-ids.ensures) (lowers_none (store c.args.solver.now));
  copies = λ r. (grows_same (store c.args.solver.now), subst (λ (xs : List TyId). AreAtFresh (store c.args.solver.now) c.args.node [] xs) (sym c.new-ids.ensures) tt);
  slots = search rules;
}

pub loop-number-preserved : goal.loop-number-preserved
loop-number-preserved c = record {
  lowers = λ decls d k.
      argument_next (store c.args.solver.now) (store c.loop-number.solver) (store c.declared_instance.new.solver) decls d c.args.args.now c.loop-number.number c.args.node c.in-Some.ty c.in_ok-id.id c.loop-number.ids _ k c.in-Some.ensures (c.in_ok-id.ensures.lowers decls d) (c.loop-number.invariant.lowers decls d k) c.in_ok-push.ensures.ok;
  copies = λ r.
      field_next (store c.args.solver.now) (store c.loop-number.solver) (store c.declared_instance.new.solver) c.args.args.now c.loop-number.number c.args.node c.in-Some.ty c.in_ok-id.id c.loop-number.ids _ r c.in-Some.ensures (c.loop-number.invariant.copies r) c.in_ok-id.ensures.copies c.in_ok-push.ensures.ok;
  slots = c.in_ok-id.ensures.slots ∙ c.loop-number.invariant.slots;
}

pub returns-clause-lowers : goal.returns-clause-lowers
returns-clause-lowers c = λ decls d k.
    subst (λ (as_ : List ArgInfo). LowersAll (store c.args.solver.now) (store c.loop-number.solver) (map (λ (a : ArgInfo). at_fresh c.args.node (d.declared a.ty)) as_) c.loop-number.ids)
    (take_all c.args.args.now c.loop-number.number c.loop-number-test.false) (c.loop-number.invariant.lowers decls d k)

pub returns-clause-copies : goal.returns-clause-copies
returns-clause-copies c = λ r.
    subst (λ (as_ : List ArgInfo). Grows (store c.args.solver.now) (store c.loop-number.solver) × AreAtFresh (store c.loop-number.solver) c.args.node as_ c.loop-number.ids)
    (take_all c.args.args.now c.loop-number.number c.loop-number-test.false) (c.loop-number.invariant.copies r)
