use Rattle.std.proofs.Common.{List, [], sym, subst, ◌∙◌, rules}
use Rattle.ml_types.specs.declared.node.TyId.{TyId}
use Rattle.ml_typing.specs.declared.equation.Unknown.TheVariants.{Fresh}
use Rattle.ml_typing.specs.Terms.{Is, fresh_from}
use Rattle.hm_terms.specs.Stores.{store}
use Rattle.hm_terms.specs.Shapes.{LowersAll}
use Rattle.hm_terms.proofs.Holding.{knows_lowers}
use Rattle.hm_terms.proofs.Building.{lowers_none, lowers_more, fresh_next}
use Rattle.hm_terms.proofs.SpellSteps.{fresh_first, fresh_next as one_fresh}
use Rattle.hm_terms.proofs.lowering.fresh_types.Goals as goal

pub loop-number-init : goal.loop-number-init
loop-number-init c = record {
  lowers = λ r. subst (λ (xs : List TyId). LowersAll (store c.args.solver.now) (store c.args.solver.now) [] xs) (sym c.new-ids.ensures) (lowers_none (store c.args.solver.now));
  fresh = fresh_first (store c.args.solver.now) c.args.node _ c.new-ids.ensures;
  slots = search rules;
}

pub loop-number-preserved : goal.loop-number-preserved
loop-number-preserved c = record {
  lowers = λ r.
      (let l = c.loop-number.invariant.lowers r in
      lowers_more (store c.args.solver.now) (store c.loop-number.solver) (store c.unknown.new.self) (fresh_from c.args.node c.loop-number.number 0) _ c.loop-number.ids _ (Is (Fresh c.args.node c.loop-number.number)) c.in_ok-id.id r l
      (knows_lowers (store c.loop-number.solver) (store c.unknown.new.self) (Fresh c.args.node c.loop-number.number) c.in_ok-id.id (l.grows.ready r) c.in_ok-id.ensures.knows)
      (fresh_next c.args.node c.loop-number.number) c.in_ok-push.ensures.ok);
  fresh = one_fresh (store c.args.solver.now) (store c.loop-number.solver) (store c.unknown.new.self) c.args.node c.loop-number.number c.loop-number.ids _ c.in_ok-id.id c.loop-number.invariant.fresh c.in_ok-id.ensures.knows c.in_ok-push.ensures.ok;
  slots = c.in_ok-id.ensures.slots ∙ c.loop-number.invariant.slots;
}
