use Rattle.std.proofs.Common.{map}
use Rattle.ml_decls.specs.Said.{written}
use Rattle.ml_decls.specs.Tables.{HasType}
use Rattle.ml_decls.proofs.Trees.{grows_not, grows_on, each_weaker, each_step, each_end, type_grows, type_within, parts_within}
use Rattle.ml_decls.proofs.Forms.{has_arrow}
use Rattle.ml_decls.proofs.table.+types.Goals as goal

pub push_types-loop-one-init : goal.push_types-loop-one-init
push_types-loop-one-init t c = record { grows = grows_not _; say = rw c.new-ids.ensures tt }

pub push_types-loop-one-preserved : goal.push_types-loop-one-preserved
push_types-loop-one-preserved t c = record {
  grows = grows_on _ _ _ c.loop-one.invariant.grows c.in_ok-push_type.ensures.grows;
  say = each_step (HasType c.push_type.new.made.nodes) (written c.args.s.now.types) c.args.list.now c.loop-one.one-index _ _ _ _ c.loop-one-test.true c.one-item.is (each_weaker (HasType c.loop-one.made.nodes) (HasType c.push_type.new.made.nodes) _ _ (λ x y. type_grows _ _ x y c.in_ok-push_type.ensures.grows) c.loop-one.invariant.say) c.in_ok-push_type.ensures.ty c.in_ok-push.ensures.ok;
}

pub push_types-returns-clause-grows : goal.push_types-returns-clause-grows
push_types-returns-clause-grows t c = c.loop-one.invariant.grows

pub push_types-returns-clause-types : goal.push_types-returns-clause-types
push_types-returns-clause-types t c = each_end (HasType c.loop-one.made.nodes) (written c.args.s.now.types) c.args.list.now c.loop-one.one-index _ c.loop-one-test.false c.loop-one.invariant.say

pub push_applied-push_named-requires : goal.push_applied-push_named-requires
push_applied-push_named-requires t c = parts_within _ _ _ c.in_ok-args.ensures.types

pub push_applied-returns-clause-grows : goal.push_applied-returns-clause-grows
push_applied-returns-clause-grows t c = grows_on _ _ _ c.in_ok-args.ensures.grows c.in_ok-ty.ensures.grows

pub push_applied-returns-clause-ty : goal.push_applied-returns-clause-ty
push_applied-returns-clause-ty t c = rw (← c.target.ensures) (c.in_ok-ty.ensures.ty (map (written c.args.s.now.types) c.args.args.now) c.in_ok-args.ensures.types)

pub push_product-push_tuple-requires : goal.push_product-push_tuple-requires
push_product-push_tuple-requires t c = parts_within _ _ _ c.in_ok-parts.ensures.types

pub push_product-returns-clause-grows : goal.push_product-returns-clause-grows
push_product-returns-clause-grows t c = grows_on _ _ _ c.in_ok-parts.ensures.grows c.in_ok-ty.ensures.grows

pub push_product-returns-clause-ty : goal.push_product-returns-clause-ty
push_product-returns-clause-ty t c = c.in_ok-ty.ensures.ty (map (written c.args.s.now.types) c.args.parts.now) c.in_ok-parts.ensures.types

pub push_kind-push_function-requires-clause-from : goal.push_kind-push_function-requires-clause-from
push_kind-push_function-requires-clause-from t c = type_within _ _ _ (type_grows _ _ _ _ c.in_ok-to-in-Arrow.ensures.grows c.in_ok-from-in-Arrow.ensures.ty)

pub push_kind-push_function-requires-clause-to : goal.push_kind-push_function-requires-clause-to
push_kind-push_function-requires-clause-to t c = type_within _ _ _ c.in_ok-to-in-Arrow.ensures.ty

pub push_kind-returns-in_ok-ty-in-Arrow-clause-grows : goal.push_kind-returns-in_ok-ty-in-Arrow-clause-grows
push_kind-returns-in_ok-ty-in-Arrow-clause-grows t c = grows_on _ _ _ (grows_on _ _ _ c.in_ok-from-in-Arrow.ensures.grows c.in_ok-to-in-Arrow.ensures.grows) c.in_ok-ty-in-Arrow.ensures.grows

pub push_kind-returns-in_ok-ty-in-Arrow-clause-ty : goal.push_kind-returns-in_ok-ty-in-Arrow-clause-ty
push_kind-returns-in_ok-ty-in-Arrow-clause-ty t c = has_arrow c.args.s.now.types c.push_function.new.made.nodes c.in_ok-ty-in-Arrow.ty c.args.kind.now c.in-Arrow.from c.in-Arrow.to _ _ c.args.id c.in-Arrow.is c.get.ensures c.get-in-Arrow.ensures (c.in_ok-ty-in-Arrow.ensures.ty _ _ (type_grows _ _ _ _ c.in_ok-to-in-Arrow.ensures.grows c.in_ok-from-in-Arrow.ensures.ty) c.in_ok-to-in-Arrow.ensures.ty)
