use Rattle.std.proofs.Common.{◌≡◌, ◌+◌, [], ◌∷◌, ◌++◌, take, Some, None, sym, ap, ◌∙◌, subst, arith, rules}
use Rattle.std.specs.List.{slice_get}
use Rattle.std.proofs.lemmas.Option.{slice_get_within}
use Rattle.ml_types.specs.declared.node.TyNode.TheVariants.{Var}
use Rattle.ml_types.specs.Types.{parts_of}
use Rattle.hm_unify.specs.Solutions.{Ends, variable_of}
use Rattle.hm_unify.specs.Walks.{WalkAll, same_node, same_variable, done}
use Rattle.hm_unify.proofs.Ends.{none_from}
use Rattle.hm_unify.proofs.Equations.{take-next, take-end, trees-at}
use Rattle.hm_unify.proofs.Walks.{WalkAll-push, Walk-back}
use Rattle.hm_unify.proofs.WalkSteps.{at_variable, step-left, step-right, step-parts, no_rise, one_rise, parts-instance, instance-at, length-trees, none-at}
use Rattle.hm_unify.proofs.walk.+walking.Goals as goal

pub walk-returns-then-eq-clause-walk : goal.walk-returns-then-eq-clause-walk
walk-returns-then-eq-clause-walk t c =
    let e : c.end_of-second.result ≡ c.end_of-first.result = search rules in
    same_node c.end_of-first.result c.end_of-first.ensures.ends (subst (Ends c.args.nodes.now c.args.bound.now c.args.right) e c.end_of-second.ensures.ends)

pub walk-walk_parts-requires : goal.walk-walk_parts-requires
walk-walk_parts-requires t c =
    let n = c.args.nodes.now in
    let one : variable_of c.node-one.result.now ≡ None = sym c.variable-number.ensures ∙ c.in-None.is in
    let other : variable_of c.node-other.result.now ≡ None = sym c.variable-met.ensures ∙ c.in-None-met.is in
    (omega arith, (c.requires.tabled, (λ i p h. c.requires.tabled.parts_in c.end_of-first.result c.node-one.result.now i p c.node-one.ensures h, (λ i p h. c.requires.tabled.parts_in c.end_of-second.result c.node-other.result.now i p c.node-other.ensures h, parts-instance n c.args.bound.now c.args.left c.args.right c.end_of-first.result c.end_of-second.result c.node-one.result.now c.node-other.result.now c.args.most c.end_of-first.ensures.ends c.end_of-second.ensures.ends c.node-one.ensures c.node-other.ensures one other c.requires.instance))))

pub walk-returns-in-None-met-clause-walk : goal.walk-returns-in-None-met-clause-walk
walk-returns-in-None-met-clause-walk t c =
    let one : variable_of c.node-one.result.now ≡ None = sym c.variable-number.ensures ∙ c.in-None.is in
    let other : variable_of c.node-other.result.now ≡ None = sym c.variable-met.ensures ∙ c.in-None-met.is in
    step-parts c.args.nodes.now c.args.bound.now c.walk_parts.new.bound c.args.left c.args.right c.end_of-first.result c.end_of-second.result c.node-one.result.now c.node-other.result.now c.args.most c.end_of-first.ensures.ends c.end_of-second.ensures.ends c.node-one.ensures c.node-other.ensures one other c.requires.instance c.walk_parts.ensures.walk

pub walk-returns-in-Some-met : goal.walk-returns-in-Some-met
walk-returns-in-Some-met t c =
    let one : variable_of c.node-one.result.now ≡ None = sym c.variable-number.ensures ∙ c.in-None.is in
    let at = at_variable c.args.nodes.now c.end_of-second.result c.node-other.result.now c.in-Some-met.high c.variable-met.result c.node-other.ensures c.variable-met.ensures c.in-Some-met.is in
    let s = step-right c.args.nodes.now c.args.bound.now c.bind.new.bound c.args.left c.args.right c.end_of-first.result c.end_of-second.result c.in-Some-met.high c.requires.tabled c.end_of-first.ensures.ends c.end_of-second.ensures.ends at (no_rise c.args.nodes.now c.end_of-first.result c.node-one.result.now c.in-Some-met.high c.node-one.ensures one) c.end_of-first.ensures.inside c.bind.ensures in
    record { walk = s.walk; tabled = s.tabled }

pub walk-returns-in-None-met-2 : goal.walk-returns-in-None-met-2
walk-returns-in-None-met-2 t c =
    let other : variable_of c.node-other.result.now ≡ None = sym c.variable-met.ensures ∙ c.in-None-met-2.is in
    let at = at_variable c.args.nodes.now c.end_of-first.result c.node-one.result.now c.in-Some.low c.variable-number.result c.node-one.ensures c.variable-number.ensures c.in-Some.is in
    let s = step-left c.args.nodes.now c.args.bound.now c.bind-in-None-met-2.new.bound c.args.left c.args.right c.end_of-first.result c.end_of-second.result c.in-Some.low c.requires.tabled c.end_of-first.ensures.ends c.end_of-second.ensures.ends at (no_rise c.args.nodes.now c.end_of-second.result c.node-other.result.now c.in-Some.low c.node-other.ensures other) c.end_of-second.ensures.inside c.bind-in-None-met-2.ensures in
    record { walk = s.walk; tabled = s.tabled }

pub walk-returns-then-low-high-clause-walk : goal.walk-returns-then-low-high-clause-walk
walk-returns-then-low-high-clause-walk t c =
    let x = at_variable c.args.nodes.now c.end_of-first.result c.node-one.result.now c.in-Some.low c.variable-number.result c.node-one.ensures c.variable-number.ensures c.in-Some.is in
    let y = at_variable c.args.nodes.now c.end_of-second.result c.node-other.result.now c.in-Some-met-2.high c.variable-met.result c.node-other.ensures c.variable-met.ensures c.in-Some-met-2.is in
    same_variable c.end_of-first.result c.end_of-second.result c.in-Some.low c.end_of-first.ensures.ends c.end_of-second.ensures.ends x (y ∙ ap (λ k. Some (Var k)) (sym c.if-low-high.true))

pub walk-returns-then-is_below : goal.walk-returns-then-is_below
walk-returns-then-is_below t c =
    let x = at_variable c.args.nodes.now c.end_of-first.result c.node-one.result.now c.in-Some.low c.variable-number.result c.node-one.ensures c.variable-number.ensures c.in-Some.is in
    let y = at_variable c.args.nodes.now c.end_of-second.result c.node-other.result.now c.in-Some-met-2.high c.variable-met.result c.node-other.ensures c.variable-met.ensures c.in-Some-met-2.is in
    let s = step-left c.args.nodes.now c.args.bound.now c.bind-then-is_below.new.bound c.args.left c.args.right c.end_of-first.result c.end_of-second.result c.in-Some.low c.requires.tabled c.end_of-first.ensures.ends c.end_of-second.ensures.ends x (one_rise c.args.nodes.now c.end_of-second.result c.in-Some.low c.in-Some-met-2.high y (search rules)) c.end_of-second.ensures.inside c.bind-then-is_below.ensures in
    record { walk = s.walk; tabled = s.tabled }

pub walk-returns-in-Some-met-2 : goal.walk-returns-in-Some-met-2
walk-returns-in-Some-met-2 t c =
    let x = at_variable c.args.nodes.now c.end_of-first.result c.node-one.result.now c.in-Some.low c.variable-number.result c.node-one.ensures c.variable-number.ensures c.in-Some.is in
    let y = at_variable c.args.nodes.now c.end_of-second.result c.node-other.result.now c.in-Some-met-2.high c.variable-met.result c.node-other.ensures c.variable-met.ensures c.in-Some-met-2.is in
    let s = step-right c.args.nodes.now c.args.bound.now c.bind-in-Some-met-2.new.bound c.args.left c.args.right c.end_of-first.result c.end_of-second.result c.in-Some-met-2.high c.requires.tabled c.end_of-first.ensures.ends c.end_of-second.ensures.ends y (one_rise c.args.nodes.now c.end_of-first.result c.in-Some-met-2.high c.in-Some.low x (search rules)) c.end_of-first.ensures.inside c.bind-in-Some-met-2.ensures in
    record { walk = s.walk; tabled = s.tabled }

pub walk_parts-loop-at-init : goal.walk_parts-loop-at-init
walk_parts-loop-at-init t c = record { tabled = c.requires.tabled; walk = done; solved = λ u s e. s; below = omega arith }

pub walk_parts-returns-in_default-clause-walk : goal.walk_parts-returns-in_default-clause-walk
walk_parts-returns-in_default-clause-walk t c =
    let ps = parts_of c.args.left.now in
    let qs = parts_of c.args.right.now in
    let i = c.loop-at.at in
    let none : slice_get ps i ≡ None = sym c.part.ensures ∙ none_from _ c.in_default.not-Some in
    let inst = c.requires.instance in
    let qnone : slice_get qs i ≡ None = none_from _ (λ y h. none-at inst.0 qs ps i y (sym inst.2) h none) in
    subst (λ v. WalkAll c.args.nodes.now c.args.bound.now ps v c.loop-at.bound) (take-end qs i qnone)
    (subst (λ v. WalkAll c.args.nodes.now c.args.bound.now v (take i qs) c.loop-at.bound) (take-end ps i none) c.loop-at.invariant.walk)

pub walk_parts-returns-in_default-part-clause-walk : goal.walk_parts-returns-in_default-part-clause-walk
walk_parts-returns-in_default-part-clause-walk t c =
    let none : slice_get (parts_of c.args.right.now) c.loop-at.at ≡ None = sym c.part-in-loop-at.ensures ∙ none_from _ c.in_default-part.not-Some in
    absurd (none-at c.requires.instance.0 (parts_of c.args.left.now) (parts_of c.args.right.now) c.loop-at.at c.in-Some.first c.requires.instance.2 (sym c.in-Some.ensures) none)

pub walk_parts-walk-requires : goal.walk_parts-walk-requires
walk_parts-walk-requires t c =
    (omega arith, (c.loop-at.invariant.tabled, (c.requires.within_left _ _ (sym c.in-Some.ensures), (c.requires.within_right _ _ (sym c.in-Some-part.ensures), instance-at c.args.nodes.now c.args.bound.now c.loop-at.bound (parts_of c.args.left.now) (parts_of c.args.right.now) c.args.most c.loop-at.at c.in-Some.first c.in-Some-part.second c.requires.instance c.loop-at.invariant.solved (sym c.in-Some.ensures) (sym c.in-Some-part.ensures)))))

pub walk_parts-loop-at-preserved : goal.walk_parts-loop-at-preserved
walk_parts-loop-at-preserved t c =
    let ps = parts_of c.args.left.now in
    let qs = parts_of c.args.right.now in
    let i = c.loop-at.at in
    let a = sym c.in-Some.ensures in
    let b = sym c.in-Some-part.ensures in
    record {
      tabled = c.walk.ensures.tabled;
      walk = subst (λ v. WalkAll c.args.nodes.now c.args.bound.now (take (i + 1) ps) v c.walk.new.bound) (sym (take-next qs i c.in-Some-part.second b))
          (subst (λ v. WalkAll c.args.nodes.now c.args.bound.now v (take i qs ++ c.in-Some-part.second ∷ []) c.walk.new.bound) (sym (take-next ps i c.in-Some.first a))
          (WalkAll-push c.args.nodes.now c.args.bound.now (take i ps) (take i qs) c.loop-at.bound c.walk.new.bound c.in-Some.first c.in-Some-part.second c.loop-at.invariant.walk c.walk.ensures.walk));
      solved = λ u s e. Walk-back c.args.nodes.now c.loop-at.bound c.in-Some.first c.in-Some-part.second c.walk.new.bound u c.walk.ensures.walk (c.loop-at.invariant.solved u s e) (trees-at u ps qs i c.in-Some.first c.in-Some-part.second e a b);
      below = (let w = slice_get_within ps i c.in-Some.first a in omega (arith, w));
    }

pub walk_parts-returns-clause-walk : goal.walk_parts-returns-clause-walk
walk_parts-returns-clause-walk t c =
    absurd (omega (arith, length-trees c.requires.instance.0 (parts_of c.args.left.now), c.requires.instance.3, c.loop-at.invariant.below, c.loop-at-test.false))
