use Rattle.std.proofs.Common.{List, subst}
use Rattle.std.specs.Bool.{MatchBool}
use Rattle.std.proofs.lemmas.Result.{IfOk-weaker}
use Rattle.ml_typing.specs.declared.equation.Equation.{Equation}
use Rattle.ml_typing.specs.Typing.{Assignment}
use Rattle.hm_terms.specs.Stores.{store}
use Rattle.hm_infer.specs.Running.{IsShown}
use Rattle.hm_infer.specs.Sizes.{HasLargeLeft, AreSmallLefts}
use Rattle.hm_infer.proofs.Larges.{SmallNode, small_node, no_node, large_node, step_by}
use Rattle.hm_infer.proofs.sizes.step_is_large.Goals as goal
use Rattle.hm_infer.proofs.sizes.step_is_large.Goals.{in-Some+in_ok-size+else-size-gt2000, in_default}

pub returns-then-size-gt2000 : goal.returns-then-size-gt2000
returns-then-size-gt2000 c = λ a shown.
    large_node (store c.args.solver.now) c.args.step.now a c.in-Some.node c.in_ok-size.size c.in-Some.is c.in_ok-size.ensures.known (c.in_ok-size.ensures.size a shown) c.if-size-gt2000.true

pub returns : goal.returns
returns c =
    let node : (a : Assignment) → IsShown (store c.args.solver.now) a → SmallNode c.args.step.now.node a = λ a shown. elim c.match-step.branch [
      | in-Some+in_ok-size+else-size-gt2000 w ↦ small_node c.args.step.now.node a w.in-Some.node w.in_ok-size.size w.in-Some.is (w.in_ok-size.ensures.size a shown) w.if-size-gt2000.false
      | in_default w ↦ no_node c.args.step.now.node a w.in_default.is
    ] in
    IfOk-weaker c.any_left_large.result _ _
    (λ large k a shown. step_by (store c.args.solver.now) c.args.step.now a large (node a shown)
    (subst (λ (es : List Equation). MatchBool large (HasLargeLeft (store c.args.solver.now) es a) (AreSmallLefts es a)) c.as_slice.ensures (k a shown)))
    c.any_left_large.ensures
