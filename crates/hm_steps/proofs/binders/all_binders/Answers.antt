use Rattle.std.proofs.Common.{refl}
use Rattle.ml_tree.specs.declared.expr.Bind.{out-Bind}
use Rattle.ml_typing.specs.Steps.{binders, bind_binders}
use Rattle.hm_steps.proofs.Lists.{block_step, block_end}
use Rattle.hm_steps.proofs.binders.all_binders.Goals as goal

pub loop-bind-preserved : goal.loop-bind-preserved
loop-bind-preserved c = block_step (λ b. binders (out-Bind b).pat) bind_binders c.args.list.now c.loop-bind.bind-index _ _ _ _ (λ y ys. refl) c.loop-bind-test.true c.bind-item.is c.in_ok-binders.ensures c.loop-bind.invariant

pub returns : goal.returns
returns c = block_end bind_binders c.args.list.now c.loop-bind.bind-index _ _ refl c.loop-bind-test.false c.loop-bind.invariant
