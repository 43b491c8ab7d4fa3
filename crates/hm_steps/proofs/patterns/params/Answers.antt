use Rattle.std.proofs.Common.{refl}
use Rattle.ml_tree.specs.declared.pattern.Param.{Param}
use Rattle.ml_typing.specs.Rows.{pattern, all_steps, steps_of}
use Rattle.ml_typing.specs.Steps.{param_parts}
use Rattle.ml_typing.specs.Typing.{names_of}
use Rattle.hm_steps.proofs.Lists.{block_step, block_end}
use Rattle.hm_steps.proofs.patterns.params.Goals as goal

pub loop-param-preserved : goal.loop-param-preserved
loop-param-preserved c =
    let names = names_of c.args.s.now.refs c.args.s.now.types c.args.item in
    block_step (λ (q : Param). steps_of (pattern names q.pat)) (λ qs. all_steps (param_parts names qs)) c.args.list.now c.loop-param.param-index _ _ _ _ (λ y ys. refl) c.loop-param-test.true c.param-item.is c.in_ok-pattern.ensures c.loop-param.invariant

pub returns : goal.returns
returns c =
    let names = names_of c.args.s.now.refs c.args.s.now.types c.args.item in
    block_end (λ qs. all_steps (param_parts names qs)) c.args.list.now c.loop-param.param-index _ _ refl c.loop-param-test.false c.loop-param.invariant
