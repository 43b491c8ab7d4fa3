use Rattle.ml_decls.proofs.Infos.{adds_nothing, adds_one, adds_same, taken_more, taken_all}
use Rattle.ml_decls.proofs.build.push_infos.Goals as goal

pub loop-one-init : goal.loop-one-init
loop-one-init c = adds_nothing _ _ _

pub loop-one-preserved : goal.loop-one-preserved
loop-one-preserved c = adds_same _ _ _ _ _ _ _ (taken_more c.args.list.now c.loop-one.one-index _ c.loop-one-test.true c.one-item.is) (adds_one _ _ _ _ _ _ _ _ _ _ c.loop-one.invariant c.in_ok-decl_info.ensures.grows c.in_ok-decl_info.ensures.says c.in_ok-push.ensures.ok)

pub returns : goal.returns
returns c = adds_same _ _ _ _ _ _ _ (taken_all c.args.list.now c.loop-one.one-index c.loop-one-test.false) c.loop-one.invariant
