use Rattle.ml_decls.specs.Said.{said_con}
use Rattle.ml_decls.specs.Tables.{ConSays}
use Rattle.ml_decls.proofs.Infos.{con_grows}
use Rattle.ml_decls.proofs.Trees.{grows_not, grows_on, each_weaker, each_step, each_end}
use Rattle.ml_decls.proofs.build.con_infos.Goals as goal

pub loop-one-init : goal.loop-one-init
loop-one-init c = record { grows = grows_not _; say = rw c.new-infos.ensures tt }

pub loop-one-preserved : goal.loop-one-preserved
loop-one-preserved c = record {
  grows = grows_on _ _ _ c.loop-one.invariant.grows c.in_ok-con_info.ensures.grows;
  say = each_step (ConSays c.con_info.new.made.nodes) (said_con c.args.s.now.types) c.args.list.now c.loop-one.one-index _ _ _ _ c.loop-one-test.true c.one-item.is (each_weaker (ConSays c.loop-one.made.nodes) (ConSays c.con_info.new.made.nodes) _ _ (con_grows _ _ c.in_ok-con_info.ensures.grows) c.loop-one.invariant.say) c.in_ok-con_info.ensures.says c.in_ok-push.ensures.ok;
}

pub returns-clause-grows : goal.returns-clause-grows
returns-clause-grows c = c.loop-one.invariant.grows

pub returns-clause-say : goal.returns-clause-say
returns-clause-say c = each_end (ConSays c.loop-one.made.nodes) (said_con c.args.s.now.types) c.args.list.now c.loop-one.one-index _ c.loop-one-test.false c.loop-one.invariant.say
