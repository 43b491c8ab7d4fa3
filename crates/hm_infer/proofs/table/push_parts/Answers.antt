use Rattle.hm_infer.proofs.Uses.{pushed_next}
use Rattle.hm_infer.proofs.table.push_parts.Goals as goal

pub loop-done-preserved : goal.loop-done-preserved
loop-done-preserved c = pushed_next c.args.parts.now c.args.stack.now.items c.loop-done.stack.items c.push.new.self.items c.loop-done.done (record { 0 = 0 }) c.loop-done-test.true c.loop-done.invariant c.in_ok-push.ensures.items
