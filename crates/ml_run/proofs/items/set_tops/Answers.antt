use Rattle.ml_run.proofs.Tops.{set_more}
use Rattle.ml_run.proofs.items.set_tops.Goals as goal

pub loop-top-preserved : goal.loop-top-preserved
loop-top-preserved c =
    set_more c.loop-top.list.items c.pop.new.self.items c.in-Some.top c.args.env c.args.tops.now c.loop-top.tops c.set_top.new.tops c.in-Some.ensures.items c.loop-top.invariant c.in_ok-set_top.ensures
