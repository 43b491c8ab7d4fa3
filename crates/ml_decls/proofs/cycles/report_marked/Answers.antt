use Rattle.ml_decls.proofs.Marks.{marked_step, marked_end}
use Rattle.ml_decls.proofs.cycles.report_marked.Goals as goal

pub loop-one-preserved : goal.loop-one-preserved
loop-one-preserved c = marked_step c.args.marks.now c.args.outlines.now c.loop-one.one-index _ _ _ _ _ _ c.loop-one.invariant c.loop-one-test.true c.one-item.is c.is_marked-wrong.ensures c.in_ok-offence_where.ensures

pub returns : goal.returns
returns c = marked_end c.args.marks.now c.args.outlines.now c.loop-one.one-index _ _ _ c.loop-one-test.false c.loop-one.invariant
