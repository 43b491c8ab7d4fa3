use Rattle.ml_mentions.proofs.Appends.{all_step, all_end}
use Rattle.ml_mentions.specs.Written.{in_field_pattern}
use Rattle.ml_mentions.specs.Written.{in_pattern}
use Rattle.ml_mentions.proofs.written.+patterns.Goals as goal

pub patterns-loop-one-preserved : goal.patterns-loop-one-preserved
patterns-loop-one-preserved t c = all_step in_pattern c.args.list.now c.loop-one.one-index _ _ _ _ c.loop-one-test.true c.one-item.is c.in_ok-pattern.ensures c.loop-one.invariant

pub patterns-returns : goal.patterns-returns
patterns-returns t c = all_end in_pattern c.args.list.now c.loop-one.one-index _ _ c.loop-one-test.false c.loop-one.invariant

pub field_patterns-loop-one-preserved : goal.field_patterns-loop-one-preserved
field_patterns-loop-one-preserved t c = all_step in_field_pattern c.args.list.now c.loop-one.one-index _ _ _ _ c.loop-one-test.true c.one-item.is c.in_ok-field_pattern.ensures c.loop-one.invariant

pub field_patterns-returns : goal.field_patterns-returns
field_patterns-returns t c = all_end in_field_pattern c.args.list.now c.loop-one.one-index _ _ c.loop-one-test.false c.loop-one.invariant
