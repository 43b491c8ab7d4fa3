use Rattle.ml_mentions.proofs.Appends.{all_step, all_end}
use Rattle.ml_mentions.specs.Programs.{field_mentions}
use Rattle.ml_mentions.proofs.outline.push_fields.Goals as goal

pub loop-one-preserved : goal.loop-one-preserved
loop-one-preserved c = all_step field_mentions c.args.fields.now c.loop-one.one-index _ _ _ _ c.loop-one-test.true c.one-item.is c.in_ok-push_arg.ensures c.loop-one.invariant

pub returns : goal.returns
returns c = all_end field_mentions c.args.fields.now c.loop-one.one-index _ _ c.loop-one-test.false c.loop-one.invariant
