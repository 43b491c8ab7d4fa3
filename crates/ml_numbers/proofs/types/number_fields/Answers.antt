use Rattle.ml_numbers.specs.Numbered.{numbered_field_decl}
use Rattle.ml_numbers.proofs.Lists.{each_step, each_end}
use Rattle.ml_numbers.proofs.types.number_fields.Goals as goal

pub loop-one-preserved : goal.loop-one-preserved
loop-one-preserved c = each_step numbered_field_decl c.args.list.now c.loop-one.one-index _ _ _ _ _ _ _ c.loop-one-test.true c.one-item.is c.in_ok-number_field.ensures c.in_ok-push.ensures.ok c.loop-one.invariant

pub returns : goal.returns
returns c = each_end numbered_field_decl c.args.list.now c.loop-one.one-index _ _ _ c.loop-one-test.false c.loop-one.invariant
