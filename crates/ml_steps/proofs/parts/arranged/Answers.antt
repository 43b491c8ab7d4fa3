use Rattle.std.proofs.Common.{sym}
use Rattle.ml_values.proofs.Walks.{list_more}
use Rattle.ml_steps.specs.Worlds.{setting_of}
use Rattle.ml_steps.proofs.Arranging.{filled_more, arranged_there}
use Rattle.ml_steps.proofs.parts.arranged.Goals as goal

pub loop-field-preserved : goal.loop-field-preserved
loop-field-preserved c = filled_more (setting_of c.args.world) c.args.fields.now _ c.loop-field.field-index c.field-item.result c.in-Some.place _ c.loop-field.rest _ c.loop-field.slots.items _
    c.loop-field-test.true c.field-item.is (sym c.in-Some.ensures) (list_more c.loop-field.rest c.in-And.pair c.in-And.is) c.in_ok-fill.ensures c.loop-field.invariant

pub returns : goal.returns
returns c = arranged_there (setting_of c.args.world) c.args.fields.now _ c.loop-field.field-index c.loop-field.rest c.loop-field.slots.items _ c.all_there.result
    c.loop-field-test.false c.loop-field.invariant c.as_slice.ensures.value c.all_there.ensures
