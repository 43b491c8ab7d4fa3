use Rattle.ml_steps.proofs.Arranging.{fills, keeps, slot_is}
use Rattle.ml_steps.proofs.parts.fill.Goals as goal

pub returns-in-Some-None : goal.returns-in-Some-None
returns-in-Some-None c = fills c.args.slots.now.items c.args.place c.args.word
    (slot_is c.args.slots.now.items c.deref.result.now c.args.place c.in-Some-None.field-0.now _ c.deref.ensures.value c.in-Some-None.ensures.lookup.0 c.in-Some-None.ensures.lookup.1 c.in-Some-None.field-0-is)

pub returns-in-Some-Some : goal.returns-in-Some-Some
returns-in-Some-Some c = keeps c.args.slots.now.items c.args.place c.args.word c.in-Some-Some.field-0-0
    (slot_is c.args.slots.now.items c.deref.result.now c.args.place c.in-Some-Some.field-0.now _ c.deref.ensures.value c.in-Some-Some.ensures.lookup.0 c.in-Some-Some.ensures.lookup.1 c.in-Some-Some.field-0-is)
