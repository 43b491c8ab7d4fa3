use Rattle.oxml_driver.proofs.CommandLemmas.{answers_built, answers_passed, answers_refused, answers_unwritten}
use Rattle.oxml_driver.proofs.command.finish.Goals as goal

-- the shelf refused to save the image
pub returns-in-Err-Failed : goal.returns-in-Err-Failed
returns-in-Err-Failed g c =
    let fails = rw c.in-Err-Failed.field-0-is at c.in-Err-Failed.ensures.err in
    answers_unwritten _ _ _ _ _ _ _ fails c.in-Err-Failed.ensures.others c.say_unwritten.ensures.status c.say_unwritten.ensures.err

-- the source violates a rule
pub returns-in-Err-Refused : goal.returns-in-Err-Refused
returns-in-Err-Refused g c =
    let why = rw c.in-Err-Refused.field-0-is at c.in-Err-Refused.ensures.err in
    answers_refused _ _ _ _ _ _ c.args.source.now c.requires.told c.in-Err-Refused.refusal why (c.say_made.ensures _ c.refusal_line.ensures)

-- the source passes a limit
pub returns-in-Err-Limit : goal.returns-in-Err-Limit
returns-in-Err-Limit g c =
    let why = rw c.in-Err-Limit.field-0-is at c.in-Err-Limit.ensures.err in
    answers_passed _ _ _ _ _ _ c.args.source.now c.requires.told c.requires.short why (c.say_made-in-Err-Limit.ensures _ c.limit_line.ensures)

-- the image was saved
pub returns-in-Ok-save : goal.returns-in-Ok-save
returns-in-Ok-save g c =
    answers_built _ _ _ _ _ c.args.source.now c.in-Ok.image.items _ c.requires.told c.in-Ok.ensures.ok c.as_slice.ensures.value c.in-Ok-save.ensures.ok c.in-Ok-save.ensures.others
