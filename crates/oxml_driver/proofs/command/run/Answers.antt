use Rattle.oxml_driver.proofs.CommandLemmas.{after_load, answers_limit, answers_unread}
use Rattle.oxml_driver.proofs.command.run.Goals as goal

pub returns-in-Ok : goal.returns-in-Ok
returns-in-Ok g c =
    after_load _ _ _ _ _ _ _ _ c.load.ensures.held c.in-Ok.ensures.ok.calm c.finish.ensures

pub returns-in-Err-TooLong : goal.returns-in-Err-TooLong
returns-in-Err-TooLong g c =
    let why = rw c.in-Err-TooLong.field-0-is at c.in-Err-TooLong.ensures.err in
    answers_limit _ _ _ _ _ _ _ why.0 why.1 c.load.ensures.held (c.say_made.ensures _ c.bytes_limit_line.ensures)

pub returns-in-Err-Failed : goal.returns-in-Err-Failed
returns-in-Err-Failed g c =
    let fails = rw c.in-Err-Failed.field-0-is at c.in-Err-Failed.ensures.err in
    answers_unread _ _ _ _ _ _ _ fails c.load.ensures.held (c.say_unread.ensures _ c.read_fault_line.ensures)
