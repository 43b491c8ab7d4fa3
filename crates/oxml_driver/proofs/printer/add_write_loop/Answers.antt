-- The parts of the loop, one behind another.
use Rattle.std.proofs.Common.{flat_map}
use Rattle.std.proofs.lemmas.Result.{on_ok_weaker}
use Rattle.x64_table.specs.Encoding.{encoding}
use Rattle.oxml_driver.specs.Printer.{ask_rows, answer_rows, rest_rows, exit_with}
use Rattle.oxml_driver.proofs.PrinterCode.{four_parts}
use Rattle.oxml_driver.proofs.printer.add_write_loop.Goals as goal

pub returns : goal.returns
returns c =
    on_ok_weaker c.add_exit.result
    (λ e. four_parts c.args.bytes.now.items c.add_ask.new.bytes.items c.add_answer.new.bytes.items c.add_rest.new.bytes.items c.add_exit.new.bytes.items (flat_map encoding (ask_rows c.args.place c.args.length)) (flat_map encoding answer_rows) (flat_map encoding rest_rows) (flat_map encoding (exit_with 104)) c.in_ok-add_ask.ensures c.in_ok-add_answer.ensures c.in_ok-add_rest.ensures e)
    c.add_exit.ensures
