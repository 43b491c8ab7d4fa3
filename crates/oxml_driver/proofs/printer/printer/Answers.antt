-- A text's rows and bytes come from what is still to come to what is made.
use Rattle.std.proofs.Common.{◌+◌, ◌++◌, drop, sym, ap, ◌∙◌, append-nil}
use Rattle.std.proofs.lemmas.List.{drop_all}
use Rattle.oxml_driver.specs.Printer.{bytes_of}
use Rattle.oxml_driver.proofs.PrinterCode.{texts_from, code_step, literals_step}
use Rattle.oxml_driver.proofs.PrinterTexts.{code_sizes}
use Rattle.oxml_driver.proofs.printer.printer.Goals as goal

pub loop-text-preserved : goal.loop-text-preserved
loop-text-preserved c =
    let i = c.loop-text.text-index in
    let texts = c.args.texts.now in
    let from = texts_from texts i c.text-item.result c.loop-text-test.true c.text-item.is in
    let more = c.in_ok-extend_from_slice.ensures.items ∙ ap (λ l. c.loop-text.literals.items ++ l) c.as_slice.ensures in
    let rest = bytes_of (drop (i + 1) texts) in
    let place = ap (λ n. 0x4000_0000 + n) (c.len.ensures ∙ c.loop-text.literals.ok.0) in
    record {
      code = code_step c.loop-text.bytes.items c.add_write.new.bytes.items c.loop-text.literals.items c.extend_from_slice.new.self.items c.text-item.result.bytes rest _ _ _ place c.len-in-loop-text.ensures more (rw from at c.loop-text.invariant.code) c.in_ok-add_write.ensures;
      literals = literals_step c.loop-text.literals.items c.extend_from_slice.new.self.items c.text-item.result.bytes rest _ more (rw from at c.loop-text.invariant.literals);
    }

pub returns-clause-most : goal.returns-clause-most
returns-clause-most c =
    let texts = c.args.texts.now in
    let ended = ap bytes_of (drop_all c.loop-text.text-index texts c.loop-text-test.false) in
    let code = c.from_vec.ensures ∙ c.in_ok-add_exit.ensures ∙ rw ended at c.loop-text.invariant.code in
    let literals = c.from_vec-2.ensures ∙ sym (append-nil c.loop-text.literals.items) ∙ rw ended at c.loop-text.invariant.literals in
    rw (code, literals) (code_sizes (bytes_of texts)).1
