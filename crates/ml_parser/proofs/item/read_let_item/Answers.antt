use Rattle.std.proofs.Common.{drop, ap, ◌∙◌}
use Rattle.oxml_base.specs.declared.span.Span.{Span}
use Rattle.ml_grammar.specs.Trees.{end_behind, end_of_bind}
use Rattle.ml_grammar.proofs.Accepts.{rec_flag, rec_place}
use Rattle.ml_grammar.proofs.Programs.{let_item_read, let_item_deep}
use Rattle.ml_parse_patterns.proofs.Relays.{relay}
use Rattle.ml_parser.proofs.ItemReadings.{is_item}
use Rattle.ml_parser.proofs.item.read_let_item.Goals as goal

pub returns-in_err-binds-clause-err : goal.returns-in_err-binds-clause-err
returns-in_err-binds-clause-err c =
    let accepts = c.accept-recursive.ensures in
    let place = rec_place c.args.source.now.tokens.now c.pass.new.at c.accept-recursive.new.at accepts.stands accepts.passed accepts.stays in
    relay _ _ _ (let_item_deep c.pass.ensures place) c.in_err-binds.ensures.err c.from_residual.ensures.1

pub returns-clause-ok : goal.returns-clause-ok
returns-clause-ok c =
    let accepts = c.accept-recursive.ensures in
    let place = rec_place c.args.source.now.tokens.now c.pass.new.at c.accept-recursive.new.at accepts.stands accepts.passed accepts.stays in
    let flag = rec_flag (drop c.pass.new.at c.args.source.now.tokens.now) accepts.stands in
    is_item (let_item_read c.pass.ensures place flag c.in_ok-binds.ensures.ok (ap (λ (s : Span). s.start) c.span_at-start.ensures.first) (c.end_of_last-end.ensures ∙ ap (λ bs. end_behind end_of_bind 0 bs) c.as_slice.ensures) c.item.ensures)
