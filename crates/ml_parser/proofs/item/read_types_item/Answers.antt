use Rattle.std.proofs.Common.{ap, ◌∙◌}
use Rattle.oxml_base.specs.declared.span.Span.{Span}
use Rattle.ml_tree.specs.declared.program.Item.{Item}
use Rattle.ml_tree.specs.declared.program.ItemKind.TheVariants.{Types}
use Rattle.ml_grammar.proofs.Programs.{types_item_read, types_item_deep}
use Rattle.ml_parse_patterns.proofs.Relays.{relay}
use Rattle.ml_parser.proofs.ItemReadings.{is_item}
use Rattle.ml_parser.proofs.item.read_types_item.Goals as goal

pub returns-in_err-decls-clause-err : goal.returns-in_err-decls-clause-err
returns-in_err-decls-clause-err c = relay _ _ _ (types_item_deep c.pass.ensures) c.in_err-decls.ensures.err c.from_residual.ensures.1

pub returns-clause-ok : goal.returns-clause-ok
returns-clause-ok c =
    let tree = c.item.ensures ∙ ap (λ (s : Span). let i : Item = record { id = 0; span = s; kind = Types c.in_ok-decls.decls } in i) c.extent.ensures in
    is_item (types_item_read {left = 1000} c.pass.ensures c.in_ok-decls.ensures.ok tree)
