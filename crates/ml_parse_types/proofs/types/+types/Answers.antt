use Rattle.std.proofs.Common.{ap, ◌∙◌, drop, arith}
use Rattle.oxml_base.specs.declared.span.Span.{Span}
use Rattle.ml_parse_types.specs.Looks.{no_words}
use Rattle.ml_parse_types.specs.Types.{read, an_arg, an_arrow}
use Rattle.ml_parse_types.proofs.Relays.{says, relay, if_ok, if_err, if_both}
use Rattle.ml_parse_types.proofs.TypeParts.{group_read, operand_read, part_alone, part_factor, part_argument, side_no_list, side_no_product, side_read, side_no_arrow, arrow_none, arrow_read}
use Rattle.ml_parse_types.proofs.TypeLists.{row_more, row_end, row_fail, row_bad, row_small, row_shorter}
use Rattle.ml_parse_types.proofs.types.+types.Goals as goal

pub read_arrow-returns-then-not-is_arrow-clause-ok : goal.read_arrow-returns-then-not-is_arrow-clause-ok
read_arrow-returns-then-not-is_arrow-clause-ok t c = arrow_none _ _ _ _ _ _ _ c.is_arrow.ensures c.if-not-is_arrow.true c.make_arg.ensures c.requires

pub read_arrow-returns-clause-ok : goal.read_arrow-returns-clause-ok
read_arrow-returns-clause-ok t c =
    let to = read c.in_ok-to.to.arg c.in_ok-to.to.depth (drop c.read_side.new.at c.args.tokens.now) in
    let spans = ap (λ (s : Span). an_arg no_words (an_arrow s (an_arg c.args.words c.args.product.ty) c.in_ok-to.to.arg)) c.extent.ensures in
    if_both c.arrow.result (λ f a d. arrow_read _ _ _ _ _ _ _ to f.arg f.depth c.is_arrow.ensures c.if-not-is_arrow.false c.pass.ensures (omega (arith, c.if-product-left.false)) c.in_ok-to.ensures.ok (a ∙ spans) d) c.arrow.ensures.ok c.arrow.ensures.depth

pub read_group-returns-clause-ok : goal.read_group-returns-clause-ok
read_group-returns-clause-ok t c =
    let list = read c.in_ok-list.list.list c.in_ok-list.list.depth (drop c.read_list.new.at c.args.tokens.now) in
    if_ok c.grouped.result (λ f g. group_read _ _ _ list _ c.pass.ensures c.in_ok-list.ensures.ok g) c.grouped.ensures.ok

pub read_list-returns-in_err-found-clause-err : goal.read_list-returns-in_err-found-clause-err
read_list-returns-in_err-found-clause-err t c = relay c.args.tokens.now c.in_err-found.field-0.0 c.from_residual.result (row_bad _ _ _ _ _ _ c.parts.invariant.along) c.in_err-found.ensures.err c.from_residual.ensures.1

pub read_list-parts-smaller : goal.read_list-parts-smaller
read_list-parts-smaller t c = row_shorter _ _ _ _ _ _ _ c.in_ok-found.ensures.ok c.pass.ensures

pub read_list-parts-preserved : goal.read_list-parts-preserved
read_list-parts-preserved t c =
    let found = c.in_ok-found.ensures.ok in
    record {
      along = row_more _ _ _ _ _ _ _ _ _ _ _ _ _ c.parts.invariant.along found c.behind_part.ensures c.in-Goes.is c.pass.ensures c.in_ok-push.ensures.ok c.deepest-depth.ensures;
      small = row_small _ _ _ _ c.parts.invariant.small found.small c.deepest-depth.ensures;
    }

pub read_list-returns-in-Ends-clause-ok : goal.read_list-returns-in-Ends-clause-ok
read_list-returns-in-Ends-clause-ok t c = row_end _ _ _ _ _ _ _ _ _ _ _ _ _ _ c.parts.invariant.along c.parts.invariant.small c.in_ok-found.ensures.ok c.behind_part.ensures c.in-Ends.is c.skip.ensures c.in_ok-push.ensures.ok c.deepest-depth.ensures

pub read_list-returns-in-Fails-clause-err : goal.read_list-returns-in-Fails-clause-err
read_list-returns-in-Fails-clause-err t c = (c.refusal_at.ensures, row_fail _ _ _ _ _ _ _ _ _ _ c.parts.invariant.along c.in_ok-found.ensures.ok c.behind_part.ensures c.in-Fails.is)

pub read_operand-returns-clause-ok : goal.read_operand-returns-clause-ok
read_operand-returns-clause-ok t c =
    let atom = read c.in_ok-atom.atom.ty c.in_ok-atom.atom.depth (drop c.read_atom.new.at c.args.tokens.now) in
    if_ok c.read_names.result (λ f n. operand_read _ _ atom _ c.in_ok-atom.ensures.ok n) c.read_names.ensures.ok

pub read_part-returns-in-Arguments-clause-ok : goal.read_part-returns-in-Arguments-clause-ok
read_part-returns-in-Arguments-clause-ok t c = if_ok c.read_whole.result (λ f n. part_argument _ _ _ _ c.in-Arguments.is n) c.read_whole.ensures.ok

pub read_part-returns-in-Alone-clause-ok : goal.read_part-returns-in-Alone-clause-ok
read_part-returns-in-Alone-clause-ok t c = if_ok c.read_operand.result (λ f n. part_alone _ _ _ _ c.in-Alone.is n) c.read_operand.ensures.ok

pub read_part-returns-in-Factors-clause-ok : goal.read_part-returns-in-Factors-clause-ok
read_part-returns-in-Factors-clause-ok t c = if_ok c.read_operand-in-Factors.result (λ f n. part_factor _ _ _ _ c.in-Factors.is n) c.read_operand-in-Factors.ensures.ok

pub read_side-returns-in_err-list-clause-err : goal.read_side-returns-in_err-list-clause-err
read_side-returns-in_err-list-clause-err t c = relay c.args.tokens.now c.in_err-list.field-0.0 c.from_residual-in_err-list.result (side_no_list _ _ _ _ _ c.in_ok-words.ensures.ok) c.in_err-list.ensures.err c.from_residual-in_err-list.ensures.1

pub read_side-returns-in_err-product-clause-err : goal.read_side-returns-in_err-product-clause-err
read_side-returns-in_err-product-clause-err t c =
    let list = read c.in_ok-list.list.list c.in_ok-list.list.depth (drop c.read_list.new.at c.args.tokens.now) in
    relay c.args.tokens.now c.in_err-product.field-0.0 c.from_residual-in_err-product.result (side_no_product _ _ _ _ _ list c.in_ok-words.ensures.ok c.in_ok-list.ensures.ok) c.in_err-product.ensures.err c.from_residual-in_err-product.ensures.1

pub read_side-returns-clause-ok : goal.read_side-returns-clause-ok
read_side-returns-clause-ok t c =
    let list = read c.in_ok-list.list.list c.in_ok-list.list.depth (drop c.read_list.new.at c.args.tokens.now) in
    let product = read c.in_ok-product.product.ty c.in_ok-product.product.depth (drop c.read_list.new.at c.args.tokens.now) in
    if_ok c.read_arrow.result (λ f n. side_read _ _ _ _ _ list product _ c.in_ok-words.ensures.ok c.in_ok-list.ensures.ok c.in_ok-product.ensures.ok n) c.read_arrow.ensures.ok

pub read_side-returns-clause-err : goal.read_side-returns-clause-err
read_side-returns-clause-err t c =
    let list = read c.in_ok-list.list.list c.in_ok-list.list.depth (drop c.read_list.new.at c.args.tokens.now) in
    let product = read c.in_ok-product.product.ty c.in_ok-product.product.depth (drop c.read_list.new.at c.args.tokens.now) in
    if_err c.read_arrow.result (λ e s. says c.args.tokens.now e (side_no_arrow _ _ _ _ _ list product c.in_ok-words.ensures.ok c.in_ok-list.ensures.ok c.in_ok-product.ensures.ok) s) c.read_arrow.ensures.err
