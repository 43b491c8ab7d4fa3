use Rattle.std.proofs.Common.{◌<◌, length, sym, ◌∙◌, arith}
use Rattle.ml_lexer.proofs.Large.{digits-none_at}
use Rattle.ml_lexer.proofs.numbers.digits.Goals as goal

pub returns-in_err-value-clause-value : goal.returns-in_err-value-clause-value
returns-in_err-value-clause-value c =
    let inside : c.loop-c.c-index < length c.args.run.now = omega arith in
    let none = digits-none_at c.args.base c.loop-c.value c.args.run.now c.loop-c.c-index c.requires.low inside c.if-c-ne95.true c.in_err-value.ensures.value in
    c.from_residual.ensures ∙ sym none ∙ c.loop-c.invariant.same_value
