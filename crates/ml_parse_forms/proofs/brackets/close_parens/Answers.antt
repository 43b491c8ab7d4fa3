use Rattle.std.proofs.Common.{refl}
use Rattle.ml_grammar.proofs.Handed.{takes, parens_not_closed}
use Rattle.ml_parse_patterns.proofs.Relays.{relay}
use Rattle.ml_parse_forms.proofs.Closings.{paren_closed, typed_closed}
use Rattle.ml_parse_forms.proofs.brackets.close_parens.Goals as goal

pub returns-then-not-stands-clause-closes : goal.returns-then-not-stands-clause-closes
returns-then-not-stands-clause-closes c =
    let closed = c.in_ok-close_paren.ensures in
    paren_closed closed.stands closed.passed closed.tree

pub returns-in_err-close-clause-err : goal.returns-in_err-close-clause-err
returns-in_err-close-clause-err c =
    let colon = c.in_ok-expect.ensures in
    relay _ _ _ (parens_not_closed (takes colon.stands colon.passed) c.in_ok-ty.ensures.ok) c.in_err-close.ensures.err c.from_residual-in_err-close.ensures.1

pub returns-clause-closes : goal.returns-clause-closes
returns-clause-closes c =
    let colon = c.in_ok-expect.ensures in
    let close = c.in_ok-close.ensures in
    typed_closed colon.stands colon.passed c.in_ok-ty.ensures.ok close.stands close.passed close.span c.joined.ensures refl c.in_ok-node.ensures.tree
