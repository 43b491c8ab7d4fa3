use Rattle.ml_grammar.proofs.Handed.{takes, no_borrow_of}
use Rattle.ml_parse_patterns.proofs.Relays.{relay}
use Rattle.ml_parse_forms.proofs.Targets.{borrowed}
use Rattle.ml_parse_forms.proofs.target.read_borrowed.Goals as goal

pub returns-in_err-of-clause-err : goal.returns-in_err-of-clause-err
returns-in_err-of-clause-err c =
    let word = c.in_ok-expect.ensures in
    let name = c.in_ok-name.ensures in
    let equal = c.in_ok-expect-2.ensures in
    relay _ _ _ (no_borrow_of (takes word.stands word.passed) (takes name.stands name.passed) (takes equal.stands equal.passed)) c.in_err-of.ensures.err c.from_residual-in_err-of.ensures.1

pub returns-clause-ok : goal.returns-clause-ok
returns-clause-ok c =
    let word = c.in_ok-expect.ensures in
    let name = c.in_ok-name.ensures in
    let equal = c.in_ok-expect-2.ensures in
    let of = c.in_ok-of.ensures in
    borrowed word.stands word.passed name.stands name.passed name.span equal.stands equal.passed of.stands of.passed of.span
