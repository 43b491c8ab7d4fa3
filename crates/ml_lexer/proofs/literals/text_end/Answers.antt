use Rattle.std.proofs.Common.{◌≡◌, ◌+◌, ℕ, List, [], ◌∷◌, subst, arith}
use Rattle.ml_lexer.specs.Literals.{in_text}
use Rattle.ml_lexer.specs.Tokens.{TextBy, TextFrom, closes, cut, wrong, goes_on}
use Rattle.ml_lexer.specs.declared.literals.InText.{InText}
use Rattle.ml_lexer.specs.declared.literals.TextEnd.{TextEnd}
use Rattle.ml_lexer.specs.declared.literals.TextEnd.TheVariants.{ClosedAt, BadAt, Unclosed}
use Rattle.ml_lexer.proofs.literals.text_end.Goals as goal

from_here : (text : List ℕ) (at : ℕ) (x : InText) (bytes : List ℕ) (e : TextEnd) → x ≡ in_text text at → TextBy text x at bytes e → TextFrom text at bytes e
from_here text at x bytes e h d = subst (λ (y : InText). TextBy text y at bytes e) h d

pub returns-in-Cut-clause-end : goal.returns-in-Cut-clause-end
returns-in-Cut-clause-end c = c.bytes.invariant.from_here Unclosed [] (from_here c.args.text.now c.bytes.here _ [] Unclosed c.in-Cut.ensures.here cut)

pub returns-in-Closes-clause-end : goal.returns-in-Closes-clause-end
returns-in-Closes-clause-end c = c.bytes.invariant.from_here (ClosedAt (c.bytes.here + 1)) [] (from_here c.args.text.now c.bytes.here _ [] (ClosedAt (c.bytes.here + 1)) c.in-Closes.ensures.here closes)

pub returns-in-Wrong-clause-end : goal.returns-in-Wrong-clause-end
returns-in-Wrong-clause-end c = c.bytes.invariant.from_here (BadAt c.bytes.here) [] (from_here c.args.text.now c.bytes.here _ [] (BadAt c.bytes.here) c.in-Wrong.ensures.here wrong)

pub bytes-preserved : goal.bytes-preserved
bytes-preserved c =
    let within = c.in-Byte.ensures.within in
    record {
      from_here = λ e bytes d. c.bytes.invariant.from_here e (_ ∷ bytes) (from_here c.args.text.now c.bytes.here _ (_ ∷ bytes) e c.in-Byte.ensures.here (goes_on d));
      forward = omega (arith, within);
      within = within.1;
    }
