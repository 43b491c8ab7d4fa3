use Rattle.std.proofs.Common.{◌≡◌, ◌+◌, ℕ, List, [], ◌∷◌, ◌++◌, sym, subst, append_assoc, ◌∙◌, ap}
use Rattle.ml_lexer.specs.Tokens.{TextBy, TextFrom, goes_on}
use Rattle.ml_lexer.specs.declared.literals.InText.{InText}
use Rattle.ml_lexer.specs.declared.literals.InText.TheVariants.{Byte}
use Rattle.ml_lexer.specs.declared.literals.TextEnd.{TextEnd}
use Rattle.ml_lexer.specs.declared.literals.TextEnd.TheVariants.{ClosedAt}
use Rattle.ml_lexer.proofs.literals.text_bytes.Goals as goal

rest_behind : {text bytes : List ℕ} {b next at : ℕ} {e : TextEnd} → TextBy text (Byte b next) at bytes e → (rest : List ℕ) × TextFrom text next rest e
rest_behind (goes_on d) = (_, d)

pub bytes-preserved : goal.bytes-preserved
bytes-preserved c =
    let text = c.args.text.now in
    let here = c.bytes.here in
    let b = c.in-Byte.b in
    let close = ClosedAt c.args.token.span.end in
    let is = c.in-Byte.ensures.here in
    let start = c.args.token.span.start + 1 in
    record {
      from_here = λ rest d.
          let more : TextFrom text start (c.bytes.bytes ++ (b ∷ rest)) close = c.bytes.invariant.from_here (b ∷ rest) (subst (λ (x : InText). TextBy text x here (b ∷ rest) close) is (goes_on d)) in
          let same : c.bytes.bytes ++ (b ∷ rest) ≡ c.push.new.self ++ rest = sym (ap (λ xs. xs ++ rest) c.in_ok-push-in-Byte.ensures.ok ∙ append_assoc c.bytes.bytes (b ∷ []) rest) in
          subst (λ (xs : List ℕ). TextFrom text start xs close) same more;
      some = rest_behind (subst (λ (x : InText). TextBy text x here c.bytes.invariant.some.0 close) (sym is) c.bytes.invariant.some.1);
      within = c.in-Byte.ensures.within.1;
    }
