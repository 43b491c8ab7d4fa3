use Rattle.std.proofs.Common.{◌≡◌, Bool, false, List, [], ◌∷◌, ◌++◌, length, take, refl, sym, subst, ap, ◌∙◌, arith, is_err, Result, Ok, Err, OnOk}
use Rattle.std.specs.Prelude.{All}
use Rattle.std.proofs.lemmas.List.{length-take, length-append}
use Rattle.std.proofs.lemmas.List.Elements.{All-push}
use Rattle.oxml_base.specs.declared.span.Span.{Span}
use Rattle.ml_lexer.specs.declared.token.Token.{Token}
use Rattle.ml_lexer.specs.Tokens.{Divides, nothing, token, AreInOrder, IsSound, is_minus}
use Rattle.ml_lexer.proofs.Divisions.{then_skips, then_takes}
use Rattle.ml_lexer.proofs.Order.{AreInOrder-later, AreInOrder-push}
use Rattle.ml_lexer.proofs.Sound.{sound}
use Rattle.ml_lexer.proofs.lexer.lex.Goals as goal

pub pieces-init : goal.pieces-init
pieces-init c =
    let text = c.args.text.now in
    let part = c.args.part in
    let e = c.new-tokens.ensures in
    let n = ap length e in
    record {
      so_far = subst (λ (ts : List Token). Divides (take part.end text) false part.start ts false part.start) (sym e) nothing;
      within = omega (arith, length-take part.end text);
      few = omega (arith, n);
      order = subst (λ (ts : List Token). AreInOrder part.start ts part.start) (sym e) (omega arith);
      texts = λ k d h. absurd (omega (arith, n, h));
    }

pub pieces-preserved-in-Skips : goal.pieces-preserved-in-Skips
pieces-preserved-in-Skips c =
    let i = c.pieces.invariant in
    let w = c.in-Skips.ensures.within in
    record {
      so_far = then_skips i.so_far c.in-Skips.ensures.begins;
      within = w.1;
      few = i.few;
      order = AreInOrder-later c.pieces.tokens c.args.part.start c.pieces.at c.in-Skips.next (omega (arith, w)) i.order;
      texts = i.texts;
    }

pub returns-then-len-eq-MAX_TOKENS-clause-err : goal.returns-then-len-eq-MAX_TOKENS-clause-err
returns-then-len-eq-MAX_TOKENS-clause-err c =
    let t = token c.in-Takes.kind c.pieces.at c.in-Takes.next in
    let ts = c.pieces.tokens ++ t ∷ [] in
    (refl, (ts, (record { divides = then_takes c.pieces.invariant.so_far c.in-Takes.ensures.begins; after_minus = is_minus c.in-Takes.kind; place = c.in-Takes.next }, omega (arith, length-append c.pieces.tokens (t ∷ [])))))

on_ok : {A E : Type 0} (r : Result A E) (P : Type 0) → false ≡ is_err r → OnOk r P → P
on_ok (Ok x) P e h = h
on_ok (Err x) P e h = cc

pub pieces-preserved : goal.pieces-preserved
pieces-preserved c =
    let i = c.pieces.invariant in
    let w = c.in-Takes.ensures.within in
    let kind = c.in-Takes.kind in
    let t = token kind c.pieces.at c.in-Takes.next in
    let text = c.args.text.now in
    let part = c.args.part in
    let front = take part.end text in
    let pushed = on_ok c.push.result _ c.if-is_err.ensures.value c.push.ensures.ok in
    let all : c.push.new.self ≡ c.pieces.tokens ++ t ∷ [] = pushed ∙ ap (λ (s : Span). c.pieces.tokens ++ record { kind = kind; span = s } ∷ []) c.span.ensures in
    record {
      so_far = subst (λ (m : Bool). Divides front false part.start c.push.new.self m c.in-Takes.next) (sym c.is_minus-after_minus.ensures) (subst (λ (ts : List Token). Divides front false part.start ts (is_minus kind) c.in-Takes.next) (sym all) (then_takes i.so_far c.in-Takes.ensures.begins));
      within = w.1;
      few = omega (arith, ap length all, length-append c.pieces.tokens (t ∷ []));
      order = subst (λ (ts : List Token). AreInOrder part.start ts c.in-Takes.next) (sym all) (AreInOrder-push c.pieces.tokens part.start c.pieces.at c.in-Takes.next kind w.0 i.order);
      texts = subst (All (IsSound text)) (sym all) (All-push (IsSound text) c.pieces.tokens t i.texts (sound part.end text c.pieces.after_minus c.pieces.at c.in-Takes.next kind w.0 w.1 c.in-Takes.ensures.begins));
    }
