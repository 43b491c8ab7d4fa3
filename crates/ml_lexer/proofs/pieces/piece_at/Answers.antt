use Rattle.std.proofs.Common.{◌≡◌, ◌+◌, ℕ, Bool, List, Some, None, sym, subst}
use Rattle.ml_lexer.specs.Tokens.{look, Comes, Begins, comment_piece, text_piece, blank, plain, fault, comment, quotation, refusal}
use Rattle.ml_lexer.specs.declared.pieces.Look.{Look}
use Rattle.ml_lexer.specs.declared.pieces.Look.TheVariants.{Space, Plain, Fault, OpensComment, OpensText}
use Rattle.ml_lexer.specs.declared.pieces.Piece.{Piece}
use Rattle.ml_lexer.specs.declared.pieces.Piece.TheVariants.{Faults}
use Rattle.ml_lexer.specs.declared.literals.TextEnd.TheVariants.{ClosedAt, BadAt, Unclosed}
use Rattle.oxml_base.specs.declared.rule.Rule.TheVariants.{OpenComment, OpenText, BadEscape}
use Rattle.oxml_base.specs.declared.refusal.Refusal.{Refusal}
use Rattle.ml_lexer.proofs.pieces.piece_at.Goals as goal

comes : (text : List ℕ) (m : Bool) (at : ℕ) (l : Look) (p : Piece) → l ≡ look m text at → Comes text at l p → Begins text m at p
comes text m at l p e d = subst (λ (x : Look). Comes text at x p) e d

faulty : (text : List ℕ) (m : Bool) (at : ℕ) (r s : Refusal) → s ≡ r → Begins text m at (Faults r) → Begins text m at (Faults s)
faulty text m at r s e d = subst (λ (x : Refusal). Begins text m at (Faults x)) (sym e) d

pub returns-in-Space-clause-begins : goal.returns-in-Space-clause-begins
returns-in-Space-clause-begins c = comes c.args.text.now c.args.after_minus c.args.at Space _ c.in-Space.ensures.look blank

pub returns-in-Plain-clause-begins : goal.returns-in-Plain-clause-begins
returns-in-Plain-clause-begins c = comes c.args.text.now c.args.after_minus c.args.at (Plain c.in-Plain.kind c.in-Plain.end) _ c.in-Plain.ensures.look plain

pub returns-in-Fault-clause-begins : goal.returns-in-Fault-clause-begins
returns-in-Fault-clause-begins c = comes c.args.text.now c.args.after_minus c.args.at (Fault c.in-Fault.fault) _ c.in-Fault.ensures.look fault

pub returns-in-Some-clause-begins : goal.returns-in-Some-clause-begins
returns-in-Some-clause-begins c = comes c.args.text.now c.args.after_minus c.args.at OpensComment (comment_piece c.args.at (Some c.in-Some.end)) c.in-OpensComment.ensures.look (comment c.in-Some.ensures.end)

pub returns-in-None-clause-begins : goal.returns-in-None-clause-begins
returns-in-None-clause-begins c =
    faulty c.args.text.now c.args.after_minus c.args.at (refusal OpenComment c.args.at (c.args.at + 2)) _ c.refusal.ensures
    (comes c.args.text.now c.args.after_minus c.args.at OpensComment (comment_piece c.args.at None) c.in-OpensComment.ensures.look (comment c.in-None.ensures.end))

pub returns-in-ClosedAt-clause-begins : goal.returns-in-ClosedAt-clause-begins
returns-in-ClosedAt-clause-begins c = comes c.args.text.now c.args.after_minus c.args.at OpensText (text_piece c.args.at (ClosedAt c.in-ClosedAt.end)) c.in-OpensText.ensures.look (quotation c.in-ClosedAt.ensures.end.1)

pub returns-in-BadAt-clause-begins : goal.returns-in-BadAt-clause-begins
returns-in-BadAt-clause-begins c =
    faulty c.args.text.now c.args.after_minus c.args.at (refusal BadEscape c.in-BadAt.bad (c.in-BadAt.bad + 2)) _ c.refusal-in-BadAt.ensures
    (comes c.args.text.now c.args.after_minus c.args.at OpensText (text_piece c.args.at (BadAt c.in-BadAt.bad)) c.in-OpensText.ensures.look (quotation c.in-BadAt.ensures.end.1))

pub returns-in-Unclosed-clause-begins : goal.returns-in-Unclosed-clause-begins
returns-in-Unclosed-clause-begins c =
    faulty c.args.text.now c.args.after_minus c.args.at (refusal OpenText c.args.at (c.args.at + 1)) _ c.refusal-in-Unclosed.ensures
    (comes c.args.text.now c.args.after_minus c.args.at OpensText (text_piece c.args.at Unclosed) c.in-OpensText.ensures.look (quotation c.in-Unclosed.ensures.end.1))
