use Rattle.std.proofs.Common.{◌≡◌, ◌+◌, ◌-◌, ℕ, suc, Some, None, sym, subst, arith}
use Rattle.ml_lexer.specs.Tokens.{CommentBy, over, ends, leaves, opens, passes}
use Rattle.ml_lexer.specs.declared.comments.InComment.{InComment}
use Rattle.ml_lexer.specs.declared.comments.InComment.TheVariants.{Leaves}
use Rattle.ml_lexer.proofs.NoText.{HasNoText-later}
use Rattle.ml_lexer.proofs.comments.comment_end.Goals as goal

pub returns-in-Over-clause-end : goal.returns-in-Over-clause-end
returns-in-Over-clause-end c =
    let text = c.args.text.now in
    c.comment.invariant.from_here None (subst (λ (x : InComment). CommentBy text x c.comment.inner c.comment.here None) c.in-Over.ensures.here over)

pub comment-preserved-in-Opens : goal.comment-preserved-in-Opens
comment-preserved-in-Opens c =
    let text = c.args.text.now in
    record {
      from_here = λ e d. c.comment.invariant.from_here e (subst (λ (x : InComment). CommentBy text x c.comment.inner c.comment.here e) c.in-Opens.ensures.here (opens d));
      few = omega arith;
      forward = omega arith;
      within = c.in-Opens.ensures.within;
      none = λ f. HasNoText-later text c.comment.here (c.comment.here + 2) (omega arith) (c.in-Opens.ensures.none f);
    }

pub returns-then-inner-eq0-clause-end : goal.returns-then-inner-eq0-clause-end
returns-then-inner-eq0-clause-end c =
    let text = c.args.text.now in
    let e = Some (c.comment.here + 2) in
    let d : CommentBy text Leaves c.comment.inner c.comment.here e = subst (λ (n : ℕ). CommentBy text Leaves n c.comment.here e) (sym c.if-inner-eq0.true) ends in
    c.comment.invariant.from_here e (subst (λ (x : InComment). CommentBy text x c.comment.inner c.comment.here e) c.in-Leaves.ensures.here d)

pub comment-preserved-in-Leaves : goal.comment-preserved-in-Leaves
comment-preserved-in-Leaves c =
    let text = c.args.text.now in
    let n : suc (c.comment.inner - 1) ≡ c.comment.inner = omega arith in
    record {
      from_here = λ e d. c.comment.invariant.from_here e (subst (λ (x : InComment). CommentBy text x c.comment.inner c.comment.here e) c.in-Leaves.ensures.here (subst (λ (k : ℕ). CommentBy text Leaves k c.comment.here e) n (leaves d)));
      few = omega arith;
      forward = omega arith;
      within = c.in-Leaves.ensures.within;
      none = λ f. HasNoText-later text c.comment.here (c.comment.here + 2) (omega arith) (c.in-Leaves.ensures.none f);
    }

pub comment-preserved : goal.comment-preserved
comment-preserved c =
    let text = c.args.text.now in
    let within = c.in-Passes.ensures.within in
    record {
      from_here = λ e d. c.comment.invariant.from_here e (subst (λ (x : InComment). CommentBy text x c.comment.inner c.comment.here e) c.in-Passes.ensures.here (passes d));
      few = omega (arith, within);
      forward = omega (arith, within);
      within = within.1;
      none = λ f. HasNoText-later text c.comment.here c.in-Passes.next (omega (arith, within)) (c.in-Passes.ensures.none f);
    }
