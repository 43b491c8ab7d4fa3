use Rattle.std.proofs.Common.{◌∷◌, ◌++◌, [], map, refl, ap, ◌∙◌}
use Rattle.ml_typing.specs.Written.{written}
use Rattle.ml_typing.specs.Typing.{names_of}
use Rattle.hm_steps.proofs.Lists.{block_step, block_end}
use Rattle.hm_steps.proofs.written.+types.Goals as goal

pub all_written-loop-ty-preserved : goal.all_written-loop-ty-preserved
all_written-loop-ty-preserved t c =
    let names = names_of c.args.s.now.refs c.args.s.now.types c.args.item in
    block_step (λ q. written names q ∷ []) (map (written names)) c.args.list.now c.loop-ty.ty-index _ _ _ _ (λ y ys. refl) c.loop-ty-test.true c.ty-item.is
    (c.in_ok-push.ensures.ok ∙ ap (λ z. c.loop-ty.terms ++ z ∷ []) c.in_ok-term.ensures) c.loop-ty.invariant

pub all_written-returns : goal.all_written-returns
all_written-returns t c =
    let names = names_of c.args.s.now.refs c.args.s.now.types c.args.item in
    block_end (map (written names)) c.args.list.now c.loop-ty.ty-index _ _ refl c.loop-ty-test.false c.loop-ty.invariant
