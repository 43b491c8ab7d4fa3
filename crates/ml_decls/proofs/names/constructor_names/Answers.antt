use Rattle.ml_mentions.proofs.Appends.{all_step, all_end}
use Rattle.ml_mentions.specs.declared.outline.Outline.{Outline}
use Rattle.ml_decls.proofs.names.constructor_names.Goals as goal

pub loop-one-preserved : goal.loop-one-preserved
loop-one-preserved c = all_step (λ (o : Outline). o.constructors) c.args.outlines.now c.loop-one.one-index _ _ _ _ c.loop-one-test.true c.one-item.is (rw c.as_slice.ensures at c.in_ok-push_spans.ensures) c.loop-one.invariant

pub returns : goal.returns
returns c = all_end (λ (o : Outline). o.constructors) c.args.outlines.now c.loop-one.one-index _ _ c.loop-one-test.false c.loop-one.invariant
