use Rattle.ml_mentions.proofs.Appends.{all_step, all_end}
use Rattle.ml_mentions.specs.Programs.{kind_annotations}
use Rattle.ml_tree.specs.declared.program.Item.{Item}
use Rattle.ml_mentions.proofs.written.push_items.Goals as goal

pub loop-item-preserved : goal.loop-item-preserved
loop-item-preserved c = all_step (λ (item : Item). kind_annotations item.kind) c.args.items.now c.loop-item.item-index _ _ _ _ c.loop-item-test.true c.item-item.is c.in_ok-item_annotations.ensures c.loop-item.invariant

pub returns : goal.returns
returns c = all_end (λ (item : Item). kind_annotations item.kind) c.args.items.now c.loop-item.item-index _ _ c.loop-item-test.false c.loop-item.invariant
