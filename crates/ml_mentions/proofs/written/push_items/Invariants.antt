use Rattle.std.proofs.Common.{◌≡◌, ◌++◌, map, drop}
use Rattle.ml_mentions.specs.Lists.{all}
use Rattle.ml_mentions.specs.Programs.{kind_annotations}
use Rattle.ml_tree.specs.declared.program.Item.{Item}
use Rattle.ml_mentions.proofs.written.push_items.Given as goal

abbrev pub invariant-loop-item : goal.invariant-loop-item
invariant-loop-item l = l.found ++ all (map (λ (item : Item). kind_annotations item.kind) (drop l.item-index l.items)) ≡ l.initial.found ++ all (map (λ (item : Item). kind_annotations item.kind) l.items)
