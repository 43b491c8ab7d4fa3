use Rattle.std.proofs.Common.{take, ap, ◌∙◌, ◌++◌}
use Rattle.ml_mentions.specs.Programs.{declarations}
use Rattle.ml_decls.proofs.Infos.{adds_nothing, adds_on, adds_same, declarations_more, taken_all}
use Rattle.ml_decls.proofs.build.push_items.Goals as goal

pub loop-item-init : goal.loop-item-init
loop-item-init c = adds_nothing _ _ _

pub loop-item-preserved : goal.loop-item-preserved
loop-item-preserved c = adds_same _ _ _ _ _ _ _ (ap (λ z. declarations (take c.loop-item.item-index c.args.items.now) ++ z) c.item_declarations.ensures ∙ declarations_more c.args.items.now c.loop-item.item-index _ c.loop-item-test.true c.item-item.is) (adds_on _ _ _ _ _ _ _ _ _ c.loop-item.invariant c.in_ok-push_infos.ensures)

pub returns : goal.returns
returns c = adds_same _ _ _ _ _ _ _ (ap declarations (taken_all c.args.items.now c.loop-item.item-index c.loop-item-test.false)) c.loop-item.invariant
