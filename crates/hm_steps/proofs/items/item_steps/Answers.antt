use Rattle.ml_typing.specs.Typing.{names_of}
use Rattle.hm_steps.proofs.ItemParts.{of_types, of_binds}
use Rattle.hm_steps.proofs.items.item_steps.Goals as goal

pub returns-in_ok-push-in-Types : goal.returns-in_ok-push-in-Types
returns-in_ok-push-in-Types c = of_types (names_of c.args.s.now.refs c.args.s.now.types c.args.item.now.id) c.args.item.now _ _ _ _ c.in-Types.is c.new-steps.ensures c.new.ensures c.in_ok-push-in-Types.ensures

pub returns-in_ok-push-in-Let : goal.returns-in_ok-push-in-Let
returns-in_ok-push-in-Let c = of_binds (names_of c.args.s.now.refs c.args.s.now.types c.args.item.now.id) c.args.item.now _ _ _ _ _ _ _ c.in-Let.is c.as_slice.ensures c.new-steps.ensures c.new-in-Let.ensures c.in_ok-binds-in-Let.ensures c.in_ok-push-in-Let.ensures
