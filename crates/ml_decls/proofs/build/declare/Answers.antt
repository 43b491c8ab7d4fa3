use Rattle.ml_decls.specs.Said.{predefined}
use Rattle.ml_decls.proofs.build.declare.Goals as goal

pub returns : goal.returns
returns c = record { before = c.push_items.new.made.well_made.before; own_slots = c.push_items.new.made.well_made.own_slots; say = c.in_ok-push_items.ensures.say predefined c.in_ok-types.ensures }
