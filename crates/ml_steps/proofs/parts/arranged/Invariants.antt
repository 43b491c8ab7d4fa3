use Rattle.ml_values.specs.Shown.{values_list}
use Rattle.ml_steps.specs.Worlds.{setting_of}
use Rattle.ml_steps.proofs.Arranging.{FilledTo}
use Rattle.ml_steps.proofs.parts.arranged.Given as goal

abbrev pub invariant-loop-field : goal.invariant-loop-field
invariant-loop-field l = FilledTo (setting_of l.world) l.fields (values_list l.parts) l.field-index l.rest l.slots.items
