use Rattle.std.proofs.Common.{take}
use Rattle.hm_terms.specs.Stores.{store}
use Rattle.hm_terms.specs.Copies.{AreCopies}
use Rattle.hm_infer.proofs.declared.ids_of.Given as goal

abbrev pub invariant-loop-part : goal.invariant-loop-part
invariant-loop-part l = AreCopies (store l.solver).declared (take l.part-index l.parts) l.ids
