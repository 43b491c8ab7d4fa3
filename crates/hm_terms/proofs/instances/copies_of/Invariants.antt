use Rattle.std.proofs.Common.{take, nat_eq}
use Rattle.std.specs.HashMap.{get}
use Rattle.hm_terms.specs.Copies.{AreCopies}
use Rattle.hm_terms.proofs.instances.copies_of.Given as goal

abbrev pub invariant-loop-id : goal.invariant-loop-id
invariant-loop-id l = AreCopies (get nat_eq l.copies) (take l.id-index l.parts) l.others
