use Rattle.std.proofs.Common.{map, take}
use Rattle.ml_typing.specs.Terms.{Context, shape_of}
use Rattle.hm_terms.specs.Stores.{store, Grows, IsReady}
use Rattle.hm_terms.specs.Shapes.{LowersAll}
use Rattle.hm_terms.specs.Contexts.{IsRead}
use Rattle.hm_terms.specs.Spelling.{SpellAll}
use Rattle.hm_terms.proofs.lowering.+terms.Given as goal

abbrev pub invariant-types_of-loop-term : goal.invariant-types_of-loop-term
invariant-types_of-loop-term l = record {
  lowers : (c : Context) → IsRead (store l.initial.solver) l.d.types c → LowersAll (store l.initial.solver) (store l.solver) (map (shape_of c) (take l.term-index l.terms)) l.ids;
  spells : IsReady (store l.initial.solver) → Grows (store l.initial.solver) (store l.solver) × SpellAll (store l.solver) l.d.types l.initial.solver.slots (take l.term-index l.terms) l.solver.slots l.ids;
}
