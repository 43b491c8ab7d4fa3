use Rattle.std.proofs.Common.{◌≡◌}
use Rattle.ml_typing.specs.Terms.{fresh_from}
use Rattle.hm_terms.specs.Stores.{store, Grows, IsReady}
use Rattle.hm_terms.specs.Shapes.{LowersAll}
use Rattle.hm_terms.specs.Spelling.{AreFresh}
use Rattle.hm_terms.proofs.lowering.fresh_types.Given as goal

abbrev pub invariant-loop-number : goal.invariant-loop-number
invariant-loop-number l = record {
  lowers : IsReady (store l.initial.solver) → LowersAll (store l.initial.solver) (store l.solver) (fresh_from l.node l.number 0) l.ids;
  fresh : Grows (store l.initial.solver) (store l.solver) × AreFresh (store l.solver) l.node l.number l.ids;
  slots : l.solver.slots ≡ l.initial.solver.slots;
}
