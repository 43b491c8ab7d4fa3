use Rattle.std.proofs.Common.{List, length, drop, ◌-◌}
use Rattle.ml_typing.specs.Terms.{Shape, function}
use Rattle.hm_terms.specs.Stores.{store, Grows, IsReady}
use Rattle.hm_terms.specs.Shapes.{Lowers, Holds, HoldAll}
use Rattle.hm_terms.specs.Spelling.{Arrows}
use Rattle.hm_terms.proofs.lowering.function_type.Given as goal

abbrev pub invariant-loop-done : goal.invariant-loop-done
invariant-loop-done l = record {
  lowers : (hs : List Shape) (r : Shape) → IsReady (store l.initial.solver) → HoldAll (store l.initial.solver) hs l.params → Holds (store l.initial.solver) r l.fn.last → Lowers (store l.initial.solver) (store l.solver) (function (drop (length l.params - l.done) hs) r) l.to;
  arrows : Grows (store l.initial.solver) (store l.solver) × Arrows (store l.solver) l.initial.solver.slots (drop (length l.params - l.done) l.params) l.fn.last l.solver.slots l.to;
}
