use Rattle.std.proofs.Common.{◌≡◌, ℕ, Some, true, slice_get}
use Rattle.graph_cycles.proofs.walk.unmarked.Given as goal

abbrev pub invariant-loop : goal.invariant-loop
invariant-loop l = (v : ℕ) → slice_get l.marks.items v ≡ Some true → ⊥
