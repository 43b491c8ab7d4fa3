use Rattle.std.proofs.Common.{◌≡◌, ◌≤◌, ◌-◌, length}
use Rattle.ml_tree.proofs.Search.{IsBetween}
use Rattle.ml_tree.proofs.scoped.Scoped.type_target.Given as goal

abbrev pub invariant-loop-low : goal.invariant-loop-low
invariant-loop-low l = (l.low ≤ l.high) × (l.high ≤ length l.types) × (l.types ≡ l.self.types) × IsBetween l.types l.id l.low l.high

abbrev pub decreases-loop-low : goal.decreases-loop-low
decreases-loop-low l = l.high - l.low
