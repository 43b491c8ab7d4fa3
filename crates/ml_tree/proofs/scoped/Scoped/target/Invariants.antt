use Rattle.std.proofs.Common.{◌≡◌, ◌≤◌, ◌-◌, length}
use Rattle.ml_tree.proofs.Search.{IsBetween}
use Rattle.ml_tree.proofs.scoped.Scoped.target.Given as goal

abbrev pub invariant-loop-low : goal.invariant-loop-low
invariant-loop-low l = (l.low ≤ l.high) × (l.high ≤ length l.refs) × (l.refs ≡ l.self.refs) × IsBetween l.refs l.node l.low l.high

abbrev pub decreases-loop-low : goal.decreases-loop-low
decreases-loop-low l = l.high - l.low
