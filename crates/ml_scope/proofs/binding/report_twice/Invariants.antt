use Rattle.std.proofs.Common.{◌≡◌, drop, []}
use Rattle.ml_scope.specs.Binding.{twice}
use Rattle.ml_scope.proofs.binding.report_twice.Given as goal

abbrev pub invariant-loop-one : goal.invariant-loop-one
invariant-loop-one l = twice l.known l.seen (drop l.one-index l.list) l.journal ≡ twice l.known [] l.list l.initial.journal
