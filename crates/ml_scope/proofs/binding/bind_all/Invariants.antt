use Rattle.std.proofs.Common.{◌≡◌, drop}
use Rattle.ml_scope.specs.Binding.{bound}
use Rattle.ml_scope.proofs.binding.bind_all.Given as goal

abbrev pub invariant-loop-one : goal.invariant-loop-one
invariant-loop-one l = bound l.known l.top (drop l.one-index l.list) l.scope ≡ bound l.known l.top l.list l.initial.scope
