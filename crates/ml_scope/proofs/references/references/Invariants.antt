use Rattle.std.proofs.Common.{◌≡◌, map, drop, []}
use Rattle.ml_scope.specs.Journal.{each}
use Rattle.ml_scope.specs.Readings.{with_reference}
use Rattle.ml_scope.proofs.references.references.Given as goal

abbrev pub invariant-loop-found : goal.invariant-loop-found
invariant-loop-found l = each (map with_reference (drop l.found-index l.journal)) l.list ≡ each (map with_reference l.journal) []
