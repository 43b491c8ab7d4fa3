use Rattle.std.proofs.Common.{◌≡◌, map, drop, []}
use Rattle.ml_scope.specs.Journal.{each}
use Rattle.ml_scope.specs.Readings.{with_type_reference}
use Rattle.ml_scope.proofs.references.type_references.Given as goal

abbrev pub invariant-loop-found : goal.invariant-loop-found
invariant-loop-found l = each (map (with_type_reference l.text) (drop l.found-index l.journal)) l.names ≡ each (map (with_type_reference l.text) l.journal) (record { variables = []; list = [] })
