use Rattle.std.proofs.Common.{◌≡◌, map, drop, [], None}
use Rattle.ml_scope.specs.Journal.{each}
use Rattle.ml_scope.specs.CaptureWalk.{step}
use Rattle.ml_scope.proofs.captures.too_many_captures.Given as goal

abbrev pub invariant-loop-found : goal.invariant-loop-found
invariant-loop-found l = each (map step (drop l.found-index l.journal)) l.capturing ≡ each (map step l.journal) (record { around = []; itself = None; captures = [] })
