use Rattle.std.proofs.Common.{◌≡◌, drop, None}
use Rattle.ml_scope.specs.Readings.{earliest}
use Rattle.ml_scope.proofs.offences.first_offence.Given as goal

abbrev pub invariant-loop-found : goal.invariant-loop-found
invariant-loop-found l = earliest l.first (drop l.found-index l.journal) ≡ earliest None l.journal
