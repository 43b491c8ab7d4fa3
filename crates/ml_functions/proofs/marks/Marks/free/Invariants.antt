use Rattle.ml_functions.proofs.Taking.{FreeFrom}
use Rattle.ml_functions.proofs.marks.Marks.free.Given as goal

abbrev pub invariant-loop-name : goal.invariant-loop-name
invariant-loop-name l = FreeFrom l.initial.self l.self l.names l.name-index l.found.items
