use Rattle.ml_functions.proofs.Places.{PlacesFrom}
use Rattle.ml_functions.proofs.collect.places.Given as goal

abbrev pub invariant-loop-left : goal.invariant-loop-left
invariant-loop-left l = PlacesFrom l.list l.left l.places.items

abbrev pub decreases-loop-left : goal.decreases-loop-left
decreases-loop-left l = l.left
