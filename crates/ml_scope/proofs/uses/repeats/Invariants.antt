use Rattle.std.proofs.Common.{◌≡◌, drop, map, []}
use Rattle.ml_scope.specs.Uses.{repeats}
use Rattle.ml_scope.proofs.uses.repeats.Given as goal

abbrev pub invariant-loop-one : goal.invariant-loop-one
invariant-loop-one l = repeats l.seen.keys (map (λ f. f.place) (drop l.one-index l.list)) ≡ repeats [] (map (λ f. f.place) l.list)
