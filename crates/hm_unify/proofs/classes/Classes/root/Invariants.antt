use Rattle.std.proofs.Common.{◌≡◌}
use Rattle.hm_unify.specs.declared.classes.End.{End}
use Rattle.hm_unify.specs.Classes.{IsForest}
use Rattle.hm_unify.proofs.classes.Classes.root.Given as goal

abbrev pub invariant-loop-step : goal.invariant-loop-step
invariant-loop-step l = (f : End → End) → IsForest l.self f → f l.fn.end ≡ f l.at
