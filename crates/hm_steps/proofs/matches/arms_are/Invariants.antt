use Rattle.std.proofs.Common.{◌≡◌, ◌++◌, map, drop}
use Rattle.ml_typing.specs.declared.equation.Term.TheVariants.{Of}
use Rattle.ml_typing.specs.Written.{Names}
use Rattle.ml_typing.specs.Steps.{arm, arms_are}
use Rattle.hm_steps.proofs.matches.arms_are.Given as goal

abbrev pub invariant-loop-one : goal.invariant-loop-one
invariant-loop-one l = (names : Names) → l.all ++ arms_are (Of l.whole) (map (arm names) (drop l.one-index l.arms)) ≡ l.fn.list ++ arms_are (Of l.whole) (map (arm names) l.arms)
