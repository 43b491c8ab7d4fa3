use Rattle.std.proofs.Common.{◌≡◌, drop}
use Rattle.ml_typing.specs.Crossing.{all_constant}
use Rattle.ml_typing.proofs.crossing.all_constant.Given as goal

abbrev pub invariant-loop-con : goal.invariant-loop-con
invariant-loop-con l = all_constant (drop l.con-index l.cons) ≡ all_constant l.cons
