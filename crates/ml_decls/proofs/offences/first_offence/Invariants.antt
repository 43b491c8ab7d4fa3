use Rattle.std.proofs.Common.{take}
use Rattle.ml_decls.proofs.Firsts.{IsLeast}
use Rattle.ml_decls.proofs.offences.first_offence.Given as goal

abbrev pub invariant-loop-one : goal.invariant-loop-one
invariant-loop-one l = IsLeast (take l.one-index l.offences) l.first
