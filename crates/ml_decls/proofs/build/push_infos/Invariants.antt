use Rattle.std.proofs.Common.{take}
use Rattle.ml_decls.specs.Tables.{Adds}
use Rattle.ml_decls.proofs.build.push_infos.Given as goal

abbrev pub invariant-loop-one : goal.invariant-loop-one
invariant-loop-one l = Adds l.s.types l.initial.made.nodes l.made.nodes l.initial.infos l.infos (take l.one-index l.list)
