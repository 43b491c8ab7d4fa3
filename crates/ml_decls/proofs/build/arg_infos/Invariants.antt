use Rattle.std.proofs.Common.{map, take}
use Rattle.ml_decls.specs.Said.{said_arg}
use Rattle.ml_decls.specs.Tables.{Each, ArgSays, Grows}
use Rattle.ml_decls.proofs.build.arg_infos.Given as goal

abbrev pub invariant-loop-one : goal.invariant-loop-one
invariant-loop-one l = record {
  grows : Grows l.initial.made.nodes l.made.nodes;
  say : Each (ArgSays l.made.nodes) l.infos (map (said_arg l.s.types) (take l.one-index l.list));
}
