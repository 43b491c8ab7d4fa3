use Rattle.std.proofs.Common.{map, take}
use Rattle.ml_decls.specs.Said.{said_con}
use Rattle.ml_decls.specs.Tables.{Each, ConSays, Grows}
use Rattle.ml_decls.proofs.build.con_infos.Given as goal

abbrev pub invariant-loop-one : goal.invariant-loop-one
invariant-loop-one l = record {
  grows : Grows l.initial.made.nodes l.made.nodes;
  say : Each (ConSays l.made.nodes) l.infos (map (said_con l.s.types) (take l.one-index l.list));
}
