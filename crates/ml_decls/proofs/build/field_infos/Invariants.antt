use Rattle.std.proofs.Common.{map, take}
use Rattle.ml_decls.specs.Said.{said_field}
use Rattle.ml_decls.specs.Tables.{Each, FieldSays, Grows}
use Rattle.ml_decls.proofs.build.field_infos.Given as goal

abbrev pub invariant-loop-one : goal.invariant-loop-one
invariant-loop-one l = record {
  grows : Grows l.initial.made.nodes l.made.nodes;
  say : Each (FieldSays l.made.nodes) l.infos (map (said_field l.s.types) (take l.one-index l.list));
}
