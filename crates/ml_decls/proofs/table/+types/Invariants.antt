use Rattle.std.proofs.Common.{map, take}
use Rattle.ml_decls.specs.Said.{written}
use Rattle.ml_decls.specs.Tables.{Each, HasType, Grows}
use Rattle.ml_decls.proofs.table.+types.Given as goal

abbrev pub invariant-push_types-loop-one : goal.invariant-push_types-loop-one
invariant-push_types-loop-one l = record {
  grows : Grows l.initial.made.nodes l.made.nodes;
  say : Each (HasType l.made.nodes) l.ids (map (written l.s.types) (take l.one-index l.list));
}
