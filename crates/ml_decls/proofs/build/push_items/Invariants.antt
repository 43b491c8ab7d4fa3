use Rattle.std.proofs.Common.{take}
use Rattle.ml_mentions.specs.Programs.{declarations}
use Rattle.ml_decls.specs.Tables.{Adds}
use Rattle.ml_decls.proofs.build.push_items.Given as goal

abbrev pub invariant-loop-item : goal.invariant-loop-item
invariant-loop-item l = Adds l.s.types l.initial.made.nodes l.made.nodes l.initial.infos l.infos (declarations (take l.item-index l.items))
