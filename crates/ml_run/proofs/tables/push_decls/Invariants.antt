use Rattle.std.proofs.Common.{◌≡◌, ◌++◌, take}
use Rattle.ml_run.specs.Whole.{decls_of}
use Rattle.ml_run.proofs.tables.push_decls.Given as goal

abbrev pub invariant-loop-decl : goal.invariant-loop-decl
invariant-loop-decl l = decls_of l.list.items ≡ decls_of l.fn.list.items ++ take l.decl-index l.decls
