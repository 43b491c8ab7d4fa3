use Rattle.ml_words.specs.Named.{targets}
use Rattle.ml_meaning.specs.Functions.{functions_of_bind}
use Rattle.std.proofs.Common.{None}
use Rattle.ml_functions.specs.Taken.{Fresh}
use Rattle.ml_functions.specs.Table.{entries, functions_of_arm, functions_of_expr, functions_of_field}
use Rattle.ml_functions.proofs.Tables.{Lists}
use Rattle.ml_functions.proofs.collect.Collector.+collecting.Given as goal

abbrev pub invariant-exprs-loop-one : goal.invariant-exprs-loop-one
invariant-exprs-loop-one l = Fresh l.self.marks × Lists (λ e. functions_of_expr (targets l.place.scoped.now) e None) l.list l.one-index (entries l.initial.self.list.items) (entries l.self.list.items)

abbrev pub invariant-fields-loop-one : goal.invariant-fields-loop-one
invariant-fields-loop-one l = Fresh l.self.marks × Lists (functions_of_field (targets l.place.scoped.now)) l.list l.one-index (entries l.initial.self.list.items) (entries l.self.list.items)

abbrev pub invariant-arms-loop-one : goal.invariant-arms-loop-one
invariant-arms-loop-one l = Fresh l.self.marks × Lists (functions_of_arm (targets l.place.scoped.now)) l.list l.one-index (entries l.initial.self.list.items) (entries l.self.list.items)

abbrev pub invariant-binds-loop-one : goal.invariant-binds-loop-one
invariant-binds-loop-one l = Fresh l.self.marks × Lists (functions_of_bind (targets l.place.scoped.now) l.recursive) l.list l.one-index (entries l.initial.self.list.items) (entries l.self.list.items)
