use Rattle.ml_meaning.specs.Functions.{functions_of_item}
use Rattle.ml_words.specs.Named.{targets}
use Rattle.ml_functions.specs.Taken.{Fresh}
use Rattle.ml_functions.specs.Table.{entries}
use Rattle.ml_functions.proofs.Tables.{Lists}
use Rattle.ml_functions.proofs.collect.Collector.items.Given as goal

abbrev pub invariant-loop-one : goal.invariant-loop-one
invariant-loop-one l = Fresh l.self.marks × Lists (λ i. functions_of_item (targets l.place.scoped.now) i.kind) l.list l.one-index (entries l.initial.self.list.items) (entries l.self.list.items)
