use Rattle.ml_meaning.specs.Patterns as p
use Rattle.ml_values.specs.Shown.{values_list, names}
use Rattle.ml_words.specs.Named.{targets}
use Rattle.ml_matching.proofs.Walks.{Walks, along}
use Rattle.ml_matching.proofs.pattern.fit_binds.Given as goal

abbrev pub invariant-loop-one : goal.invariant-loop-one
invariant-loop-one l = Walks (along (λ b. p.fits (targets l.tools.scoped.now) b.pat)) l.binds (values_list l.words) l.one-index (values_list l.rest) (names l.env) (names l.found)
