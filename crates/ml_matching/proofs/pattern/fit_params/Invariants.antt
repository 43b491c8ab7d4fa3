use Rattle.ml_meaning.specs.Patterns as p
use Rattle.ml_values.specs.Shown.{values_list, names}
use Rattle.ml_words.specs.Named.{targets}
use Rattle.ml_matching.proofs.Walks.{Walks, along}
use Rattle.ml_matching.proofs.pattern.fit_params.Given as goal

abbrev pub invariant-loop-param : goal.invariant-loop-param
invariant-loop-param l = Walks (along (λ q. p.fits (targets l.tools.scoped.now) q.pat)) l.params (values_list l.words) l.param-index (values_list l.rest) (names l.env) (names l.found)
