use Rattle.ml_meaning.specs.Patterns as p
use Rattle.ml_values.specs.Shown.{value, values_list, names}
use Rattle.ml_words.specs.Named.{targets}
use Rattle.ml_matching.proofs.Walks.{Walks, along, down, by_name}
use Rattle.ml_matching.proofs.pattern.+fitting.Given as goal

abbrev pub invariant-fit_all-loop-pat : goal.invariant-fit_all-loop-pat
invariant-fit_all-loop-pat l = Walks (along (p.fits (targets l.tools.scoped.now))) l.pats (values_list l.words) l.pat-index (values_list l.rest) (names l.env) (names l.found)

abbrev pub invariant-fit_list-loop-pat : goal.invariant-fit_list-loop-pat
invariant-fit_list-loop-pat l = Walks (down (p.fits (targets l.tools.scoped.now))) l.pats (value l.word) l.pat-index (value l.rest) (names l.env) (names l.found)

abbrev pub invariant-fit_named-loop-field : goal.invariant-fit_named-loop-field
invariant-fit_named-loop-field l = Walks (by_name (targets l.tools.scoped.now)) l.list (values_list l.words) l.field-index (values_list l.words) (names l.env) (names l.found)
