use Rattle.std.proofs.Common.{sym, ap, ap₂, ◌∙◌}
use Rattle.ml_tree.specs.declared.pattern.PatKind.TheVariants as P
use Rattle.ml_meaning.specs.Patterns as p
use Rattle.ml_values.specs.Shown.{value, values_list, names}
use Rattle.ml_words.specs.Named.{targets}
use Rattle.ml_matching.proofs.Found.{finds_as, finds_both, finds_either}
use Rattle.ml_matching.proofs.Layers.{cons_fits, or_fits, tuple_fits, list_fits, record_fits, tuple_takes, one_field_fits}
use Rattle.ml_matching.proofs.pattern.+fitting.Goals as goal

pub fit_fields-returns-in-Tuple : goal.fit_fields-returns-in-Tuple
fit_fields-returns-in-Tuple t c =
    finds_as c.fit_parts.result _ _ (names c.args.env) c.fit_parts.ensures
    (tuple_takes (targets c.args.tools.scoped.now) c.args.pat.now c.as_slice.result.now (values_list c.args.words) (c.in-Tuple.is ∙ ap P.Tuple (sym c.as_slice.ensures)))

pub fit_fields-returns-in-Some : goal.fit_fields-returns-in-Some
fit_fields-returns-in-Some t c =
    finds_as c.fits_kind.result _ _ (names c.args.env) c.fits_kind.ensures
    (one_field_fits (targets c.args.tools.scoped.now) c.args.pat.now (values_list c.args.words) (value c.in-Some.word) c.in_default.not-Any c.in_default.not-Tuple c.in_default.not-Paren c.in-Some.ensures)

pub fits_kind-returns-in_ok-found-in-Some-cell : goal.fits_kind-returns-in_ok-found-in-Some-cell
fits_kind-returns-in_ok-found-in-Some-cell t c =
    finds_both c.fit_next.result c.in_ok-found-in-Some-cell.found (names c.args.env) _ _ _ c.in_ok-found-in-Some-cell.ensures c.fit_next.ensures
    (cons_fits (targets c.args.tools.scoped.now) c.args.kind.now c.args.node c.get-in-Some-cell.result.now c.get-in-Some-cell-2.result.now (value c.args.word) (c.in-Cons.is ∙ ap₂ P.Cons (sym c.get-in-Some-cell.ensures) (sym c.get-in-Some-cell-2.ensures))
    ∙ ap (p.cell_fits (p.fits (targets c.args.tools.scoped.now) c.get-in-Some-cell.result.now) (p.fits (targets c.args.tools.scoped.now) c.get-in-Some-cell-2.result.now)) (sym c.in-Some-cell.ensures))

pub fits_kind-returns-in-Tuple : goal.fits_kind-returns-in-Tuple
fits_kind-returns-in-Tuple t c =
    finds_as c.fit_tuple.result _ _ (names c.args.env) c.fit_tuple.ensures
    (tuple_fits (targets c.args.tools.scoped.now) c.args.kind.now c.args.node c.as_slice-in-Tuple.result.now (value c.args.word) (c.in-Tuple.is ∙ ap P.Tuple (sym c.as_slice-in-Tuple.ensures)))

pub fits_kind-returns-in-List : goal.fits_kind-returns-in-List
fits_kind-returns-in-List t c =
    finds_as c.fit_list.result _ _ (names c.args.env) c.fit_list.ensures
    (list_fits (targets c.args.tools.scoped.now) c.args.kind.now c.args.node c.as_slice-in-List.result.now (value c.args.word) (c.in-List.is ∙ ap P.List (sym c.as_slice-in-List.ensures)))

pub fits_kind-returns-in-Fields : goal.fits_kind-returns-in-Fields
fits_kind-returns-in-Fields t c =
    finds_as c.fit_record.result _ _ (names c.args.env) c.fit_record.ensures
    (record_fits (targets c.args.tools.scoped.now) c.args.kind.now c.args.node c.as_slice-in-Fields.result.now c.in-Fields.rest (value c.args.word) (c.in-Fields.is ∙ ap (λ fs. P.Fields fs c.in-Fields.rest) (sym c.as_slice-in-Fields.ensures)))

pub fits_kind-returns-in_ok-found-in-Or : goal.fits_kind-returns-in_ok-found-in-Or
fits_kind-returns-in_ok-found-in-Or t c =
    finds_either c.fit_other.result c.in_ok-found-in-Or.found (names c.args.env) _ _ _ c.in_ok-found-in-Or.ensures c.fit_other.ensures
    (or_fits (targets c.args.tools.scoped.now) c.args.kind.now c.args.node c.get-in-Or.result.now c.get-in-Or-2.result.now (value c.args.word) (c.in-Or.is ∙ ap₂ P.Or (sym c.get-in-Or.ensures) (sym c.get-in-Or-2.ensures)))
