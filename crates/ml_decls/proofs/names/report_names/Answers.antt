use Rattle.std.proofs.Common.{◌∙◌}
use Rattle.ml_decls.proofs.Whole.{names_added}
use Rattle.ml_decls.proofs.names.report_names.Goals as goal

pub returns : goal.returns
returns c = names_added c.args.text.now c.args.outlines.now _ _ _ _ _ _ _ (c.as_slice.ensures ∙ c.in_ok-types.ensures) (c.as_slice-2.ensures ∙ c.in_ok-constructors.ensures) (c.as_slice-3.ensures ∙ c.in_ok-fields.ensures) c.in_ok-report_twice.ensures c.in_ok-report_twice-2.ensures c.in_ok-report_twice-3.ensures
