use Rattle.std.proofs.Common.{◌∙◌}
use Rattle.ml_decls.proofs.Whole.{all_violations}
use Rattle.ml_decls.proofs.checking.violations.Goals as goal

pub returns : goal.returns
returns c = all_violations c.args.text.now c.args.s.now.types c.args.items.now _ _ _ _ _ _ _ (c.as_slice.ensures ∙ c.in_ok-outlines.ensures) (c.as_slice-2.ensures ∙ c.in_ok-outlines.ensures) (c.as_slice-3.ensures ∙ c.in_ok-outlines.ensures) c.new-offences.ensures c.in_ok-report_references.ensures c.in_ok-report_names.ensures c.in_ok-report_cycles.ensures
