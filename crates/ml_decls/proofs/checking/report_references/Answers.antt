use Rattle.std.proofs.Common.{◌∙◌}
use Rattle.ml_decls.proofs.Whole.{references_added}
use Rattle.ml_decls.proofs.checking.report_references.Goals as goal

pub returns : goal.returns
returns c = references_added c.args.s.now.types c.args.outlines.now c.args.items.now _ _ _ _ _ _ (c.as_slice.ensures ∙ c.in_ok-counts.ensures) (c.as_slice-2.ensures ∙ c.in_ok-counts.ensures) (c.as_slice-3.ensures ∙ c.in_ok-annotations.ensures) c.in_ok-report_outlines.ensures c.in_ok-report_mentions.ensures
