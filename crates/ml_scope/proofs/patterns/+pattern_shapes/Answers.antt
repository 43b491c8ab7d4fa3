use Rattle.std.proofs.Common.{◌∙◌, ap, sym}
use Rattle.ml_tree.specs.declared.pattern.Pat.{fold_out-Pat}
use Rattle.ml_scope.specs.Patterns.{PatKindSeen, FieldPatSeen, PatSeen, pattern_step, pattern_field, pattern_node}
use Rattle.ml_scope.proofs.Layers.{paren_shape}
use Rattle.ml_scope.proofs.patterns.+pattern_shapes.Goals as goal

pub kind_shape-returns-in-Paren : goal.kind_shape-returns-in-Paren
kind_shape-returns-in-Paren t c = λ k. let h = c.shape.ensures k in let e = paren_shape k c.in-Paren.inner in cc

pub shape-returns : goal.shape-returns
shape-returns t c = λ k. c.kind_shape.ensures k ∙ sym (ap (λ s. s.shape) (fold_out-Pat PatKindSeen FieldPatSeen PatSeen (pattern_step k) (pattern_field k) (pattern_node k) c.args.pat.now))
