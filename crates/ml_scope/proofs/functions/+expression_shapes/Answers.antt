use Rattle.std.proofs.Common.{◌∙◌, ap, sym}
use Rattle.ml_tree.specs.declared.expr.Expr.{fold_out-Expr}
use Rattle.ml_scope.specs.Names.{Env}
use Rattle.ml_scope.specs.Journal.{Journal}
use Rattle.ml_scope.specs.Expressions.{KindSeen, BindSeen, Seen, FieldSeen, step, arm_node, bind_node, expr_node, field_node}
use Rattle.ml_scope.proofs.ExpressionLayers.{paren_shape}
use Rattle.ml_scope.proofs.functions.+expression_shapes.Goals as goal

pub kind_shape-returns-in-Paren : goal.kind_shape-returns-in-Paren
kind_shape-returns-in-Paren t c = λ k. let h = c.shape.ensures k in let e = paren_shape k c.in-Paren.inner in cc

pub shape-returns : goal.shape-returns
shape-returns t c = λ k. c.kind_shape.ensures k ∙ sym (ap (λ s. s.shape) (fold_out-Expr KindSeen (Env → Journal → Journal) BindSeen Seen FieldSeen (step k) (arm_node k) (bind_node k) (expr_node k) (field_node k) c.args.e.now))
