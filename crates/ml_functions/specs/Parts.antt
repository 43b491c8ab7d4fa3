-- How many expressions and patterns the parts of a tree have, an inner function counting as one.
use Rattle.std.specs.Prelude.{ℕ, ◌-◌, ◌^◌, min}
use Rattle.ml_tree.specs.declared.pattern.FieldPat.{FieldPat, fold-FieldPat}
use Rattle.ml_tree.specs.declared.pattern.Param.{Param}
use Rattle.ml_tree.specs.declared.pattern.PatKind.{PatKind, fold-PatKind}
use Rattle.ml_tree.specs.declared.expr.FieldExpr.{FieldExpr, fold-FieldExpr}
use Rattle.ml_tree.specs.declared.expr.ExprKind.{ExprKind, fold-ExprKind}
use Rattle.ml_tree.specs.Nodes.{pattern_step}
use Rattle.ml_meaning.specs.Weights.{patterns_of, pattern_part, pattern_whole, parts, arm_parts, bind_parts, expr_whole, field_part}

-- a count in 64 bits, which stops at the greatest number of them
abbrev pub counted : ℕ → ℕ
counted n = min n (2 ^ 64 - 1)

abbrev pub patterns_of_kind : PatKind → ℕ
patterns_of_kind k = fold-PatKind ℕ ℕ ℕ pattern_step pattern_part pattern_whole k

abbrev pub patterns_of_field : FieldPat → ℕ
patterns_of_field f = fold-FieldPat ℕ ℕ ℕ pattern_step pattern_part pattern_whole f

abbrev pub patterns_of_param : Param → ℕ
patterns_of_param q = patterns_of q.pat

abbrev pub expressions_of_kind : ExprKind → ℕ
expressions_of_kind k = fold-ExprKind ℕ ℕ ℕ ℕ ℕ parts arm_parts bind_parts expr_whole field_part k

abbrev pub expressions_of_field : FieldExpr → ℕ
expressions_of_field f = fold-FieldExpr ℕ ℕ ℕ ℕ ℕ parts arm_parts bind_parts expr_whole field_part f
