-- The weight of a function or an item: four words of the call stack for each expression and pattern
-- of it, an inner function counting as one, and 64 words more.
use Rattle.std.specs.Prelude.{ℕ, ◌+◌, ◌*◌, sum, map, List, [], ◌∷◌}
use Rattle.ml_tree.specs.declared.pattern.Pat.{Pat, fold-Pat}
use Rattle.ml_tree.specs.declared.pattern.Param.{Param}
use Rattle.ml_tree.specs.declared.pattern.PatKind.TheOpen.{FieldPat-F, Pat-F}
use Rattle.ml_tree.specs.declared.expr.Expr.{Expr, fold-Expr}
use Rattle.ml_tree.specs.declared.expr.Arm.{Arm, fold-Arm}
use Rattle.ml_tree.specs.declared.expr.Bind.{Bind, fold-Bind}
use Rattle.ml_tree.specs.declared.expr.ExprKind.TheOpen as e
use Rattle.ml_tree.specs.declared.expr.ExprKind.TheOpen.{ExprKind-F, Arm-F, Bind-F, Expr-F, FieldExpr-F}
use Rattle.ml_tree.specs.Nodes.{zero_or, pattern_step}

abbrev pub pattern_part : FieldPat-F ℕ ℕ ℕ → ℕ
pattern_part f = f.pat

abbrev pub pattern_whole : Pat-F ℕ ℕ ℕ → ℕ
pattern_whole q = q.kind + 1

-- the patterns in a pattern
abbrev pub patterns_of : Pat → ℕ
patterns_of q = fold-Pat ℕ ℕ ℕ pattern_step pattern_part pattern_whole q

abbrev pub patterns_of_params : List Param → ℕ
patterns_of_params params = sum (map (λ q. patterns_of q.pat) params)

-- the parts of an expression; the body of an inner function is none of it
abbrev pub parts : ExprKind-F ℕ ℕ ℕ ℕ ℕ → ℕ
parts (e.Con name arg) = zero_or arg
parts (e.Cons a b) = a + b
parts (e.Tuple es) = sum es
parts (e.List es) = sum es
parts (e.Fields fs) = sum fs
parts (e.Field a name) = a
parts (e.Index a b) = a + b
parts (e.Apply f es) = f + sum es
parts (e.Binary op a b) = a + b
parts (e.Minus a) = a
parts (e.If a b c) = a + b + zero_or c
parts (e.Let recursive binds body) = sum binds + body
parts (e.Seq es) = sum es
parts (e.Match a arms) = a + sum arms
parts (e.Paren a) = a
parts (e.Typed a ty) = a
parts (e.Worded words a) = a
parts (e.Exclave a) = a
parts (e.Borrow name of body) = body
parts (e.Overwrite name a) = a
parts _ = 0

abbrev pub arm_parts : Arm-F ℕ ℕ ℕ ℕ ℕ → ℕ
arm_parts a = patterns_of a.pat + zero_or a.guard + a.body

-- a binding with parameters is an inner function
abbrev pub bind_parts : Bind-F ℕ ℕ ℕ ℕ ℕ → ℕ
bind_parts b = elim (b.params) [ [] ↦ patterns_of b.pat + b.body | q ∷ qs ↦ 1 ]

abbrev pub expr_whole : Expr-F ℕ ℕ ℕ ℕ ℕ → ℕ
expr_whole x = x.kind + 1

abbrev pub field_part : FieldExpr-F ℕ ℕ ℕ ℕ ℕ → ℕ
field_part f = f.expr

abbrev pub expressions_of : Expr → ℕ
expressions_of x = fold-Expr ℕ ℕ ℕ ℕ ℕ parts arm_parts bind_parts expr_whole field_part x

abbrev pub expressions_of_arm : Arm → ℕ
expressions_of_arm a = fold-Arm ℕ ℕ ℕ ℕ ℕ parts arm_parts bind_parts expr_whole field_part a

abbrev pub expressions_of_bind : Bind → ℕ
expressions_of_bind b = fold-Bind ℕ ℕ ℕ ℕ ℕ parts arm_parts bind_parts expr_whole field_part b

abbrev pub weight : ℕ → ℕ
weight k = 4 * k + 64
