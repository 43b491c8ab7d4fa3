-- The captures of a function: the local names that it uses and that are bound outside it, each once,
-- in the order of first use. A recursive function does not capture itself. Names go by the number of
-- their binder.
use Rattle.std.specs.Prelude.{ℕ, List, [], ◌∷◌, ◌++◌, Option, Some, None, ◌==◌, if◌then◌else◌}
use Rattle.std.specs.List.{list_any}
use Rattle.ml_tree.specs.declared.reference.Ref.{Ref}
use Rattle.ml_tree.specs.declared.reference.Ref.TheVariants as ref
use Rattle.ml_tree.specs.declared.pattern.Pat.{Pat, fold-Pat}
use Rattle.ml_tree.specs.declared.pattern.Param.{Param}
use Rattle.ml_tree.specs.declared.pattern.PatKind.TheOpen as p
use Rattle.ml_tree.specs.declared.pattern.PatKind.TheOpen.{PatKind-F, FieldPat-F, Pat-F}
use Rattle.ml_tree.specs.declared.expr.Expr.{Expr, fold-Expr}
use Rattle.ml_tree.specs.declared.expr.Arm.{Arm, fold-Arm}
use Rattle.ml_tree.specs.declared.expr.ExprKind.TheOpen as e
use Rattle.ml_tree.specs.declared.expr.ExprKind.TheOpen.{ExprKind-F, Arm-F, Bind-F, Expr-F, FieldExpr-F}
use Rattle.ml_meaning.specs.Names.{References}

abbrev pub Numbers : Type 0
Numbers = List ℕ

abbrev pub together : List Numbers → Numbers
together [] = []
together (xs ∷ rest) = xs ++ together rest

abbrev pub or_none : Option Numbers → Numbers
or_none None = []
or_none (Some xs) = xs

-- ---- what a pattern binds

abbrev pub bound_step : PatKind-F (ℕ → Numbers) Numbers Numbers → ℕ → Numbers
bound_step (p.Name words name) node = node ∷ []
bound_step (p.Con name arg) node = or_none arg
bound_step (p.Cons a b) node = a ++ b
bound_step (p.Tuple qs) node = together qs
bound_step (p.List qs) node = together qs
bound_step (p.Fields fs rest) node = together fs
bound_step (p.Or a b) node = a ++ b
bound_step (p.Named q name) node = node ∷ q
bound_step (p.Typed q ty) node = q
bound_step (p.Paren q) node = q
bound_step _ node = []

abbrev pub bound_part : FieldPat-F (ℕ → Numbers) Numbers Numbers → Numbers
bound_part f = f.pat

abbrev pub bound_whole : Pat-F (ℕ → Numbers) Numbers Numbers → Numbers
bound_whole q = q.kind q.id

abbrev pub bound_names : Pat → Numbers
bound_names q = fold-Pat (ℕ → Numbers) Numbers Numbers bound_step bound_part bound_whole q

abbrev pub bound_by_params : List Param → Numbers
bound_by_params [] = []
bound_by_params (q ∷ qs) = bound_names q.pat ++ bound_by_params qs

-- ---- what an expression binds anywhere in it

abbrev pub binders_step : ExprKind-F (ℕ → Numbers) Numbers Numbers Numbers Numbers → ℕ → Numbers
binders_step (e.Con name arg) node = or_none arg
binders_step (e.Cons a b) node = a ++ b
binders_step (e.Tuple es) node = together es
binders_step (e.List es) node = together es
binders_step (e.Fields fs) node = together fs
binders_step (e.Field a name) node = a
binders_step (e.Index a b) node = a ++ b
binders_step (e.Apply f es) node = f ++ together es
binders_step (e.Binary op a b) node = a ++ b
binders_step (e.Minus a) node = a
binders_step (e.If a b c) node = a ++ (b ++ or_none c)
binders_step (e.Let recursive binds body) node = together binds ++ body
binders_step (e.Seq es) node = together es
binders_step (e.Match a arms) node = a ++ together arms
binders_step (e.Fun params body) node = bound_by_params params ++ body
binders_step (e.Function arms) node = together arms
binders_step (e.Paren a) node = a
binders_step (e.Typed a ty) node = a
binders_step (e.Worded words a) node = a
binders_step (e.Exclave a) node = a
binders_step (e.Borrow name of body) node = node ∷ body
binders_step (e.Overwrite name a) node = a
binders_step _ node = []

abbrev pub binders_arm : Arm-F (ℕ → Numbers) Numbers Numbers Numbers Numbers → Numbers
binders_arm a = bound_names a.pat ++ (or_none a.guard ++ a.body)

abbrev pub binders_bind : Bind-F (ℕ → Numbers) Numbers Numbers Numbers Numbers → Numbers
binders_bind b = bound_names b.pat ++ (bound_by_params b.params ++ b.body)

abbrev pub binders_expr : Expr-F (ℕ → Numbers) Numbers Numbers Numbers Numbers → Numbers
binders_expr x = x.kind x.id

abbrev pub binders_field : FieldExpr-F (ℕ → Numbers) Numbers Numbers Numbers Numbers → Numbers
binders_field f = f.expr

abbrev pub binders : Expr → Numbers
binders x = fold-Expr (ℕ → Numbers) Numbers Numbers Numbers Numbers binders_step binders_arm binders_bind binders_expr binders_field x

abbrev pub binders_of_arm : Arm → Numbers
binders_of_arm a = fold-Arm (ℕ → Numbers) Numbers Numbers Numbers Numbers binders_step binders_arm binders_bind binders_expr binders_field a

-- ---- the local names that an expression uses

abbrev pub local_use : Option Ref → Numbers
local_use (Some (ref.Local n)) = n ∷ []
local_use _ = []

module _ (names : References) where
  abbrev pub uses_step : ExprKind-F (ℕ → Numbers) Numbers Numbers Numbers Numbers → ℕ → Numbers
  uses_step (e.Name name) node = local_use (names node)
  uses_step (e.Con name arg) node = or_none arg
  uses_step (e.Cons a b) node = a ++ b
  uses_step (e.Tuple es) node = together es
  uses_step (e.List es) node = together es
  uses_step (e.Fields fs) node = together fs
  uses_step (e.Field a name) node = a
  uses_step (e.Index a b) node = a ++ b
  uses_step (e.Apply f es) node = f ++ together es
  uses_step (e.Binary op a b) node = a ++ b
  uses_step (e.Minus a) node = a
  uses_step (e.If a b c) node = a ++ (b ++ or_none c)
  uses_step (e.Let recursive binds body) node = together binds ++ body
  uses_step (e.Seq es) node = together es
  uses_step (e.Match a arms) node = a ++ together arms
  uses_step (e.Fun params body) node = body
  uses_step (e.Function arms) node = together arms
  uses_step (e.Paren a) node = a
  uses_step (e.Typed a ty) node = a
  uses_step (e.Worded words a) node = a
  uses_step (e.Exclave a) node = a
  uses_step (e.Borrow name of body) node = local_use (names node) ++ body
  uses_step (e.Overwrite name a) node = local_use (names node) ++ a
  uses_step _ node = []

  abbrev pub uses_arm : Arm-F (ℕ → Numbers) Numbers Numbers Numbers Numbers → Numbers
  uses_arm a = or_none a.guard ++ a.body

  abbrev pub uses_bind : Bind-F (ℕ → Numbers) Numbers Numbers Numbers Numbers → Numbers
  uses_bind b = b.body

  abbrev pub uses_expr : Expr-F (ℕ → Numbers) Numbers Numbers Numbers Numbers → Numbers
  uses_expr x = x.kind x.id

  abbrev pub uses_field : FieldExpr-F (ℕ → Numbers) Numbers Numbers Numbers Numbers → Numbers
  uses_field f = f.expr

  abbrev pub uses : Expr → Numbers
  uses x = fold-Expr (ℕ → Numbers) Numbers Numbers Numbers Numbers uses_step uses_arm uses_bind uses_expr uses_field x

  abbrev pub uses_of_arm : Arm → Numbers
  uses_of_arm a = fold-Arm (ℕ → Numbers) Numbers Numbers Numbers Numbers uses_step uses_arm uses_bind uses_expr uses_field a

-- the numbers that are not taken, each once
abbrev pub free : Numbers → Numbers → Numbers
free taken [] = []
free taken (n ∷ ns) = if list_any (λ m. m == n) taken then free taken ns else n ∷ free (n ∷ taken) ns
