-- The steps of expressions, items and programs.
use Rattle.std.specs.Prelude.{ℕ, ◌+◌, List, [], ◌∷◌, ◌++◌, map, Option, Some, None}
use Rattle.oxml_base.specs.declared.span.Span.{Span}
use Rattle.ml_tree.specs.declared.pattern.Param.{Param}
use Rattle.ml_tree.specs.declared.pattern.Pat.{Pat, fold-Pat}
use Rattle.ml_tree.specs.declared.pattern.PatKind.TheOpen as p
use Rattle.ml_tree.specs.declared.pattern.PatKind.TheOpen.{PatKind-F, FieldPat-F, Pat-F}
use Rattle.ml_tree.specs.declared.types.TyExpr.{TyExpr}
use Rattle.ml_tree.specs.declared.expr.BinOp.{BinOp}
use Rattle.ml_tree.specs.declared.expr.BinOp.TheVariants.{Add, Sub, Mul, Div, Mod, And, Or, Xor, Lsl, Lsr, Asr, Eq, Ne, Lt, Gt, Le, Ge, Append, Join, BoolAnd, BoolOr}
use Rattle.ml_tree.specs.declared.expr.Expr.{Expr, fold-Expr}
use Rattle.ml_tree.specs.declared.expr.ExprKind.{ExprKind, fold-ExprKind}
use Rattle.ml_tree.specs.declared.expr.Arm.{Arm, fold-Arm}
use Rattle.ml_tree.specs.declared.expr.FieldExpr.{FieldExpr, fold-FieldExpr}
use Rattle.ml_tree.specs.declared.expr.Bind.{Bind, fold-Bind, out-Bind}
use Rattle.ml_tree.specs.declared.expr.ExprKind.TheOpen as e
use Rattle.ml_tree.specs.declared.expr.ExprKind.TheOpen.{ExprKind-F, Arm-F, Bind-F, Expr-F, FieldExpr-F}
use Rattle.ml_tree.specs.declared.program.Item.{Item}
use Rattle.ml_tree.specs.declared.program.ItemKind.{ItemKind}
use Rattle.ml_tree.specs.declared.program.ItemKind.TheVariants.{Types, Let}
use Rattle.ml_typing.specs.declared.equation.Unknown.{Unknown}
use Rattle.ml_typing.specs.declared.equation.Unknown.TheVariants.{Node, Binder, Fresh}
use Rattle.ml_typing.specs.declared.equation.Term.{Term}
use Rattle.ml_typing.specs.declared.equation.Term.TheVariants as t
use Rattle.ml_typing.specs.declared.equation.Equation.{Equation}
use Rattle.ml_typing.specs.declared.equation.Step.{Step}
use Rattle.ml_typing.specs.Written.{Names, written}
use Rattle.ml_typing.specs.Rows.{Part, Row, FieldPart, row, part_of, equation, node_is, steps_and, steps_of, all_steps, steps_of_any, type_of, at, int, char, string, bool, unit, list_of, each_is, name_term, con_term, argument_is, declared_record, declared_field, field_part, field_parts, fields_are, pattern}

pub record ArmPart : Type 0 where
  pub pat : Part
  pub guard : Option Part
  pub body : Part

pub record BindPart : Type 0 where
  pub pat : Part
  pub params : List Part
  pub result : Option Term
  pub body : Part

-- the steps of arms; each top pattern has, behind its own row, the type of the scrutinee
abbrev pub arms_steps : Term → List ArmPart → List Step
arms_steps scrutinee [] = []
arms_steps scrutinee (a ∷ rest) = ((steps_and a.pat (node_is a.pat scrutinee ∷ []) ++ steps_of_any a.guard) ++ steps_of a.body) ++ arms_steps scrutinee rest

abbrev pub guard_is : Option Part → List Equation
guard_is None = []
guard_is (Some g) = node_is g bool ∷ []

abbrev pub arms_are : Term → List ArmPart → List Equation
arms_are result [] = []
arms_are result (a ∷ rest) = (guard_is a.guard ++ node_is a.body result ∷ []) ++ arms_are result rest

-- from the first parameter, or else the body, to the body's end
abbrev pub value_span : List Part → Part → Span
value_span [] body = body.span
value_span (q ∷ qs) body = record { start = q.span.start; «end» = body.span.«end» }

abbrev pub result_is : Option Term → Part → List Equation
result_is None body = []
result_is (Some ty) body = node_is body ty ∷ []

-- the bound value against the pattern, then the body against the result's type
abbrev pub bind_step : BindPart → Step
bind_step b = record { span = record { start = b.pat.span.start; «end» = b.body.span.«end» }; node = None; equations = equation (value_span b.params b.body) (Node b.pat.id) (t.Function (map type_of b.params) (type_of b.body)) ∷ result_is b.result b.body; compared = None }

abbrev pub bind_steps : BindPart → List Step
bind_steps b = ((steps_of b.pat ++ all_steps b.params) ++ steps_of b.body) ++ bind_step b ∷ []

abbrev pub binds_steps : List BindPart → List Step
binds_steps [] = []
binds_steps (b ∷ bs) = bind_steps b ++ binds_steps bs

abbrev pub ats : ℕ → ℕ → List Part → List Term
ats n k [] = []
ats n k (q ∷ qs) = at n k ∷ ats n (k + 1) qs

abbrev pub args_are : ℕ → ℕ → List Part → List Equation
args_are n k [] = []
args_are n k (q ∷ qs) = node_is q (at n k) ∷ args_are n (k + 1) qs

-- two operands of one type, and the result
abbrev pub both : Term → Term → Part → Part → ℕ → Span → List Equation
both operand result a b n s = equation s (Node n) result ∷ node_is a operand ∷ node_is b operand ∷ []

pub record Operator : Type 0 where
  pub operand : ℕ → Term
  pub result : ℕ → Term
  pub compares : ℕ → Option Unknown

abbrev pub plain : Term → Operator
plain ty = record { operand = λ n. ty; result = λ n. ty; compares = λ n. None }

abbrev pub comparison : Operator
comparison = record { operand = λ n. at n 0; result = λ n. bool; compares = λ n. Some (Fresh n 0) }

abbrev pub operator : BinOp → Operator
operator Add = plain int
operator Sub = plain int
operator Mul = plain int
operator Div = plain int
operator Mod = plain int
operator And = plain int
operator Or = plain int
operator Xor = plain int
operator Lsl = plain int
operator Lsr = plain int
operator Asr = plain int
operator Eq = comparison
operator Ne = comparison
operator Lt = comparison
operator Gt = comparison
operator Le = comparison
operator Ge = comparison
operator Append = record { operand = λ n. list_of (at n 0); result = λ n. list_of (at n 0); compares = λ n. None }
operator Join = plain string
operator BoolAnd = plain bool
operator BoolOr = plain bool

-- the last part has the node's type
abbrev pub last_is : ℕ → List Part → List Equation
last_is n [] = []
last_is n (q ∷ []) = node_is q (t.Of (Node n)) ∷ []
last_is n (q ∷ r ∷ qs) = last_is n (r ∷ qs)

abbrev pub branch_is : ℕ → Span → Option Part → List Equation
branch_is n s None = equation s (Node n) unit ∷ []
branch_is n s (Some q) = node_is q (t.Of (Node n)) ∷ []

abbrev pub param_parts : Names → List Param → List Part
param_parts names params = map (λ (q : Param). pattern names q.pat) params

abbrev pub expr_row : Names → ExprKind-F Row ArmPart BindPart Part FieldPart → Row
expr_row names (e.Int value) = row [] (λ n s. equation s (Node n) int ∷ [])
expr_row names (e.Char value) = row [] (λ n s. equation s (Node n) char ∷ [])
expr_row names (e.Text value) = row [] (λ n s. equation s (Node n) string ∷ [])
expr_row names (e.Name span) = row [] (λ n s. equation s (Node n) (name_term n (names.target n)) ∷ [])
expr_row names (e.Path module_ name) = row [] (λ n s. equation s (Node n) (name_term n (names.target n)) ∷ [])
expr_row names (e.Con name arg) = row (steps_of_any arg) (λ n s. equation s (Node n) (con_term names n name) ∷ argument_is names n arg)
expr_row names (e.Cons a b) = row (steps_of a ++ steps_of b) (λ n s. equation s (Node n) (list_of (at n 0)) ∷ node_is a (at n 0) ∷ node_is b (list_of (at n 0)) ∷ [])
expr_row names (e.Tuple es) = row (all_steps es) (λ n s. equation s (Node n) (t.Tuple (map type_of es)) ∷ [])
expr_row names (e.List es) = row (all_steps es) (λ n s. equation s (Node n) (list_of (at n 0)) ∷ each_is (at n 0) es)
expr_row names (e.Fields fs) = row (all_steps (field_parts fs)) (λ n s. equation s (Node n) (declared_record n (names.target n)) ∷ fields_are names n fs)
expr_row names (e.Field a name) = row (steps_of a) (λ n s. equation s (Node n) (declared_field n (names.target n)) ∷ node_is a (declared_record n (names.target n)) ∷ [])
expr_row names (e.Index a b) = row (steps_of a ++ steps_of b) (λ n s. equation s (Node n) char ∷ node_is a string ∷ node_is b int ∷ [])
expr_row names (e.Apply f es) = row (steps_of f ++ all_steps es) (λ n s. node_is f (t.Function (ats n 0 es) (t.Of (Node n))) ∷ args_are n 0 es)
expr_row names (e.Binary op a b) = record { before = λ n. steps_of a ++ steps_of b; own = λ n s. both ((operator op).operand n) ((operator op).result n) a b n s; compared = (operator op).compares }
expr_row names (e.Minus a) = row (steps_of a) (λ n s. equation s (Node n) int ∷ node_is a int ∷ [])
expr_row names (e.If a b c) = row ((steps_of a ++ steps_of b) ++ steps_of_any c) (λ n s. node_is a bool ∷ node_is b (t.Of (Node n)) ∷ branch_is n s c)
expr_row names (e.Let recursive binds body) = row (binds_steps binds ++ steps_of body) (λ n s. node_is body (t.Of (Node n)) ∷ [])
expr_row names (e.Seq es) = row (all_steps es) (λ n s. last_is n es)
expr_row names (e.Match a arms) = row (steps_of a ++ arms_steps (type_of a) arms) (λ n s. arms_are (t.Of (Node n)) arms)
expr_row names (e.Fun params body) = row (all_steps (param_parts names params) ++ steps_of body) (λ n s. equation s (Node n) (t.Function (map type_of (param_parts names params)) (type_of body)) ∷ [])
expr_row names (e.Function arms) = record { before = λ n. arms_steps (at n 0) arms; own = λ n s. equation s (Node n) (t.Function (at n 0 ∷ []) (at n 1)) ∷ arms_are (at n 1) arms; compared = λ n. None }
expr_row names (e.Paren a) = row (steps_of a) (λ n s. node_is a (t.Of (Node n)) ∷ [])
expr_row names (e.Typed a ty) = row (steps_of a) (λ n s. equation s (Node n) (written names ty) ∷ node_is a (t.Of (Node n)) ∷ [])
expr_row names (e.Worded words a) = row (steps_of a) (λ n s. node_is a (t.Of (Node n)) ∷ [])
expr_row names (e.Exclave a) = row (steps_of a) (λ n s. node_is a (t.Of (Node n)) ∷ [])
expr_row names (e.Borrow name of body) = row (steps_of body) (λ n s. equation of (Binder n) (name_term n (names.target n)) ∷ node_is body (t.Of (Node n)) ∷ [])
expr_row names (e.Overwrite name a) = row (steps_of a) (λ n s. node_is a (t.Of (Node n)) ∷ [])

abbrev pub joined : List (List ℕ) → List ℕ
joined [] = []
joined (ns ∷ rest) = ns ++ joined rest

abbrev pub arm_part : Names → Arm-F Row ArmPart BindPart Part FieldPart → ArmPart
arm_part names a = record { pat = pattern names a.pat; guard = a.guard; body = a.body }

abbrev pub result_term : Names → Option TyExpr → Option Term
result_term names None = None
result_term names (Some ty) = Some (written names ty)

abbrev pub bind_part : Names → Bind-F Row ArmPart BindPart Part FieldPart → BindPart
bind_part names b = record { pat = pattern names b.pat; params = param_parts names b.params; result = result_term names b.result; body = b.body }

abbrev pub expr_whole : Expr-F Row ArmPart BindPart Part FieldPart → Part
expr_whole x = part_of x.id x.span x.kind

abbrev pub expr_field : FieldExpr-F Row ArmPart BindPart Part FieldPart → FieldPart
expr_field f = field_part f.id f.name f.expr

abbrev pub expression : Names → Expr → Part
expression names x = fold-Expr Row ArmPart BindPart Part FieldPart (expr_row names) (arm_part names) (bind_part names) expr_whole expr_field x

abbrev pub bind : Names → Bind → BindPart
bind names b = fold-Bind Row ArmPart BindPart Part FieldPart (expr_row names) (arm_part names) (bind_part names) expr_whole expr_field b

abbrev pub expr_kind : Names → ExprKind → Row
expr_kind names k = fold-ExprKind Row ArmPart BindPart Part FieldPart (expr_row names) (arm_part names) (bind_part names) expr_whole expr_field k

abbrev pub arm : Names → Arm → ArmPart
arm names a = fold-Arm Row ArmPart BindPart Part FieldPart (expr_row names) (arm_part names) (bind_part names) expr_whole expr_field a

abbrev pub field_expr : Names → FieldExpr → FieldPart
field_expr names f = fold-FieldExpr Row ArmPart BindPart Part FieldPart (expr_row names) (arm_part names) (bind_part names) expr_whole expr_field f

-- the steps of an item: those of its binds, then its own
abbrev pub kind_steps : Names → ItemKind → List Step
kind_steps names (Types decls) = []
kind_steps names (Let recursive binds) = binds_steps (map (bind names) binds)

abbrev pub item_steps : Names → Item → List Step
item_steps names item = kind_steps names item.kind ++ record { span = item.span; node = Some item.id; equations = []; compared = None } ∷ []

-- the nodes of a pattern that bind a name, by their numbers
abbrev pub kind_binders : PatKind-F (ℕ → List ℕ) (List ℕ) (List ℕ) → ℕ → List ℕ
kind_binders (p.Name words span) n = n ∷ []
kind_binders (p.Con name None) n = []
kind_binders (p.Con name (Some q)) n = q
kind_binders (p.Cons q u) n = q ++ u
kind_binders (p.Tuple qs) n = joined qs
kind_binders (p.List qs) n = joined qs
kind_binders (p.Fields fs rest) n = joined fs
kind_binders (p.Or q u) n = q ++ u
kind_binders (p.Named q name) n = n ∷ q
kind_binders (p.Typed q ty) n = q
kind_binders (p.Paren q) n = q
kind_binders p.Any n = []
kind_binders (p.Int value) n = []
kind_binders (p.Char value) n = []
kind_binders (p.Text value) n = []

abbrev pub field_binders : FieldPat-F (ℕ → List ℕ) (List ℕ) (List ℕ) → List ℕ
field_binders f = f.pat

abbrev pub whole_binders : Pat-F (ℕ → List ℕ) (List ℕ) (List ℕ) → List ℕ
whole_binders q = q.kind q.id

abbrev pub binders : Pat → List ℕ
binders q = fold-Pat (ℕ → List ℕ) (List ℕ) (List ℕ) kind_binders field_binders whole_binders q

abbrev pub bind_binders : List Bind → List ℕ
bind_binders [] = []
bind_binders (b ∷ bs) = binders (out-Bind b).pat ++ bind_binders bs

abbrev pub kind_names : ItemKind → List ℕ
kind_names (Types decls) = []
kind_names (Let recursive binds) = bind_binders binds
