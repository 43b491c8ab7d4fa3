-- The table of functions as the meaning has it, and the functions below the parts of a tree.
use Rattle.std.specs.Prelude.{◌≡◌, ℕ, Bool, List, map, slice_get, Option, Some, None}
use Rattle.std.specs.Option.{option_map}
use Rattle.ml_tree.specs.declared.expr.Expr.{Expr, para-Expr}
use Rattle.ml_tree.specs.declared.expr.Arm.{Arm, para-Arm}
use Rattle.ml_tree.specs.declared.expr.FieldExpr.{FieldExpr, para-FieldExpr}
use Rattle.ml_tree.specs.declared.expr.ExprKind.{ExprKind, para-ExprKind}
use Rattle.ml_meaning.specs.Names.{References, lookup}
use Rattle.ml_meaning.specs.Functions as m
use Rattle.ml_meaning.specs.Functions.{FunctionCode, Functions, Below, functions_step, functions_arm, functions_bind, functions_expr, functions_field}
use Rattle.ml_functions.specs.declared.function.Body.{Body}
use Rattle.ml_functions.specs.declared.function.Body.TheVariants as body
use Rattle.ml_functions.specs.declared.function.Function.{Function}

abbrev pub body_of : Body → m.Body
body_of (body.Single e) = m.Single e.now
body_of (body.Cases arms) = m.Cases arms.now

-- how many arguments a function takes: one where it consists of arms
abbrev pub arity_of : m.Body → ℕ → ℕ
arity_of (m.Single body) params = params
arity_of (m.Cases arms) params = 1

abbrev pub code_of : Function → FunctionCode
code_of f = record { own = f.own; captures = f.captures.now; params = f.params.now; body = body_of f.body; weight = f.weight }

abbrev pub entry_of : ℕ × Function → ℕ × FunctionCode
entry_of p = (p.0, code_of p.1)

abbrev pub entries : List (ℕ × Function) → Functions
entries list = map entry_of list

-- ---- the function of a node, by its place in the list

abbrev pub place_of : Option (Option ℕ) → Option ℕ
place_of None = None
place_of (Some place) = place

abbrev pub entry_at : List (ℕ × Function) → Option ℕ → Option Function
entry_at list None = None
entry_at list (Some place) = option_map (λ e. e.1) (slice_get list place)

abbrev pub function_at : List (Option ℕ) → List (ℕ × Function) → ℕ → Option Function
function_at places list node = entry_at list (place_of (slice_get places node))

-- for each node its function, the first where there are several
pub record Finds (places : List (Option ℕ)) (list : List (ℕ × Function)) : Type 0 where
  pub by : (node : ℕ) → function_at places list node ≡ lookup node list

-- for each node the function that the meaning has for it
pub record IsTable (places : List (Option ℕ)) (list : List (ℕ × Function)) (table : Functions) : Type 0 where
  pub by : (node : ℕ) → option_map code_of (function_at places list node) ≡ lookup node table

-- ---- the functions below a part

module _ (names : References) where
  abbrev pub functions_of_kind : ExprKind → ℕ → Option ℕ → Functions
  functions_of_kind k node own = para-ExprKind (ℕ → Below names) Functions (Bool → Functions) (Below names) Functions (functions_step names) (functions_arm names) (functions_bind names) (functions_expr names) (functions_field names) k node own

  abbrev pub functions_of_expr : Expr → Option ℕ → Functions
  functions_of_expr e own = para-Expr (ℕ → Below names) Functions (Bool → Functions) (Below names) Functions (functions_step names) (functions_arm names) (functions_bind names) (functions_expr names) (functions_field names) e own

  abbrev pub functions_of_arm : Arm → Functions
  functions_of_arm a = para-Arm (ℕ → Below names) Functions (Bool → Functions) (Below names) Functions (functions_step names) (functions_arm names) (functions_bind names) (functions_expr names) (functions_field names) a

  abbrev pub functions_of_field : FieldExpr → Functions
  functions_of_field f = para-FieldExpr (ℕ → Below names) Functions (Bool → Functions) (Below names) Functions (functions_step names) (functions_arm names) (functions_bind names) (functions_expr names) (functions_field names) f
