-- The functions of a program, by the numbers of their nodes. The function of a binding with
-- parameters has the number of the binding's pattern.
use Rattle.std.specs.Prelude.{ℕ, ◌+◌, sum, map, Bool, true, false, List, [], ◌∷◌, ◌++◌, Option, Some, None}
use Rattle.std.specs.List.{flat_map}
use Rattle.ml_tree.specs.declared.pattern.Pat.{Pat}
use Rattle.ml_tree.specs.declared.pattern.Param.{Param}
use Rattle.ml_tree.specs.declared.pattern.PatKind.{out-PatKind}
use Rattle.ml_tree.specs.declared.pattern.PatKind.TheOpen as p
use Rattle.ml_tree.specs.declared.expr.Expr.{Expr}
use Rattle.ml_tree.specs.declared.expr.ExprKind.{ExprKind}
use Rattle.ml_tree.specs.declared.expr.FieldExpr.{FieldExpr}
use Rattle.ml_tree.specs.declared.expr.Arm.{Arm}
use Rattle.ml_tree.specs.declared.expr.Bind.{Bind, para-Bind}
use Rattle.ml_tree.specs.declared.expr.ExprKind.TheOpen as e
use Rattle.ml_tree.specs.declared.expr.ExprKind.TheOpen.{ExprKind-F, Arm-F, Bind-F, Expr-F, FieldExpr-F}
use Rattle.ml_tree.specs.declared.program.Item.{Item}
use Rattle.ml_tree.specs.declared.program.ItemKind.{ItemKind}
use Rattle.ml_tree.specs.declared.program.ItemKind.TheVariants as item
use Rattle.ml_meaning.specs.Names.{References}
use Rattle.ml_meaning.specs.Captures.{bound_by_params, binders, binders_of_arm, uses, uses_of_arm, free, together}
use Rattle.ml_meaning.specs.Weights.{patterns_of_params, expressions_of, expressions_of_arm, weight}

-- one body behind parameters, or the arms of `function`, which match the one argument
pub data Body : Type 0 where
  Single : Expr → Body
  Cases : List Arm → Body

pub record FunctionCode : Type 0 where
  -- its own name, where it is recursive
  pub own : Option ℕ
  pub captures : List ℕ
  pub params : List Param
  pub body : Body
  pub weight : ℕ

-- functions by the number of their node
abbrev pub Functions : Type 0
Functions = List (ℕ × FunctionCode)

abbrev pub at_most_one : Option ℕ → List ℕ
at_most_one None = []
at_most_one (Some n) = n ∷ []

-- the name that a recursive binding binds
abbrev pub bare_name : Pat → Option ℕ
bare_name q = elim (out-PatKind q.kind) [ p.Name words name ↦ Some q.id | _ ↦ None ]

module _ (names : References) where
  abbrev pub with_params : Option ℕ → List Param → Expr → FunctionCode
  with_params own params body = record {
    own = own;
    captures = free (at_most_one own ++ (bound_by_params params ++ binders body)) (uses names body);
    params = params;
    body = Single body;
    weight = weight (patterns_of_params params + expressions_of body);
  }

  abbrev pub with_arms : Option ℕ → List Arm → FunctionCode
  with_arms own arms = record {
    own = own;
    captures = free (at_most_one own ++ together (map binders_of_arm arms)) (together (map (uses_of_arm names) arms));
    params = [];
    body = Cases arms;
    weight = weight (sum (map expressions_of_arm arms));
  }

  -- the functions below a part; `own` is the name that the recursive binding of the part binds
  abbrev pub Below : Type 0
  Below = Option ℕ → Functions

  abbrev pub or_no_functions : Option (Expr × Below) → Functions
  or_no_functions None = []
  or_no_functions (Some a) = a.1 None

  abbrev pub functions_step : ExprKind-F (ExprKind × (ℕ → Below)) (Arm × Functions) (Bind × (Bool → Functions)) (Expr × Below) (FieldExpr × Functions) → ℕ → Below
  functions_step (e.Con name arg) node own = or_no_functions arg
  functions_step (e.Cons a b) node own = a.1 None ++ b.1 None
  functions_step (e.Tuple es) node own = flat_map (λ a. a.1 None) es
  functions_step (e.List es) node own = flat_map (λ a. a.1 None) es
  functions_step (e.Fields fs) node own = flat_map (λ f. f.1) fs
  functions_step (e.Field a name) node own = a.1 None
  functions_step (e.Index a b) node own = a.1 None ++ b.1 None
  functions_step (e.Apply f es) node own = f.1 None ++ flat_map (λ a. a.1 None) es
  functions_step (e.Binary op a b) node own = a.1 None ++ b.1 None
  functions_step (e.Minus a) node own = a.1 None
  functions_step (e.If a b c) node own = a.1 None ++ (b.1 None ++ or_no_functions c)
  functions_step (e.Let recursive binds body) node own = flat_map (λ b. b.1 recursive) binds ++ body.1 None
  functions_step (e.Seq es) node own = flat_map (λ a. a.1 None) es
  functions_step (e.Match a arms) node own = a.1 None ++ flat_map (λ b. b.1) arms
  functions_step (e.Fun params body) node own = (node, with_params own params body.0) ∷ body.1 None
  functions_step (e.Function arms) node own = (node, with_arms own (map (λ a. a.0) arms)) ∷ flat_map (λ a. a.1) arms
  functions_step (e.Paren a) node own = a.1 own
  functions_step (e.Typed a ty) node own = a.1 None
  functions_step (e.Worded words a) node own = a.1 None
  functions_step (e.Exclave a) node own = a.1 None
  functions_step (e.Borrow name of body) node own = body.1 None
  functions_step (e.Overwrite name a) node own = a.1 None
  functions_step _ node own = []

  abbrev pub functions_arm : Arm-F (ExprKind × (ℕ → Below)) (Arm × Functions) (Bind × (Bool → Functions)) (Expr × Below) (FieldExpr × Functions) → Functions
  functions_arm a = or_no_functions a.guard ++ a.body.1 None

  abbrev pub own_name : Bool → Option ℕ → Option ℕ
  own_name false name = None
  own_name true name = name

  abbrev pub functions_bind : Bind-F (ExprKind × (ℕ → Below)) (Arm × Functions) (Bind × (Bool → Functions)) (Expr × Below) (FieldExpr × Functions) → Bool → Functions
  functions_bind b recursive = elim (b.params) [
    | [] ↦ b.body.1 (own_name recursive (bare_name b.pat))
    | q ∷ qs ↦ (b.pat.id, with_params (own_name recursive (Some b.pat.id)) (q ∷ qs) b.body.0) ∷ b.body.1 None
  ]

  abbrev pub functions_expr : Expr-F (ExprKind × (ℕ → Below)) (Arm × Functions) (Bind × (Bool → Functions)) (Expr × Below) (FieldExpr × Functions) → Below
  functions_expr x = x.kind.1 x.id

  abbrev pub functions_field : FieldExpr-F (ExprKind × (ℕ → Below)) (Arm × Functions) (Bind × (Bool → Functions)) (Expr × Below) (FieldExpr × Functions) → Functions
  functions_field f = f.expr.1 None

  abbrev pub functions_of_bind : Bool → Bind → Functions
  functions_of_bind recursive b = para-Bind (ℕ → Below) Functions (Bool → Functions) Below Functions functions_step functions_arm functions_bind functions_expr functions_field b recursive

  abbrev pub functions_of_item : ItemKind → Functions
  functions_of_item (item.Types decls) = []
  functions_of_item (item.Let recursive binds) = flat_map (functions_of_bind recursive) binds

  abbrev pub functions_of : List Item → Functions
  functions_of items = flat_map (λ i. functions_of_item i.kind) items
