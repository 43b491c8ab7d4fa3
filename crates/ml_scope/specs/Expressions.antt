-- What an expression uses, in the scope in which it stands.
use Rattle.std.specs.Prelude.{ℕ, List, [], ◌∷◌, Option, Some, None, Bool, true, false, not, ◌&&◌, ◌||◌, if◌then◌else◌, map, length, codes, nat_lt}
use Rattle.std.specs.Option.{option_map}
use Rattle.std.specs.Str.{bytes_eq}
use Rattle.oxml_base.specs.declared.span.Span.{Span}
use Rattle.oxml_base.specs.declared.rule.Rule.TheVariants.{UnboundValue, LeftOut}
use Rattle.ml_tree.specs.declared.types.TyExpr.{TyExpr}
use Rattle.ml_tree.specs.declared.pattern.Pat.{Pat}
use Rattle.ml_tree.specs.declared.pattern.Param.{Param}
use Rattle.ml_tree.specs.declared.reference.Op.{Op}
use Rattle.ml_tree.specs.declared.reference.Op.TheVariants.{StringLength, StringGet}
use Rattle.ml_tree.specs.declared.reference.Ref.TheVariants.{Operation}
use Rattle.ml_tree.specs.declared.expr.Expr.{Expr, fold-Expr}
use Rattle.ml_tree.specs.declared.expr.Arm.{Arm, fold-Arm}
use Rattle.ml_tree.specs.declared.expr.Bind.{Bind, fold-Bind}
use Rattle.ml_tree.specs.declared.expr.FieldExpr.{FieldExpr, fold-FieldExpr}
use Rattle.ml_tree.specs.declared.expr.ExprKind.{ExprKind, fold-ExprKind}
use Rattle.ml_tree.specs.declared.expr.ExprKind.TheOpen as e
use Rattle.ml_tree.specs.declared.expr.ExprKind.TheOpen.{ExprKind-F, Arm-F, Bind-F, Expr-F, FieldExpr-F}
use Rattle.ml_scope.specs.declared.binder.Binder.{Binder}
use Rattle.ml_scope.specs.declared.shape.Shape.{Shape}
use Rattle.ml_scope.specs.declared.shape.Shape.TheVariants.{Tuple, Function, Other}
use Rattle.ml_scope.specs.declared.found.Found.TheVariants.{Names, Itself, Opens, Closes}
use Rattle.ml_scope.specs.Names.{Known, Env, Name, spelling}
use Rattle.ml_scope.specs.Journal.{Journal, add, offence, offence_where, each, perhaps}
use Rattle.ml_scope.specs.Shapes.{inside, is_name, is_fun}
use Rattle.ml_scope.specs.Types.{type_look}
use Rattle.ml_scope.specs.Uses.{value_named, constructor_named, field_named, record_named}
use Rattle.ml_scope.specs.Patterns.{Binders, binders, param_binders, pattern_seen, param_look}
use Rattle.ml_scope.specs.Binding.{bound, twice}

-- an expression: its shape, and what it adds to the journal where these values are in scope
pub record Seen : Type 0 where
  pub shape : Shape
  pub look : Env → Journal → Journal

-- the same of its kind, which is looked at with its number and its span
pub record KindSeen : Type 0 where
  pub shape : Shape
  pub look : ℕ → Span → Env → Journal → Journal

pub record FieldSeen : Type 0 where
  pub name : Span
  pub look : Env → Journal → Journal

-- one binding of a `let`: the names that it binds, and what it adds to the journal, by whether the `let` is recursive
pub record BindSeen : Type 0 where
  pub names : Binders
  pub look : Bool → Env → Journal → Journal

abbrev pub no_use : KindSeen
no_use = record { shape = Other; look = λ id span env js. js }

-- the two predefined paths
abbrev pub operation_at : Name → Name → Option Op
operation_at module_name name = if bytes_eq module_name (codes "String") then (if bytes_eq name (codes "length") then Some StringLength else (if bytes_eq name (codes "get") then Some StringGet else None)) else None

abbrev pub path_meant : ℕ → Span → Option Op → Journal → Journal
path_meant id whole None js = offence UnboundValue whole js
path_meant id whole (Some op) js = add js (Names id (Operation op))

-- a binding is a function where it has a parameter, or where it binds a bare name to `fun` or `function`
abbrev pub is_function : List Param → Shape → Shape → Bool
is_function params pat body = nat_lt 0 (length params) || (is_name pat && is_fun body)

-- a recursive binding without parameters whose value is a function names that function
abbrev pub itself_where : Bool → ℕ → Journal → Journal
itself_where true node js = add js (Itself node)
itself_where false node js = js

module _ (k : Known) where
  abbrev pub path_named : ℕ → Span → Span → Span → Journal → Journal
  path_named id whole module_name name js = path_meant id whole (operation_at (spelling k.text module_name) (spelling k.text name)) js

  abbrev pub annotation : Option TyExpr → Journal → Journal
  annotation ty js = perhaps (option_map (type_look k) ty) js

  abbrev pub param_names : List Param → List Binder
  param_names params = each (map param_binders params) []

  -- a function of the node `id`, up to its body
  abbrev pub function_head : ℕ → List Param → Option TyExpr → Journal → Journal
  function_head id params result js = annotation result (twice k [] (param_names params) (each (map (param_look k) params) (add js (Opens id))))

  abbrev pub function_look : ℕ → List Param → Option TyExpr → (Env → Journal → Journal) → Env → Journal → Journal
  function_look id params result body env js = add (body (bound k false (param_names params) env) (function_head id params result js)) Closes

  -- up to a value that is no function with parameters; one that is recursive and `fun` or `function` is what its pattern names
  abbrev pub plain_head : Bool → Pat → Option TyExpr → Shape → Journal → Journal
  plain_head recursive pat result body js = annotation result (itself_where (recursive && is_function [] (pattern_seen k pat).shape body) pat.id js)

  abbrev pub plain_look : Bool → Pat → Option TyExpr → Seen → Env → Journal → Journal
  plain_look recursive pat result body env js = body.look env (plain_head recursive pat result body.shape js)

  -- what a binding binds its pattern to
  abbrev pub value_look : Bool → Pat → List Param → Option TyExpr → Seen → Env → Journal → Journal
  value_look recursive pat params result body env js = if nat_lt 0 (length params) then function_look pat.id params result body.look env js else plain_look recursive pat result body env js

  -- a binding up to its value; a recursive one is a function
  abbrev pub bind_head : Bool → Pat → List Param → Shape → Journal → Journal
  bind_head recursive pat params body js = (pattern_seen k pat).look (offence_where (recursive && not (is_function params (pattern_seen k pat).shape body)) LeftOut pat.span js)

  abbrev pub bind_node : Bind-F KindSeen (Env → Journal → Journal) BindSeen Seen FieldSeen → BindSeen
  bind_node b = record {
    names = binders b.pat;
    look = λ recursive env js. value_look recursive b.pat b.params b.result b.body env (bind_head recursive b.pat b.params b.body.shape js);
  }

  abbrev pub bind_names : List BindSeen → List Binder
  bind_names bs = each (map (λ b. b.names) bs) []

  abbrev pub values_look : Bool → Env → List BindSeen → Journal → Journal
  values_look recursive env bs js = each (map (λ b. b.look recursive env) bs) js

  -- the bindings of one `let`, whose names are those of items where `top`; the values of a recursive one see the names
  abbrev pub group_look : Bool → Bool → List BindSeen → Env → Journal → Journal
  group_look top recursive bs env js = if recursive then values_look true (bound k top (bind_names bs) env) bs (twice k [] (bind_names bs) js) else values_look false env bs (twice k [] (bind_names bs) js)

  abbrev pub arm_node : Arm-F KindSeen (Env → Journal → Journal) BindSeen Seen FieldSeen → Env → Journal → Journal
  arm_node a env js =
      let inner : Env = bound k false (binders a.pat []) env in
      a.body.look inner (perhaps (option_map (λ g. g.look inner) a.guard) (twice k [] (binders a.pat []) ((pattern_seen k a.pat).look js)))

  abbrev pub step : ExprKind-F KindSeen (Env → Journal → Journal) BindSeen Seen FieldSeen → KindSeen
  step (e.Int n) = no_use
  step (e.Char n) = no_use
  step (e.Text t) = no_use
  step (e.Name name) = record { shape = Other; look = λ id span env js. value_named k env id name js }
  step (e.Path module_name name) = record { shape = Other; look = λ id span env js. path_named id span module_name name js }
  step (e.Con name arg) = record { shape = Other; look = λ id span env js. perhaps (option_map (λ x. x.look env) arg) (constructor_named k id span name (option_map (λ x. x.shape) arg) js) }
  step (e.Cons a b) = record { shape = Other; look = λ id span env js. b.look env (a.look env js) }
  step (e.Tuple xs) = record { shape = Tuple (length xs); look = λ id span env js. each (map (λ x. x.look env) xs) js }
  step (e.List xs) = record { shape = Other; look = λ id span env js. each (map (λ x. x.look env) xs) js }
  step (e.Fields fs) = record { shape = Other; look = λ id span env js. each (map (λ f. f.look env) fs) (record_named k id span true (map (λ f. f.name) fs) js) }
  step (e.Field a name) = record { shape = Other; look = λ id span env js. a.look env (field_named k id name js) }
  step (e.Index a b) = record { shape = Other; look = λ id span env js. b.look env (a.look env js) }
  step (e.Apply f xs) = record { shape = Other; look = λ id span env js. each (map (λ x. x.look env) xs) (f.look env js) }
  step (e.Binary op a b) = record { shape = Other; look = λ id span env js. b.look env (a.look env js) }
  step (e.Minus a) = record { shape = Other; look = λ id span env js. a.look env js }
  step (e.If a b c) = record { shape = Other; look = λ id span env js. perhaps (option_map (λ x. x.look env) c) (b.look env (a.look env js)) }
  step (e.Let recursive bs body) = record { shape = Other; look = λ id span env js. body.look (bound k false (bind_names bs) env) (group_look false recursive bs env (offence_where (recursive && nat_lt 1 (length bs)) LeftOut span js)) }
  step (e.Seq xs) = record { shape = Other; look = λ id span env js. each (map (λ x. x.look env) xs) js }
  step (e.Match a arms) = record { shape = Other; look = λ id span env js. each (map (λ arm. arm env) arms) (a.look env js) }
  step (e.Fun params body) = record { shape = Function; look = λ id span env js. function_look id params None body.look env js }
  step (e.Function arms) = record { shape = Function; look = λ id span env js. add (each (map (λ arm. arm env) arms) (add js (Opens id))) Closes }
  step (e.Paren a) = record { shape = inside a.shape; look = λ id span env js. a.look env js }
  step (e.Typed a ty) = record { shape = Other; look = λ id span env js. type_look k ty (a.look env js) }
  step (e.Worded words a) = record { shape = Other; look = λ id span env js. a.look env js }
  step (e.Exclave a) = record { shape = Other; look = λ id span env js. a.look env js }
  step (e.Borrow name of body) = record { shape = Other; look = λ id span env js. body.look (bound k false (record { name = name; node = id } ∷ []) env) (value_named k env id of js) }
  step (e.Overwrite name a) = record { shape = Other; look = λ id span env js. a.look env (value_named k env id name js) }

  abbrev pub expr_node : Expr-F KindSeen (Env → Journal → Journal) BindSeen Seen FieldSeen → Seen
  expr_node x = record { shape = x.kind.shape; look = λ env js. x.kind.look x.id x.span env js }

  abbrev pub field_node : FieldExpr-F KindSeen (Env → Journal → Journal) BindSeen Seen FieldSeen → FieldSeen
  field_node f = record { name = f.name; look = λ env js. f.expr.look env (field_named k f.id f.name js) }

  abbrev pub expr_seen : Expr → Seen
  expr_seen x = fold-Expr KindSeen (Env → Journal → Journal) BindSeen Seen FieldSeen step arm_node bind_node expr_node field_node x

  abbrev pub kind_seen : ExprKind → KindSeen
  kind_seen x = fold-ExprKind KindSeen (Env → Journal → Journal) BindSeen Seen FieldSeen step arm_node bind_node expr_node field_node x

  abbrev pub arm_look : Arm → Env → Journal → Journal
  arm_look x = fold-Arm KindSeen (Env → Journal → Journal) BindSeen Seen FieldSeen step arm_node bind_node expr_node field_node x

  abbrev pub bind_seen : Bind → BindSeen
  bind_seen x = fold-Bind KindSeen (Env → Journal → Journal) BindSeen Seen FieldSeen step arm_node bind_node expr_node field_node x

  abbrev pub field_seen : FieldExpr → FieldSeen
  field_seen x = fold-FieldExpr KindSeen (Env → Journal → Journal) BindSeen Seen FieldSeen step arm_node bind_node expr_node field_node x
