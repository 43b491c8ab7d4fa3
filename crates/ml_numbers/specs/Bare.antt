-- A tree without its numbers: each is 0.
use Rattle.std.specs.Prelude.{List, map}
use Rattle.std.specs.Option.{option_map}
use Rattle.ml_tree.specs.declared.types.TyExpr.{TyExpr, fold-TyExpr, roll-TyExpr}
use Rattle.ml_tree.specs.declared.types.TyKind.{TyKind, fold-TyKind, roll-TyKind}
use Rattle.ml_tree.specs.declared.types.TyKind.TheOpen.{TyKind-F, Arg-F, TyExpr-F}
use Rattle.ml_tree.specs.declared.types.Arg.{Arg, fold-Arg, roll-Arg}
use Rattle.ml_tree.specs.declared.types.ConDecl.{ConDecl}
use Rattle.ml_tree.specs.declared.types.FieldDecl.{FieldDecl}
use Rattle.ml_tree.specs.declared.types.Decl.{Decl}
use Rattle.ml_tree.specs.declared.types.DeclBody.{DeclBody}
use Rattle.ml_tree.specs.declared.types.DeclBody.TheVariants as B
use Rattle.ml_tree.specs.declared.pattern.Pat.{Pat, fold-Pat, roll-Pat}
use Rattle.ml_tree.specs.declared.pattern.FieldPat.{FieldPat, fold-FieldPat, roll-FieldPat}
use Rattle.ml_tree.specs.declared.pattern.Param.{Param}
use Rattle.ml_tree.specs.declared.pattern.PatKind.{PatKind, fold-PatKind, roll-PatKind}
use Rattle.ml_tree.specs.declared.pattern.PatKind.TheVariants as P
use Rattle.ml_tree.specs.declared.pattern.PatKind.TheOpen as p
use Rattle.ml_tree.specs.declared.pattern.PatKind.TheOpen.{PatKind-F, FieldPat-F, Pat-F}
use Rattle.ml_tree.specs.declared.expr.Expr.{Expr, fold-Expr, roll-Expr}
use Rattle.ml_tree.specs.declared.expr.Arm.{Arm, fold-Arm, roll-Arm}
use Rattle.ml_tree.specs.declared.expr.Bind.{Bind, fold-Bind, roll-Bind}
use Rattle.ml_tree.specs.declared.expr.FieldExpr.{FieldExpr, fold-FieldExpr, roll-FieldExpr}
use Rattle.ml_tree.specs.declared.expr.ExprKind.{ExprKind, fold-ExprKind, roll-ExprKind}
use Rattle.ml_tree.specs.declared.expr.ExprKind.TheVariants as E
use Rattle.ml_tree.specs.declared.expr.ExprKind.TheOpen as e
use Rattle.ml_tree.specs.declared.expr.ExprKind.TheOpen.{ExprKind-F, Arm-F, Bind-F, Expr-F, FieldExpr-F}
use Rattle.ml_tree.specs.declared.program.Item.{Item}
use Rattle.ml_tree.specs.declared.program.ItemKind.{ItemKind}
use Rattle.ml_tree.specs.declared.program.ItemKind.TheVariants as I

abbrev pub type_step : TyKind-F TyKind Arg TyExpr → TyKind
type_step l = roll-TyKind l

abbrev pub arg_step : Arg-F TyKind Arg TyExpr → Arg
arg_step l = roll-Arg l

abbrev pub type_node : TyExpr-F TyKind Arg TyExpr → TyExpr
type_node l = roll-TyExpr (record { id = 0; span = l.span; kind = l.kind })

abbrev pub bare_type : TyExpr → TyExpr
bare_type ty = fold-TyExpr TyKind Arg TyExpr type_step arg_step type_node ty

abbrev pub bare_type_kind : TyKind → TyKind
bare_type_kind k = fold-TyKind TyKind Arg TyExpr type_step arg_step type_node k

abbrev pub bare_arg : Arg → Arg
bare_arg a = fold-Arg TyKind Arg TyExpr type_step arg_step type_node a

abbrev pub bare_con : ConDecl → ConDecl
bare_con c = record { name = c.name; args = map bare_arg c.args }

abbrev pub bare_field_decl : FieldDecl → FieldDecl
bare_field_decl f = record { name = f.name; arg = bare_arg f.arg }

abbrev pub bare_body : DeclBody → DeclBody
bare_body (B.Variant cons) = B.Variant (map bare_con cons)
bare_body (B.Fields fields) = B.Fields (map bare_field_decl fields)
bare_body (B.Alias ty) = B.Alias (bare_type ty)

abbrev pub bare_decl : Decl → Decl
bare_decl d = record { name = d.name; vars = d.vars; body = bare_body d.body }

abbrev pub pattern_step : PatKind-F PatKind FieldPat Pat → PatKind
pattern_step (p.Typed q ty) = P.Typed q (bare_type ty)
pattern_step l = roll-PatKind l

abbrev pub field_pattern_node : FieldPat-F PatKind FieldPat Pat → FieldPat
field_pattern_node l = roll-FieldPat (record { id = 0; name = l.name; pat = l.pat })

abbrev pub pattern_node : Pat-F PatKind FieldPat Pat → Pat
pattern_node l = roll-Pat (record { id = 0; span = l.span; kind = l.kind })

abbrev pub bare_pattern : Pat → Pat
bare_pattern q = fold-Pat PatKind FieldPat Pat pattern_step field_pattern_node pattern_node q

abbrev pub bare_pattern_kind : PatKind → PatKind
bare_pattern_kind k = fold-PatKind PatKind FieldPat Pat pattern_step field_pattern_node pattern_node k

abbrev pub bare_field_pattern : FieldPat → FieldPat
bare_field_pattern f = fold-FieldPat PatKind FieldPat Pat pattern_step field_pattern_node pattern_node f

abbrev pub bare_param : Param → Param
bare_param q = record { words = q.words; pat = bare_pattern q.pat }

abbrev pub step : ExprKind-F ExprKind Arm Bind Expr FieldExpr → ExprKind
step (e.Fun params body) = E.Fun (map bare_param params) body
step (e.Typed a ty) = E.Typed a (bare_type ty)
step l = roll-ExprKind l

abbrev pub arm_step : Arm-F ExprKind Arm Bind Expr FieldExpr → Arm
arm_step l = roll-Arm (record { pat = bare_pattern l.pat; guard = l.guard; body = l.body })

abbrev pub bind_step : Bind-F ExprKind Arm Bind Expr FieldExpr → Bind
bind_step l = roll-Bind (record { pat = bare_pattern l.pat; params = map bare_param l.params; result = option_map bare_type l.result; body = l.body })

abbrev pub expr_node : Expr-F ExprKind Arm Bind Expr FieldExpr → Expr
expr_node l = roll-Expr (record { id = 0; span = l.span; kind = l.kind })

abbrev pub field_node : FieldExpr-F ExprKind Arm Bind Expr FieldExpr → FieldExpr
field_node l = roll-FieldExpr (record { id = 0; name = l.name; expr = l.expr })

abbrev pub bare_expr : Expr → Expr
bare_expr x = fold-Expr ExprKind Arm Bind Expr FieldExpr step arm_step bind_step expr_node field_node x

abbrev pub bare_kind : ExprKind → ExprKind
bare_kind k = fold-ExprKind ExprKind Arm Bind Expr FieldExpr step arm_step bind_step expr_node field_node k

abbrev pub bare_arm : Arm → Arm
bare_arm a = fold-Arm ExprKind Arm Bind Expr FieldExpr step arm_step bind_step expr_node field_node a

abbrev pub bare_bind : Bind → Bind
bare_bind b = fold-Bind ExprKind Arm Bind Expr FieldExpr step arm_step bind_step expr_node field_node b

abbrev pub bare_field : FieldExpr → FieldExpr
bare_field f = fold-FieldExpr ExprKind Arm Bind Expr FieldExpr step arm_step bind_step expr_node field_node f

abbrev pub bare_item_kind : ItemKind → ItemKind
bare_item_kind (I.Types decls) = I.Types (map bare_decl decls)
bare_item_kind (I.Let recursive binds) = I.Let recursive (map bare_bind binds)

abbrev pub bare_item : Item → Item
bare_item i = record { id = 0; span = i.span; kind = bare_item_kind i.kind }

-- the items without their numbers
abbrev pub bare : List Item → List Item
bare items = map bare_item items
