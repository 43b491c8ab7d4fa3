-- A program with its numbers: nodes and type expressions are numbered from 0 on in the order of the
-- source, each before its parts. All else stays as it is.
use Rattle.std.specs.Prelude.{List, map, Option}
use Rattle.std.specs.Option.{option_map}
use Rattle.ml_tree.specs.declared.types.TyExpr.{TyExpr, fold-TyExpr, roll-TyExpr}
use Rattle.ml_tree.specs.declared.types.TyKind.{TyKind, fold-TyKind}
use Rattle.ml_tree.specs.declared.types.TyKind.TheVariants as T
use Rattle.ml_tree.specs.declared.types.TyKind.TheOpen as t
use Rattle.ml_tree.specs.declared.types.TyKind.TheOpen.{TyKind-F, Arg-F, TyExpr-F}
use Rattle.ml_tree.specs.declared.types.Arg.{Arg, fold-Arg, roll-Arg}
use Rattle.ml_tree.specs.declared.types.ConDecl.{ConDecl}
use Rattle.ml_tree.specs.declared.types.FieldDecl.{FieldDecl}
use Rattle.ml_tree.specs.declared.types.Decl.{Decl}
use Rattle.ml_tree.specs.declared.types.DeclBody.{DeclBody}
use Rattle.ml_tree.specs.declared.types.DeclBody.TheVariants as B
use Rattle.ml_tree.specs.declared.pattern.Pat.{Pat, fold-Pat, roll-Pat}
use Rattle.ml_tree.specs.declared.pattern.FieldPat.{FieldPat, fold-FieldPat, roll-FieldPat}
use Rattle.ml_tree.specs.declared.pattern.Param.{Param}
use Rattle.ml_tree.specs.declared.pattern.PatKind.{PatKind, fold-PatKind}
use Rattle.ml_tree.specs.declared.pattern.PatKind.TheVariants as P
use Rattle.ml_tree.specs.declared.pattern.PatKind.TheOpen as p
use Rattle.ml_tree.specs.declared.pattern.PatKind.TheOpen.{PatKind-F, FieldPat-F, Pat-F}
use Rattle.ml_tree.specs.declared.expr.Expr.{Expr, fold-Expr, roll-Expr}
use Rattle.ml_tree.specs.declared.expr.Arm.{Arm, fold-Arm, roll-Arm}
use Rattle.ml_tree.specs.declared.expr.Bind.{Bind, fold-Bind, roll-Bind}
use Rattle.ml_tree.specs.declared.expr.FieldExpr.{FieldExpr, fold-FieldExpr, roll-FieldExpr}
use Rattle.ml_tree.specs.declared.expr.ExprKind.{ExprKind, fold-ExprKind}
use Rattle.ml_tree.specs.declared.expr.ExprKind.TheVariants as E
use Rattle.ml_tree.specs.declared.expr.ExprKind.TheOpen as e
use Rattle.ml_tree.specs.declared.expr.ExprKind.TheOpen.{ExprKind-F, Arm-F, Bind-F, Expr-F, FieldExpr-F}
use Rattle.ml_tree.specs.declared.program.Program.{Program}
use Rattle.ml_tree.specs.declared.program.Item.{Item}
use Rattle.ml_tree.specs.declared.program.ItemKind.{ItemKind}
use Rattle.ml_tree.specs.declared.program.ItemKind.TheVariants as I
use Rattle.ml_numbers.specs.declared.next.Next.{Next}
use Rattle.ml_numbers.specs.Steps.{Step, done, ◌>>=◌, node, of_type, one, two, three, each, perhaps}

abbrev pub type_step : TyKind-F (Step TyKind) (Step Arg) (Step TyExpr) → Step TyKind
type_step (t.Var span) = done (T.Var span)
type_step (t.Con name args) = one (each args) (T.Con name)
type_step (t.Tuple parts) = one (each parts) T.Tuple
type_step (t.Arrow from to) = two from to T.Arrow

abbrev pub arg_step : Arg-F (Step TyKind) (Step Arg) (Step TyExpr) → Step Arg
arg_step a = one a.ty (λ ty. roll-Arg (record { words = a.words; ty = ty }))

abbrev pub type_node : TyExpr-F (Step TyKind) (Step Arg) (Step TyExpr) → Step TyExpr
type_node ty = two of_type ty.kind (λ id kind. roll-TyExpr (record { id = id; span = ty.span; kind = kind }))

abbrev pub numbered_type : TyExpr → Step TyExpr
numbered_type ty = fold-TyExpr (Step TyKind) (Step Arg) (Step TyExpr) type_step arg_step type_node ty

abbrev pub numbered_type_kind : TyKind → Step TyKind
numbered_type_kind kind = fold-TyKind (Step TyKind) (Step Arg) (Step TyExpr) type_step arg_step type_node kind

abbrev pub numbered_arg : Arg → Step Arg
numbered_arg a = fold-Arg (Step TyKind) (Step Arg) (Step TyExpr) type_step arg_step type_node a

abbrev pub numbered_con : ConDecl → Step ConDecl
numbered_con c = one (each (map numbered_arg c.args)) (λ args. record { name = c.name; args = args })

abbrev pub numbered_field_decl : FieldDecl → Step FieldDecl
numbered_field_decl f = one (numbered_arg f.arg) (λ arg. record { name = f.name; arg = arg })

abbrev pub numbered_body : DeclBody → Step DeclBody
numbered_body (B.Variant cons) = one (each (map numbered_con cons)) B.Variant
numbered_body (B.Fields fields) = one (each (map numbered_field_decl fields)) B.Fields
numbered_body (B.Alias ty) = one (numbered_type ty) B.Alias

abbrev pub numbered_decl : Decl → Step Decl
numbered_decl d = one (numbered_body d.body) (λ body. record { name = d.name; vars = d.vars; body = body })

abbrev pub pattern_step : PatKind-F (Step PatKind) (Step FieldPat) (Step Pat) → Step PatKind
pattern_step p.Any = done P.Any
pattern_step (p.Name words span) = done (P.Name words span)
pattern_step (p.Int n) = done (P.Int n)
pattern_step (p.Char c) = done (P.Char c)
pattern_step (p.Text text) = done (P.Text text)
pattern_step (p.Con name arg) = one (perhaps arg) (P.Con name)
pattern_step (p.Cons a b) = two a b P.Cons
pattern_step (p.Tuple ps) = one (each ps) P.Tuple
pattern_step (p.List ps) = one (each ps) P.List
pattern_step (p.Fields ps rest) = one (each ps) (λ list. P.Fields list rest)
pattern_step (p.Or a b) = two a b P.Or
pattern_step (p.Named q name) = one q (λ inner. P.Named inner name)
pattern_step (p.Typed q ty) = two q (numbered_type ty) P.Typed
pattern_step (p.Paren q) = one q P.Paren

abbrev pub field_pattern_node : FieldPat-F (Step PatKind) (Step FieldPat) (Step Pat) → Step FieldPat
field_pattern_node f = two node f.pat (λ id pat. roll-FieldPat (record { id = id; name = f.name; pat = pat }))

abbrev pub pattern_node : Pat-F (Step PatKind) (Step FieldPat) (Step Pat) → Step Pat
pattern_node q = two node q.kind (λ id kind. roll-Pat (record { id = id; span = q.span; kind = kind }))

abbrev pub numbered_pattern : Pat → Step Pat
numbered_pattern q = fold-Pat (Step PatKind) (Step FieldPat) (Step Pat) pattern_step field_pattern_node pattern_node q

abbrev pub numbered_pattern_kind : PatKind → Step PatKind
numbered_pattern_kind k = fold-PatKind (Step PatKind) (Step FieldPat) (Step Pat) pattern_step field_pattern_node pattern_node k

abbrev pub numbered_field_pattern : FieldPat → Step FieldPat
numbered_field_pattern f = fold-FieldPat (Step PatKind) (Step FieldPat) (Step Pat) pattern_step field_pattern_node pattern_node f

abbrev pub numbered_param : Param → Step Param
numbered_param q = one (numbered_pattern q.pat) (λ pat. record { words = q.words; pat = pat })

abbrev pub numbered_params : List Param → Step (List Param)
numbered_params params = each (map numbered_param params)

abbrev pub numbered_result : Option TyExpr → Step (Option TyExpr)
numbered_result result = perhaps (option_map numbered_type result)

abbrev pub step : ExprKind-F (Step ExprKind) (Step Arm) (Step Bind) (Step Expr) (Step FieldExpr) → Step ExprKind
step (e.Int n) = done (E.Int n)
step (e.Char c) = done (E.Char c)
step (e.Text text) = done (E.Text text)
step (e.Name name) = done (E.Name name)
step (e.Path place name) = done (E.Path place name)
step (e.Con name arg) = one (perhaps arg) (E.Con name)
step (e.Cons a b) = two a b E.Cons
step (e.Tuple es) = one (each es) E.Tuple
step (e.List es) = one (each es) E.List
step (e.Fields fs) = one (each fs) E.Fields
step (e.Field a name) = one a (λ inner. E.Field inner name)
step (e.Index a b) = two a b E.Index
step (e.Apply f es) = two f (each es) E.Apply
step (e.Binary op a b) = two a b (E.Binary op)
step (e.Minus a) = one a E.Minus
step (e.If a b c) = three a b (perhaps c) E.If
step (e.Let recursive binds body) = two (each binds) body (E.Let recursive)
step (e.Seq es) = one (each es) E.Seq
step (e.Match a arms) = two a (each arms) E.Match
step (e.Fun params body) = two (numbered_params params) body E.Fun
step (e.Function arms) = one (each arms) E.Function
step (e.Paren a) = one a E.Paren
step (e.Typed a ty) = two a (numbered_type ty) E.Typed
step (e.Worded words a) = one a (E.Worded words)
step (e.Exclave a) = one a E.Exclave
step (e.Borrow name of body) = one body (E.Borrow name of)
step (e.Overwrite name a) = one a (E.Overwrite name)

abbrev pub arm_step : Arm-F (Step ExprKind) (Step Arm) (Step Bind) (Step Expr) (Step FieldExpr) → Step Arm
arm_step a = three (numbered_pattern a.pat) (perhaps a.guard) a.body (λ pat guard body. roll-Arm (record { pat = pat; guard = guard; body = body }))

abbrev pub bind_step : Bind-F (Step ExprKind) (Step Arm) (Step Bind) (Step Expr) (Step FieldExpr) → Step Bind
bind_step b =
    numbered_pattern b.pat >>= λ pat.
    three (numbered_params b.params) (numbered_result b.result) b.body (λ params result body. roll-Bind (record { pat = pat; params = params; result = result; body = body }))

abbrev pub expr_node : Expr-F (Step ExprKind) (Step Arm) (Step Bind) (Step Expr) (Step FieldExpr) → Step Expr
expr_node x = two node x.kind (λ id kind. roll-Expr (record { id = id; span = x.span; kind = kind }))

abbrev pub field_node : FieldExpr-F (Step ExprKind) (Step Arm) (Step Bind) (Step Expr) (Step FieldExpr) → Step FieldExpr
field_node f = two node f.expr (λ id expr. roll-FieldExpr (record { id = id; name = f.name; expr = expr }))

abbrev pub numbered_expr : Expr → Step Expr
numbered_expr x = fold-Expr (Step ExprKind) (Step Arm) (Step Bind) (Step Expr) (Step FieldExpr) step arm_step bind_step expr_node field_node x

abbrev pub numbered_kind : ExprKind → Step ExprKind
numbered_kind k = fold-ExprKind (Step ExprKind) (Step Arm) (Step Bind) (Step Expr) (Step FieldExpr) step arm_step bind_step expr_node field_node k

abbrev pub numbered_arm : Arm → Step Arm
numbered_arm a = fold-Arm (Step ExprKind) (Step Arm) (Step Bind) (Step Expr) (Step FieldExpr) step arm_step bind_step expr_node field_node a

abbrev pub numbered_bind : Bind → Step Bind
numbered_bind b = fold-Bind (Step ExprKind) (Step Arm) (Step Bind) (Step Expr) (Step FieldExpr) step arm_step bind_step expr_node field_node b

abbrev pub numbered_field : FieldExpr → Step FieldExpr
numbered_field f = fold-FieldExpr (Step ExprKind) (Step Arm) (Step Bind) (Step Expr) (Step FieldExpr) step arm_step bind_step expr_node field_node f

abbrev pub numbered_item_kind : ItemKind → Step ItemKind
numbered_item_kind (I.Types decls) = one (each (map numbered_decl decls)) I.Types
numbered_item_kind (I.Let recursive binds) = one (each (map numbered_bind binds)) (I.Let recursive)

abbrev pub numbered_item : Item → Step Item
numbered_item i = two node (numbered_item_kind i.kind) (λ id kind. record { id = id; span = i.span; kind = kind })

abbrev pub program : List Item × Next → Program
program r = record { items = r.0; nodes = r.1.nodes; types = r.1.types }

-- the program of these items, numbered
abbrev pub numbered : List Item → Program
numbered items = program (each (map numbered_item items) (record { nodes = 0; types = 0 }))
