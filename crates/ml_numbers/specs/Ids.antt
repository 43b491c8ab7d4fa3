-- The numbers that stand in a tree, in the order of the source: those of its nodes, and those of its
-- type expressions.
use Rattle.std.specs.Prelude.{◌≡◌, ℕ, List, [], ◌∷◌, ◌++◌, map, Option, Some, None}
use Rattle.std.specs.List.{range_with_len}
use Rattle.ml_tree.specs.declared.types.TyExpr.{TyExpr, fold-TyExpr}
use Rattle.ml_tree.specs.declared.types.TyKind.{TyKind, fold-TyKind}
use Rattle.ml_tree.specs.declared.types.TyKind.TheOpen as t
use Rattle.ml_tree.specs.declared.types.TyKind.TheOpen.{TyKind-F, Arg-F, TyExpr-F}
use Rattle.ml_tree.specs.declared.types.Arg.{Arg, fold-Arg}
use Rattle.ml_tree.specs.declared.types.ConDecl.{ConDecl}
use Rattle.ml_tree.specs.declared.types.FieldDecl.{FieldDecl}
use Rattle.ml_tree.specs.declared.types.Decl.{Decl}
use Rattle.ml_tree.specs.declared.types.DeclBody.{DeclBody}
use Rattle.ml_tree.specs.declared.types.DeclBody.TheVariants as B
use Rattle.ml_tree.specs.declared.pattern.Pat.{Pat, fold-Pat}
use Rattle.ml_tree.specs.declared.pattern.FieldPat.{FieldPat, fold-FieldPat}
use Rattle.ml_tree.specs.declared.pattern.Param.{Param}
use Rattle.ml_tree.specs.declared.pattern.PatKind.{PatKind, fold-PatKind}
use Rattle.ml_tree.specs.declared.pattern.PatKind.TheOpen as p
use Rattle.ml_tree.specs.declared.pattern.PatKind.TheOpen.{PatKind-F, FieldPat-F, Pat-F}
use Rattle.ml_tree.specs.declared.expr.Expr.{Expr, fold-Expr}
use Rattle.ml_tree.specs.declared.expr.Arm.{Arm, fold-Arm}
use Rattle.ml_tree.specs.declared.expr.Bind.{Bind, fold-Bind}
use Rattle.ml_tree.specs.declared.expr.FieldExpr.{FieldExpr, fold-FieldExpr}
use Rattle.ml_tree.specs.declared.expr.ExprKind.{ExprKind, fold-ExprKind}
use Rattle.ml_tree.specs.declared.expr.ExprKind.TheOpen as e
use Rattle.ml_tree.specs.declared.expr.ExprKind.TheOpen.{ExprKind-F, Arm-F, Bind-F, Expr-F, FieldExpr-F}
use Rattle.ml_tree.specs.declared.program.Program.{Program}
use Rattle.ml_tree.specs.declared.program.Item.{Item}
use Rattle.ml_tree.specs.declared.program.ItemKind.{ItemKind}
use Rattle.ml_tree.specs.declared.program.ItemKind.TheVariants as I

pub record Ids : Type 0 where
  pub nodes : List ℕ
  pub types : List ℕ

abbrev pub no_ids : Ids
no_ids = record { nodes = []; types = [] }

abbrev pub node_id : ℕ → Ids
node_id id = record { nodes = id ∷ []; types = [] }

abbrev pub type_id : ℕ → Ids
type_id id = record { nodes = []; types = id ∷ [] }

abbrev pub joined : Ids → Ids → Ids
joined i j = record { nodes = i.nodes ++ j.nodes; types = i.types ++ j.types }

abbrev pub all : List Ids → Ids
all [] = no_ids
all (i ∷ is) = joined i (all is)

abbrev pub maybe : Option Ids → Ids
maybe None = no_ids
maybe (Some i) = i

abbrev pub type_step : TyKind-F Ids Ids Ids → Ids
type_step (t.Var span) = no_ids
type_step (t.Con name args) = all args
type_step (t.Tuple parts) = all parts
type_step (t.Arrow from to) = joined from to

abbrev pub arg_step : Arg-F Ids Ids Ids → Ids
arg_step a = a.ty

abbrev pub type_node : TyExpr-F Ids Ids Ids → Ids
type_node ty = joined (type_id ty.id) ty.kind

abbrev pub type_ids : TyExpr → Ids
type_ids ty = fold-TyExpr Ids Ids Ids type_step arg_step type_node ty

abbrev pub type_kind_ids : TyKind → Ids
type_kind_ids kind = fold-TyKind Ids Ids Ids type_step arg_step type_node kind

abbrev pub arg_ids : Arg → Ids
arg_ids a = fold-Arg Ids Ids Ids type_step arg_step type_node a

abbrev pub con_ids : ConDecl → Ids
con_ids c = all (map arg_ids c.args)

abbrev pub field_decl_ids : FieldDecl → Ids
field_decl_ids f = arg_ids f.arg

abbrev pub body_ids : DeclBody → Ids
body_ids (B.Variant cons) = all (map con_ids cons)
body_ids (B.Fields fields) = all (map field_decl_ids fields)
body_ids (B.Alias ty) = type_ids ty

abbrev pub decl_ids : Decl → Ids
decl_ids d = body_ids d.body

abbrev pub pattern_step : PatKind-F Ids Ids Ids → Ids
pattern_step (p.Con name arg) = maybe arg
pattern_step (p.Cons a b) = joined a b
pattern_step (p.Tuple ps) = all ps
pattern_step (p.List ps) = all ps
pattern_step (p.Fields ps rest) = all ps
pattern_step (p.Or a b) = joined a b
pattern_step (p.Named q name) = q
pattern_step (p.Typed q ty) = joined q (type_ids ty)
pattern_step (p.Paren q) = q
pattern_step _ = no_ids

abbrev pub field_pattern_node : FieldPat-F Ids Ids Ids → Ids
field_pattern_node f = joined (node_id f.id) f.pat

abbrev pub pattern_node : Pat-F Ids Ids Ids → Ids
pattern_node q = joined (node_id q.id) q.kind

abbrev pub pattern_ids : Pat → Ids
pattern_ids q = fold-Pat Ids Ids Ids pattern_step field_pattern_node pattern_node q

abbrev pub pattern_kind_ids : PatKind → Ids
pattern_kind_ids k = fold-PatKind Ids Ids Ids pattern_step field_pattern_node pattern_node k

abbrev pub field_pattern_ids : FieldPat → Ids
field_pattern_ids f = fold-FieldPat Ids Ids Ids pattern_step field_pattern_node pattern_node f

abbrev pub param_ids : Param → Ids
param_ids q = pattern_ids q.pat

abbrev pub result_ids : Option TyExpr → Ids
result_ids None = no_ids
result_ids (Some ty) = type_ids ty

abbrev pub step : ExprKind-F Ids Ids Ids Ids Ids → Ids
step (e.Con name arg) = maybe arg
step (e.Cons a b) = joined a b
step (e.Tuple es) = all es
step (e.List es) = all es
step (e.Fields fs) = all fs
step (e.Field a name) = a
step (e.Index a b) = joined a b
step (e.Apply f es) = joined f (all es)
step (e.Binary op a b) = joined a b
step (e.Minus a) = a
step (e.If a b c) = joined a (joined b (maybe c))
step (e.Let recursive binds body) = joined (all binds) body
step (e.Seq es) = all es
step (e.Match a arms) = joined a (all arms)
step (e.Fun params body) = joined (all (map param_ids params)) body
step (e.Function arms) = all arms
step (e.Paren a) = a
step (e.Typed a ty) = joined a (type_ids ty)
step (e.Worded words a) = a
step (e.Exclave a) = a
step (e.Borrow name of body) = body
step (e.Overwrite name a) = a
step _ = no_ids

abbrev pub arm_step : Arm-F Ids Ids Ids Ids Ids → Ids
arm_step a = joined (pattern_ids a.pat) (joined (maybe a.guard) a.body)

abbrev pub bind_step : Bind-F Ids Ids Ids Ids Ids → Ids
bind_step b = joined (pattern_ids b.pat) (joined (all (map param_ids b.params)) (joined (result_ids b.result) b.body))

abbrev pub expr_node : Expr-F Ids Ids Ids Ids Ids → Ids
expr_node x = joined (node_id x.id) x.kind

abbrev pub field_node : FieldExpr-F Ids Ids Ids Ids Ids → Ids
field_node f = joined (node_id f.id) f.expr

abbrev pub expr_ids : Expr → Ids
expr_ids x = fold-Expr Ids Ids Ids Ids Ids step arm_step bind_step expr_node field_node x

abbrev pub kind_ids : ExprKind → Ids
kind_ids k = fold-ExprKind Ids Ids Ids Ids Ids step arm_step bind_step expr_node field_node k

abbrev pub arm_ids : Arm → Ids
arm_ids a = fold-Arm Ids Ids Ids Ids Ids step arm_step bind_step expr_node field_node a

abbrev pub bind_ids : Bind → Ids
bind_ids b = fold-Bind Ids Ids Ids Ids Ids step arm_step bind_step expr_node field_node b

abbrev pub field_ids : FieldExpr → Ids
field_ids f = fold-FieldExpr Ids Ids Ids Ids Ids step arm_step bind_step expr_node field_node f

abbrev pub item_kind_ids : ItemKind → Ids
item_kind_ids (I.Types decls) = all (map decl_ids decls)
item_kind_ids (I.Let recursive binds) = all (map bind_ids binds)

abbrev pub item_ids : Item → Ids
item_ids i = joined (node_id i.id) (item_kind_ids i.kind)

abbrev pub program_ids : Program → Ids
program_ids p = all (map item_ids p.items)

-- the numbers are 0, 1, 2 .. in the order of the source, a node's before those of its parts: so they
-- are distinct, below the count, and a node's is below those of its parts
pub record IsNumbered (p : Program) : Type 0 where
  pub nodes : (program_ids p).nodes ≡ range_with_len 0 p.nodes
  pub types : (program_ids p).types ≡ range_with_len 0 p.types
