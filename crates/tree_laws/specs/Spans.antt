-- Where the spans of a tree lie: each node and each type expression among the tokens of what it is a part of.
use Rattle.std.specs.Prelude.{◌≡◌, ℕ, ◌-◌, ◌≤◌, ◌<◌, List, [], ◌∷◌, ◌++◌, map, drop, length, Option, Some, None}
use Rattle.std.specs.List.{All}
use Rattle.oxml_base.specs.declared.span.Span.{Span}
use Rattle.ml_lexer.specs.declared.token.Token.{Token}
use Rattle.ml_cursor.specs.Places.{first_span}
use Rattle.ml_tree.specs.declared.types.TyExpr.{TyExpr, fold-TyExpr}
use Rattle.ml_tree.specs.declared.types.TyKind.{TyKind, fold-TyKind}
use Rattle.ml_tree.specs.declared.types.TyKind.TheOpen as t
use Rattle.ml_tree.specs.declared.types.TyKind.TheOpen.{TyKind-F, Arg-F, TyExpr-F}
use Rattle.ml_tree.specs.declared.types.Arg.{Arg, fold-Arg}
use Rattle.ml_tree.specs.declared.types.ConDecl.{ConDecl}
use Rattle.ml_tree.specs.declared.types.FieldDecl.{FieldDecl}
use Rattle.ml_tree.specs.declared.types.Decl.{Decl}
use Rattle.ml_tree.specs.declared.types.DeclBody.{DeclBody}
use Rattle.ml_tree.specs.declared.types.DeclBody.TheVariants as B
use Rattle.ml_tree.specs.declared.pattern.Pat.{Pat, fold-Pat}
use Rattle.ml_tree.specs.declared.pattern.FieldPat.{FieldPat, fold-FieldPat}
use Rattle.ml_tree.specs.declared.pattern.Param.{Param}
use Rattle.ml_tree.specs.declared.pattern.PatKind.{PatKind, fold-PatKind}
use Rattle.ml_tree.specs.declared.pattern.PatKind.TheOpen as p
use Rattle.ml_tree.specs.declared.pattern.PatKind.TheOpen.{PatKind-F, FieldPat-F, Pat-F}
use Rattle.ml_tree.specs.declared.expr.Expr.{Expr, out-Expr, fold-Expr}
use Rattle.ml_tree.specs.declared.expr.Arm.{Arm, fold-Arm}
use Rattle.ml_tree.specs.declared.expr.Bind.{Bind, fold-Bind}
use Rattle.ml_tree.specs.declared.expr.FieldExpr.{FieldExpr, fold-FieldExpr}
use Rattle.ml_tree.specs.declared.expr.ExprKind.{ExprKind, fold-ExprKind}
use Rattle.ml_tree.specs.declared.expr.ExprKind.TheOpen as e
use Rattle.ml_tree.specs.declared.expr.ExprKind.TheOpen.{ExprKind-F, Arm-F, Bind-F, Expr-F, FieldExpr-F}
use Rattle.ml_tree.specs.declared.program.Item.{Item}
use Rattle.ml_tree.specs.declared.program.ItemKind.{ItemKind}
use Rattle.ml_tree.specs.declared.program.ItemKind.TheVariants as I

-- the span of a node or of a type expression, and that of the one that it is a part of; a field of a
-- record has its name's
pub record Edge : Type 0 where
  pub outer : Span
  pub inner : Span

-- the edges of what is a part of a node of a given span
abbrev pub Edges : Type 0
Edges = Span → List Edge

abbrev pub none : Edges
none s = []

abbrev pub both : Edges → Edges → Edges
both a b s = a s ++ b s

abbrev pub all : List Edges → Edges
all [] = none
all (a ∷ rest) = both a (all rest)

abbrev pub maybe : Option Edges → Edges
maybe None = none
maybe (Some a) = a

-- a node, and its own parts
abbrev pub node : Span → Edges → Edges
node span parts s = record { outer = s; inner = span } ∷ parts span

abbrev pub type_step : TyKind-F Edges Edges Edges → Edges
type_step (t.Var name) = none
type_step (t.Con name args) = all args
type_step (t.Tuple parts) = all parts
type_step (t.Arrow from to) = both from to

abbrev pub arg_step : Arg-F Edges Edges Edges → Edges
arg_step a = a.ty

abbrev pub type_node : TyExpr-F Edges Edges Edges → Edges
type_node ty = node ty.span ty.kind

abbrev pub type_edges : TyExpr → Edges
type_edges ty = fold-TyExpr Edges Edges Edges type_step arg_step type_node ty

abbrev pub type_kind_edges : TyKind → Edges
type_kind_edges kind = fold-TyKind Edges Edges Edges type_step arg_step type_node kind

abbrev pub arg_edges : Arg → Edges
arg_edges a = fold-Arg Edges Edges Edges type_step arg_step type_node a

abbrev pub con_edges : ConDecl → Edges
con_edges c = all (map arg_edges c.args)

abbrev pub field_decl_edges : FieldDecl → Edges
field_decl_edges f = arg_edges f.arg

abbrev pub body_edges : DeclBody → Edges
body_edges (B.Variant cons) = all (map con_edges cons)
body_edges (B.Fields fields) = all (map field_decl_edges fields)
body_edges (B.Alias ty) = type_edges ty

abbrev pub decl_edges : Decl → Edges
decl_edges d = body_edges d.body

abbrev pub result_edges : Option TyExpr → Edges
result_edges None = none
result_edges (Some ty) = type_edges ty

abbrev pub pattern_step : PatKind-F Edges Edges Edges → Edges
pattern_step (p.Con name arg) = maybe arg
pattern_step (p.Cons a b) = both a b
pattern_step (p.Tuple ps) = all ps
pattern_step (p.List ps) = all ps
pattern_step (p.Fields ps rest) = all ps
pattern_step (p.Or a b) = both a b
pattern_step (p.Named q name) = q
pattern_step (p.Typed q ty) = both q (type_edges ty)
pattern_step (p.Paren q) = q
pattern_step _ = none

abbrev pub field_pattern_node : FieldPat-F Edges Edges Edges → Edges
field_pattern_node f = both (node f.name none) f.pat

abbrev pub pattern_node : Pat-F Edges Edges Edges → Edges
pattern_node q = node q.span q.kind

abbrev pub pattern_edges : Pat → Edges
pattern_edges q = fold-Pat Edges Edges Edges pattern_step field_pattern_node pattern_node q

abbrev pub pattern_kind_edges : PatKind → Edges
pattern_kind_edges k = fold-PatKind Edges Edges Edges pattern_step field_pattern_node pattern_node k

abbrev pub field_pattern_edges : FieldPat → Edges
field_pattern_edges f = fold-FieldPat Edges Edges Edges pattern_step field_pattern_node pattern_node f

abbrev pub param_edges : Param → Edges
param_edges q = pattern_edges q.pat

abbrev pub step : ExprKind-F Edges Edges Edges Edges Edges → Edges
step (e.Con name arg) = maybe arg
step (e.Cons a b) = both a b
step (e.Tuple es) = all es
step (e.List es) = all es
step (e.Fields fs) = all fs
step (e.Field a name) = a
step (e.Index a b) = both a b
step (e.Apply f es) = both f (all es)
step (e.Binary op a b) = both a b
step (e.Minus a) = a
step (e.If a b c) = both a (both b (maybe c))
step (e.Let recursive binds body) = both (all binds) body
step (e.Seq es) = all es
step (e.Match a arms) = both a (all arms)
step (e.Fun params body) = both (all (map param_edges params)) body
step (e.Function arms) = all arms
step (e.Paren a) = a
step (e.Typed a ty) = both a (type_edges ty)
step (e.Worded words a) = a
step (e.Exclave a) = a
step (e.Borrow name of body) = body
step (e.Overwrite name a) = a
step _ = none

abbrev pub arm_step : Arm-F Edges Edges Edges Edges Edges → Edges
arm_step a = both (pattern_edges a.pat) (both (maybe a.guard) a.body)

abbrev pub bind_step : Bind-F Edges Edges Edges Edges Edges → Edges
bind_step b = both (pattern_edges b.pat) (both (all (map param_edges b.params)) (both (result_edges b.result) b.body))

abbrev pub expr_step : Expr-F Edges Edges Edges Edges Edges → Edges
expr_step x = node x.span x.kind

abbrev pub field_step : FieldExpr-F Edges Edges Edges Edges Edges → Edges
field_step f = both (node f.name none) f.expr

abbrev pub expr_edges : Expr → Edges
expr_edges x = fold-Expr Edges Edges Edges Edges Edges step arm_step bind_step expr_step field_step x

abbrev pub kind_edges : ExprKind → Edges
kind_edges k = fold-ExprKind Edges Edges Edges Edges Edges step arm_step bind_step expr_step field_step k

abbrev pub arm_edges : Arm → Edges
arm_edges a = fold-Arm Edges Edges Edges Edges Edges step arm_step bind_step expr_step field_step a

abbrev pub bind_edges : Bind → Edges
bind_edges b = fold-Bind Edges Edges Edges Edges Edges step arm_step bind_step expr_step field_step b

abbrev pub field_edges : FieldExpr → Edges
field_edges f = fold-FieldExpr Edges Edges Edges Edges Edges step arm_step bind_step expr_step field_step f

abbrev pub item_kind_edges : ItemKind → Edges
item_kind_edges (I.Types decls) = all (map decl_edges decls)
item_kind_edges (I.Let recursive binds) = all (map bind_edges binds)

-- the edges of a whole expression and of an item; the first edge is that of the root to itself
abbrev pub root_edges : Expr → List Edge
root_edges x = expr_edges x (out-Expr x).span

abbrev pub item_edges : Item → List Edge
item_edges i = node i.span (item_kind_edges i.kind) i.span

-- from the start of one token of a list to the end of another, by their places
pub record Spans (tokens : List Token) (first last : ℕ) (s : Span) : Type 0 where
  pub starts : s.start ≡ (first_span (drop first tokens)).start
  pub ends : s.end ≡ (first_span (drop last tokens)).end

-- both spans are those of ranges of the first so many tokens, the inner range within the outer one
pub record Nests (tokens : List Token) (count : ℕ) (edge : Edge) : Type 0 where
  pub from : ℕ
  pub first : ℕ
  pub last : ℕ
  pub to : ℕ
  pub outer_is : Spans tokens from to edge.outer
  pub inner_is : Spans tokens first last edge.inner
  pub starts_later : from ≤ first
  pub goes_up : first ≤ last
  pub ends_sooner : last ≤ to
  pub inside : to < count

-- the items of these edges stand one behind another from a place of the tokens on, each with its spans
-- among its own tokens
pub data Stand (tokens : List Token) : ℕ → List (List Edge) → Type 0 where
  no_item : {from : ℕ} → Stand tokens from []
  one_item : {from first next : ℕ} {edges : List Edge} {others : List (List Edge)} →
      from ≤ first → first < next → next ≤ length tokens → All (Nests (drop first tokens) (next - first)) edges →
      Stand tokens next others → Stand tokens from (edges ∷ others)

-- the inner span lies within the outer one
pub record Within (edge : Edge) : Type 0 where
  pub starts : edge.outer.start ≤ edge.inner.start
  pub goes_up : edge.inner.start ≤ edge.inner.end
  pub ends : edge.inner.end ≤ edge.outer.end
