-- The depth of each form, by those of its parts.
use Rattle.std.proofs.Common.{◌≡◌, ◌+◌, ℕ, Bool, List, ◌∷◌, Option, Some, None, sym, ap, ◌∙◌}
use Rattle.std.specs.Prelude.{max, map}
use Rattle.oxml_base.specs.declared.span.Span.{Span}
use Rattle.ml_lexer.specs.declared.token.Token.{Token}
use Rattle.ml_cursor.specs.Places.{span}
use Rattle.ml_tree.specs.declared.types.TyExpr.{TyExpr}
use Rattle.ml_tree.specs.declared.words.Words.{Words}
use Rattle.ml_tree.specs.declared.pattern.Pat.{Pat}
use Rattle.ml_tree.specs.declared.pattern.Param.{Param}
use Rattle.ml_tree.specs.declared.pattern.ConName.{ConName}
use Rattle.ml_tree.specs.declared.expr.Expr.{Expr, fold-roll-Expr}
use Rattle.ml_tree.specs.declared.expr.Arm.{Arm, fold-roll-Arm}
use Rattle.ml_tree.specs.declared.expr.Bind.{Bind, fold-roll-Bind}
use Rattle.ml_tree.specs.declared.expr.FieldExpr.{FieldExpr, fold-roll-FieldExpr}
use Rattle.ml_tree.specs.declared.expr.ExprKind.{ExprKind, fold-roll-ExprKind, map-ExprKind, roll-ExprKind}
use Rattle.ml_tree.specs.declared.expr.ExprKind.TheVariants as E
use Rattle.ml_tree.specs.declared.expr.ExprKind.TheOpen as e
use Rattle.ml_tree.specs.declared.expr.ExprKind.TheOpen.{ExprKind-F}
use Rattle.ml_tree.specs.Depth.{greatest, step, arm_step, bind_step, expr_node, field_step, expr_depth, kind_depth, arm_depth, bind_depth, field_depth, pattern_depth, param_depth}
use Rattle.ml_grammar.specs.declared.looks.Leaf.{Leaf}
use Rattle.ml_grammar.specs.declared.looks.Leaf.TheVariants as L
use Rattle.ml_grammar.specs.declared.looks.Joint.{Joint}
use Rattle.ml_grammar.specs.declared.looks.Joint.TheVariants as J
use Rattle.ml_grammar.specs.declared.looks.ListKind.{ListKind}
use Rattle.ml_grammar.specs.declared.looks.ListKind.TheVariants as Q
use Rattle.ml_grammar.specs.Trees.{node, arm, bind, field, leaf, leaf_kind, joined, gathered, pun}

-- a node, by the parts of its kind
node_at : (from to : ℕ) (l : ExprKind-F ExprKind Arm Bind Expr FieldExpr) (k : ExprKind) → roll-ExprKind l ≡ k → expr_depth (node from to k) ≡ step (map-ExprKind ExprKind Arm Bind Expr FieldExpr ℕ ℕ ℕ ℕ ℕ kind_depth arm_depth bind_depth expr_depth field_depth l) + 1
node_at from to l k q =
    fold-roll-Expr ℕ ℕ ℕ ℕ ℕ step arm_step bind_step expr_node field_step (record { id = 0; span = span from to; kind = k }) ∙
    ap (λ n. n + 1) (ap kind_depth (sym q) ∙ fold-roll-ExprKind ℕ ℕ ℕ ℕ ℕ step arm_step bind_step expr_node field_step l)

abbrev pub maybe_depth : Option Expr → ℕ
maybe_depth None = 0
maybe_depth (Some x) = expr_depth x

pub of_name : (from to : ℕ) (s : Span) → expr_depth (node from to (E.Name s)) ≡ 1
of_name from to s = node_at from to (e.Name s) (E.Name s) (E.rolls-Name s)

pub of_text : (from to : ℕ) (bytes : List ℕ) → expr_depth (node from to (E.Text (record { bytes = bytes }))) ≡ 1
of_text from to bytes = node_at from to (e.Text (record { bytes = bytes })) (E.Text (record { bytes = bytes })) (E.rolls-Text (record { bytes = bytes }))

of_constant : (from to : ℕ) (c : ConName) → expr_depth (node from to (E.Con c None)) ≡ 1
of_constant from to c = node_at from to (e.Con c None) (E.Con c None) (E.rolls-Con c None)

pub of_leaf : (l : Leaf) (ts : List Token) → expr_depth (leaf l ts) ≡ 1
of_leaf L.Int ts = node_at _ _ (e.Int _) (leaf_kind L.Int ts) (E.rolls-Int _)
of_leaf L.Char ts = node_at _ _ (e.Char _) (leaf_kind L.Char ts) (E.rolls-Char _)
of_leaf L.Name ts = node_at _ _ (e.Name _) (leaf_kind L.Name ts) (E.rolls-Name _)
of_leaf L.Path ts = node_at _ _ (e.Path _ _) (leaf_kind L.Path ts) (E.rolls-Path _ _)
of_leaf L.Upper ts = of_constant _ _ _
of_leaf L.True ts = of_constant _ _ _
of_leaf L.False ts = of_constant _ _ _
of_leaf L.Unit ts = of_constant _ _ _
of_leaf L.Nil ts = of_constant _ _ _

pub of_block : (from to : ℕ) (c : ConName) (a : Expr) → expr_depth (node from to (E.Con c (Some a))) ≡ expr_depth a + 1
of_block from to c a = node_at from to (e.Con c (Some a)) (E.Con c (Some a)) (E.rolls-Con c (Some a))

pub of_paren : (from to : ℕ) (a : Expr) → expr_depth (node from to (E.Paren a)) ≡ expr_depth a + 1
of_paren from to a = node_at from to (e.Paren a) (E.Paren a) (E.rolls-Paren a)

pub of_typed : (from to : ℕ) (a : Expr) (t : TyExpr) → expr_depth (node from to (E.Typed a t)) ≡ expr_depth a + 1
of_typed from to a t = node_at from to (e.Typed a t) (E.Typed a t) (E.rolls-Typed a t)

pub of_list : (from to : ℕ) (es : List Expr) → expr_depth (node from to (E.List es)) ≡ greatest (map expr_depth es) + 1
of_list from to es = node_at from to (e.List es) (E.List es) (E.rolls-List es)

pub of_fields : (from to : ℕ) (fs : List FieldExpr) → expr_depth (node from to (E.Fields fs)) ≡ greatest (map field_depth fs) + 1
of_fields from to fs = node_at from to (e.Fields fs) (E.Fields fs) (E.rolls-Fields fs)

pub of_access : (from to : ℕ) (a : Expr) (s : Span) → expr_depth (node from to (E.Field a s)) ≡ expr_depth a + 1
of_access from to a s = node_at from to (e.Field a s) (E.Field a s) (E.rolls-Field a s)

pub of_index : (from to : ℕ) (a b : Expr) → expr_depth (node from to (E.Index a b)) ≡ max (expr_depth a) (expr_depth b) + 1
of_index from to a b = node_at from to (e.Index a b) (E.Index a b) (E.rolls-Index a b)

pub of_gathered : (q : ListKind) (a : Expr) (es : List Expr) → expr_depth (gathered q a es) ≡ max (expr_depth a) (greatest (map expr_depth es)) + 1
of_gathered Q.Arguments a es = node_at _ _ (e.Apply a es) (E.Apply a es) (E.rolls-Apply a es)
of_gathered Q.Parts a es = node_at _ _ (e.Tuple (a ∷ es)) (E.Tuple (a ∷ es)) (E.rolls-Tuple (a ∷ es))
of_gathered Q.Statements a es = node_at _ _ (e.Seq (a ∷ es)) (E.Seq (a ∷ es)) (E.rolls-Seq (a ∷ es))
of_gathered Q.Elements a es = node_at _ _ (e.Seq (a ∷ es)) (E.Seq (a ∷ es)) (E.rolls-Seq (a ∷ es))

pub of_joined : (o : Joint) (a b : Expr) → expr_depth (joined o a b) ≡ max (expr_depth a) (expr_depth b) + 1
of_joined J.Pair a b = node_at _ _ (e.Cons a b) (E.Cons a b) (E.rolls-Cons a b)
of_joined (J.Binary op) a b = node_at _ _ (e.Binary op a b) (E.Binary op a b) (E.rolls-Binary op a b)

pub of_minus : (from to : ℕ) (a : Expr) → expr_depth (node from to (E.Minus a)) ≡ expr_depth a + 1
of_minus from to a = node_at from to (e.Minus a) (E.Minus a) (E.rolls-Minus a)

pub of_worded : (from to : ℕ) (w : Words) (a : Expr) → expr_depth (node from to (E.Worded w a)) ≡ expr_depth a + 1
of_worded from to w a = node_at from to (e.Worded w a) (E.Worded w a) (E.rolls-Worded w a)

pub of_overwrite : (from to : ℕ) (s : Span) (a : Expr) → expr_depth (node from to (E.Overwrite s a)) ≡ expr_depth a + 1
of_overwrite from to s a = node_at from to (e.Overwrite s a) (E.Overwrite s a) (E.rolls-Overwrite s a)

pub of_let : (from to : ℕ) (r : Bool) (bs : List Bind) (b : Expr) → expr_depth (node from to (E.Let r bs b)) ≡ max (greatest (map bind_depth bs)) (expr_depth b) + 1
of_let from to r bs b = node_at from to (e.Let r bs b) (E.Let r bs b) (E.rolls-Let r bs b)

pub of_borrow : (from to : ℕ) (y x : Span) (b : Expr) → expr_depth (node from to (E.Borrow y x b)) ≡ expr_depth b + 1
of_borrow from to y x b = node_at from to (e.Borrow y x b) (E.Borrow y x b) (E.rolls-Borrow y x b)

pub of_match : (from to : ℕ) (a : Expr) (cases : List Arm) → expr_depth (node from to (E.Match a cases)) ≡ max (expr_depth a) (greatest (map arm_depth cases)) + 1
of_match from to a cases = node_at from to (e.Match a cases) (E.Match a cases) (E.rolls-Match a cases)

pub of_function : (from to : ℕ) (cases : List Arm) → expr_depth (node from to (E.Function cases)) ≡ greatest (map arm_depth cases) + 1
of_function from to cases = node_at from to (e.Function cases) (E.Function cases) (E.rolls-Function cases)

pub of_fun : (from to : ℕ) (ps : List Param) (b : Expr) → expr_depth (node from to (E.Fun ps b)) ≡ max (greatest (map param_depth ps)) (expr_depth b) + 1
of_fun from to ps b = node_at from to (e.Fun ps b) (E.Fun ps b) (E.rolls-Fun ps b)

pub of_if : (from to : ℕ) (c a : Expr) (o : Option Expr) → expr_depth (node from to (E.If c a o)) ≡ max (max (expr_depth c) (expr_depth a)) (maybe_depth o) + 1
of_if from to c a None = node_at from to (e.If c a None) (E.If c a None) (E.rolls-If c a None)
of_if from to c a (Some b) = node_at from to (e.If c a (Some b)) (E.If c a (Some b)) (E.rolls-If c a (Some b))

pub of_exclave : (from to : ℕ) (b : Expr) → expr_depth (node from to (E.Exclave b)) ≡ expr_depth b + 1
of_exclave from to b = node_at from to (e.Exclave b) (E.Exclave b) (E.rolls-Exclave b)

pub of_arm : (p : Pat) (g : Option Expr) (b : Expr) → arm_depth (arm p g b) ≡ max (max (pattern_depth p) (maybe_depth g)) (expr_depth b)
of_arm p None b = fold-roll-Arm ℕ ℕ ℕ ℕ ℕ step arm_step bind_step expr_node field_step (record { pat = p; guard = None; body = b })
of_arm p (Some g) b = fold-roll-Arm ℕ ℕ ℕ ℕ ℕ step arm_step bind_step expr_node field_step (record { pat = p; guard = Some g; body = b })

pub of_bind : (p : Pat) (ps : List Param) (t : Option TyExpr) (b : Expr) → bind_depth (bind p ps t b) ≡ max (max (pattern_depth p) (greatest (map param_depth ps))) (expr_depth b)
of_bind p ps t b = fold-roll-Bind ℕ ℕ ℕ ℕ ℕ step arm_step bind_step expr_node field_step (record { pat = p; params = ps; result = t; body = b })

pub of_field : (s : Span) (a : Expr) → field_depth (field s a) ≡ expr_depth a
of_field s a = fold-roll-FieldExpr ℕ ℕ ℕ ℕ ℕ step arm_step bind_step expr_node field_step (record { id = 0; name = s; expr = a })

pub of_pun : (s : Span) → field_depth (pun s) ≡ 1
of_pun s = of_field s (node s.start s.end (E.Name s)) ∙ of_name s.start s.end s
