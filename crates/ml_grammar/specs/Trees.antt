-- The nodes that the grammar makes. Their numbers are 0: a later pass gives them.
use Rattle.std.specs.Prelude.{ℕ, ◌-◌, List, [], ◌∷◌, drop, Option, Some, None}
use Rattle.oxml_base.specs.declared.span.Span.{Span}
use Rattle.ml_lexer.specs.declared.token.Token.{Token}
use Rattle.ml_tree.specs.declared.pattern.Pat.{Pat, roll-Pat}
use Rattle.ml_tree.specs.declared.pattern.PatKind.TheVariants as P
use Rattle.ml_tree.specs.declared.pattern.Param.{Param}
use Rattle.ml_tree.specs.declared.pattern.ConName.{ConName}
use Rattle.ml_tree.specs.declared.pattern.ConName.TheVariants as C
use Rattle.ml_tree.specs.declared.types.TyExpr.{TyExpr}
use Rattle.ml_tree.specs.declared.expr.Expr.{Expr, roll-Expr, out-Expr}
use Rattle.ml_tree.specs.declared.expr.Arm.{Arm, roll-Arm, out-Arm}
use Rattle.ml_tree.specs.declared.expr.Bind.{Bind, roll-Bind, out-Bind}
use Rattle.ml_tree.specs.declared.expr.FieldExpr.{FieldExpr, roll-FieldExpr}
use Rattle.ml_tree.specs.declared.expr.ExprKind.{ExprKind}
use Rattle.ml_tree.specs.declared.expr.ExprKind.TheVariants as E
use Rattle.ml_cursor.specs.Places.{span, first_span, int_value, char_value}
use Rattle.ml_grammar.specs.declared.looks.Leaf.{Leaf}
use Rattle.ml_grammar.specs.declared.looks.Leaf.TheVariants as L
use Rattle.ml_grammar.specs.declared.looks.Joint.{Joint}
use Rattle.ml_grammar.specs.declared.looks.Joint.TheVariants as J
use Rattle.ml_grammar.specs.declared.looks.ListKind.{ListKind}
use Rattle.ml_grammar.specs.declared.looks.ListKind.TheVariants as Q

abbrev pub node : ℕ → ℕ → ExprKind → Expr
node from to kind = roll-Expr (record { id = 0; span = span from to; kind = kind })

abbrev pub start_of : Expr → ℕ
start_of e = (out-Expr e).span.start

abbrev pub end_of : Expr → ℕ
end_of e = (out-Expr e).span.end

abbrev pub arm : Pat → Option Expr → Expr → Arm
arm pat guard body = roll-Arm (record { pat = pat; guard = guard; body = body })

abbrev pub bind : Pat → List Param → Option TyExpr → Expr → Bind
bind pat params result body = roll-Bind (record { pat = pat; params = params; result = result; body = body })

abbrev pub field : Span → Expr → FieldExpr
field name value = roll-FieldExpr (record { id = 0; name = name; expr = value })

-- where the last of a list ends, or the place itself where there is none
abbrev pub end_behind : {A : Type 0} → (A → ℕ) → ℕ → List A → ℕ
end_behind end at [] = at
end_behind end at (x ∷ xs) = end_behind end (end x) xs

abbrev pub end_of_arm : Arm → ℕ
end_of_arm a = end_of (out-Arm a).body

abbrev pub end_of_bind : Bind → ℕ
end_of_bind b = end_of (out-Bind b).body

-- where an `if` ends
abbrev pub end_of_branches : Expr → Option Expr → ℕ
end_of_branches a None = end_of a
end_of_branches a (Some b) = end_of b

-- how many tokens a leaf takes
abbrev pub width : Leaf → ℕ
width L.Path = 3
width L.Unit = 2
width L.Nil = 2
width _ = 1

abbrev pub constant : ConName → ExprKind
constant name = E.Con name None

abbrev pub leaf_kind : Leaf → List Token → ExprKind
leaf_kind L.Int ts = E.Int (int_value ts)
leaf_kind L.Char ts = E.Char (char_value ts)
leaf_kind L.Name ts = E.Name (first_span ts)
leaf_kind L.Path ts = E.Path (first_span ts) (first_span (drop 2 ts))
leaf_kind L.Upper ts = constant (C.Named (first_span ts))
leaf_kind L.True ts = constant C.True
leaf_kind L.False ts = constant C.False
leaf_kind L.Unit ts = constant C.Unit
leaf_kind L.Nil ts = constant C.Nil

-- from the start of the first token to the end of the last of so many
abbrev pub leaf : Leaf → List Token → Expr
leaf l ts = node (first_span ts).start (first_span (drop (width l - 1) ts)).end (leaf_kind l ts)

-- two operands with their operator
abbrev pub joined : Joint → Expr → Expr → Expr
joined J.Pair a b = node (start_of a) (end_of b) (E.Cons a b)
joined (J.Binary op) a b = node (start_of a) (end_of b) (E.Binary op a b)

abbrev pub gathered_kind : ListKind → Expr → List Expr → ExprKind
gathered_kind Q.Arguments a es = E.Apply a es
gathered_kind Q.Parts a es = E.Tuple (a ∷ es)
gathered_kind Q.Statements a es = E.Seq (a ∷ es)
gathered_kind Q.Elements a es = E.Seq (a ∷ es)

-- a first expression and those behind it
abbrev pub gathered : ListKind → Expr → List Expr → Expr
gathered k a es = node (start_of a) (end_behind end_of 0 es) (gathered_kind k a es)

-- a lower name as a pattern without words
abbrev pub name_pattern : Span → Pat
name_pattern s = roll-Pat (record { id = 0; span = s; kind = P.Name (record { loc = None; uni = None; aff = None }) s })

-- the field `f` alone means `f = f`
abbrev pub pun : Span → FieldExpr
pun s = field s (node s.start s.end (E.Name s))
