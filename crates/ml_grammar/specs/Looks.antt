-- What begins at the front of a list of tokens, and what goes on there: each decision of the grammar.
use Rattle.std.specs.Prelude.{ℕ, Bool, true, false, ◌==◌, ◌||◌, ◌&&◌, not, if◌then◌else◌, List, drop, Option, Some, None, is_some}
use Rattle.ml_lexer.specs.declared.token.Token.{Token}
use Rattle.ml_cursor.specs.declared.front.Front.{Front}
use Rattle.ml_cursor.specs.declared.front.Front.TheVariants as F
use Rattle.ml_cursor.specs.Fronts.{front}
use Rattle.ml_cursor.specs.Lets.{begins_closed_let}
use Rattle.ml_tree.specs.declared.words.Loc.{Loc}
use Rattle.ml_tree.specs.declared.words.Loc.TheVariants.{Global, Local}
use Rattle.ml_tree.specs.declared.words.Uni.{Uni}
use Rattle.ml_tree.specs.declared.words.Uni.TheVariants.{Unique, Shared}
use Rattle.ml_tree.specs.declared.words.Aff.{Aff}
use Rattle.ml_tree.specs.declared.words.Aff.TheVariants.{Many, Once}
use Rattle.ml_tree.specs.declared.expr.BinOp.{BinOp}
use Rattle.ml_tree.specs.declared.expr.BinOp.TheVariants as B
use Rattle.ml_grammar.specs.declared.looks.Leaf.TheVariants as L
use Rattle.ml_grammar.specs.declared.looks.AtomLead.{AtomLead}
use Rattle.ml_grammar.specs.declared.looks.AtomLead.TheVariants as A
use Rattle.ml_grammar.specs.declared.looks.Suffix.{Suffix}
use Rattle.ml_grammar.specs.declared.looks.Suffix.TheVariants as S
use Rattle.ml_grammar.specs.declared.looks.Lead.{Lead}
use Rattle.ml_grammar.specs.declared.looks.Lead.TheVariants as O
use Rattle.ml_grammar.specs.declared.looks.Joint.{Joint}
use Rattle.ml_grammar.specs.declared.looks.Joint.TheVariants as J
use Rattle.ml_grammar.specs.declared.looks.ItemLead.{ItemLead}
use Rattle.ml_grammar.specs.declared.looks.ItemLead.TheVariants as I
use Rattle.ml_grammar.specs.declared.looks.ListKind.{ListKind}
use Rattle.ml_grammar.specs.declared.looks.ListKind.TheVariants as Q

-- the second and the third token
abbrev pub second : List Token → Front
second ts = front (drop 1 ts)

abbrev pub third : List Token → Front
third ts = front (drop 2 ts)

-- atoms

abbrev pub atom_by : Front → Front → Front → AtomLead
atom_by F.Int b c = A.Leaf L.Int
atom_by F.Char b c = A.Leaf L.Char
atom_by F.Text b c = A.Text
atom_by F.Lower b c = A.Leaf L.Name
atom_by F.Upper F.Dot F.Lower = A.Leaf L.Path
atom_by F.Upper b c = A.Leaf L.Upper
atom_by F.True b c = A.Leaf L.True
atom_by F.False b c = A.Leaf L.False
atom_by F.OpenParen F.CloseParen c = A.Leaf L.Unit
atom_by F.OpenParen b c = A.Paren
atom_by F.Begin b c = A.Begin
atom_by F.OpenBracket F.CloseBracket c = A.Leaf L.Nil
atom_by F.OpenBracket b c = A.List
atom_by F.OpenBrace b c = A.Record
atom_by a b c = A.Nothing

unfoldable pub atom_lead : List Token → AtomLead
atom_lead ts = atom_by (front ts) (second ts) (third ts)

abbrev pub begins_atom_by : Front → Bool
begins_atom_by F.Int = true
begins_atom_by F.Char = true
begins_atom_by F.Text = true
begins_atom_by F.Lower = true
begins_atom_by F.Upper = true
begins_atom_by F.True = true
begins_atom_by F.False = true
begins_atom_by F.OpenParen = true
begins_atom_by F.Begin = true
begins_atom_by F.OpenBracket = true
begins_atom_by F.OpenBrace = true
begins_atom_by a = false

unfoldable pub begins_atom : List Token → Bool
begins_atom ts = begins_atom_by (front ts)

abbrev pub suffix_by : Front → Front → Suffix
suffix_by F.Dot F.Lower = S.Field
suffix_by F.Dot F.OpenBracket = S.Index
suffix_by a b = S.Nothing

unfoldable pub suffix : List Token → Suffix
suffix ts = suffix_by (front ts) (second ts)

-- operands

abbrev pub locality : Loc → Lead
locality l = O.Word (record { loc = Some l; uni = None; aff = None })

abbrev pub uniqueness : Uni → Lead
uniqueness u = O.Word (record { loc = None; uni = Some u; aff = None })

abbrev pub affinity : Aff → Lead
affinity a = O.Word (record { loc = None; uni = None; aff = Some a })

abbrev pub lead_by : Front → Front → Lead
lead_by F.Let F.Borrow = O.Borrow
lead_by F.Let b = O.Let
lead_by F.Match b = O.Match
lead_by F.Function b = O.Function
lead_by F.Fun b = O.Fun
lead_by F.If b = O.If
lead_by F.Exclave b = O.Exclave
lead_by F.Minus b = O.Minus
lead_by F.Local b = locality Local
lead_by F.Global b = locality Global
lead_by F.Unique b = uniqueness Unique
lead_by F.Shared b = uniqueness Shared
lead_by F.Many b = affinity Many
lead_by F.Once b = affinity Once
lead_by F.Overwrite b = O.Overwrite
lead_by F.Upper b = if begins_atom_by b then O.Constructor else O.Application
lead_by a b = O.Application

unfoldable pub lead : List Token → Lead
lead ts = lead_by (front ts) (second ts)

-- whether an expression begins here; a `let` does where an `in` closes it, else it is the next item's
abbrev pub begins_open_by : Front → Bool
begins_open_by F.Match = true
begins_open_by F.Function = true
begins_open_by F.Fun = true
begins_open_by F.If = true
begins_open_by F.Exclave = true
begins_open_by F.Minus = true
begins_open_by F.Local = true
begins_open_by F.Global = true
begins_open_by F.Unique = true
begins_open_by F.Shared = true
begins_open_by F.Many = true
begins_open_by F.Once = true
begins_open_by F.Overwrite = true
begins_open_by a = begins_atom_by a

unfoldable pub begins_expression : List Token → Bool
begins_expression ts = begins_open_by (front ts) || begins_closed_let ts

-- operators, the levels from the tightest on

pub record Operator : Type 0 where
  pub level : ℕ
  pub joint : Joint

abbrev pub binary : ℕ → BinOp → Option Operator
binary n op = Some (record { level = n; joint = J.Binary op })

abbrev pub operator : Front → Option Operator
operator F.Lsl = binary 1 B.Lsl
operator F.Lsr = binary 1 B.Lsr
operator F.Asr = binary 1 B.Asr
operator F.Star = binary 2 B.Mul
operator F.Slash = binary 2 B.Div
operator F.Mod = binary 2 B.Mod
operator F.Land = binary 2 B.And
operator F.Lor = binary 2 B.Or
operator F.Lxor = binary 2 B.Xor
operator F.Plus = binary 3 B.Add
operator F.Minus = binary 3 B.Sub
operator F.ColonColon = Some (record { level = 4; joint = J.Pair })
operator F.At = binary 5 B.Append
operator F.Caret = binary 5 B.Join
operator F.Equal = binary 6 B.Eq
operator F.Less = binary 6 B.Lt
operator F.Greater = binary 6 B.Gt
operator F.LessEqual = binary 6 B.Le
operator F.GreaterEqual = binary 6 B.Ge
operator F.NotEqual = binary 6 B.Ne
operator F.AndAnd = binary 7 B.BoolAnd
operator F.OrOr = binary 8 B.BoolOr
operator a = None

abbrev pub of_level : ℕ → Option Operator → Option Joint
of_level n None = None
of_level n (Some o) = if o.level == n then Some o.joint else None

-- the operator of this level that stands here
unfoldable pub operator_at : ℕ → List Token → Option Joint
operator_at n ts = of_level n (operator (front ts))

-- whether the operators of a level group to the left: all do but 1, 4, 5, 7 and 8
unfoldable pub groups_left : ℕ → Bool
groups_left n = (n == 2) || (n == 3) || (n == 6)

-- a tuple is at the level above the operators
abbrev pub loosest : ℕ
loosest = 8

-- lists

abbrev pub is_comma : Front → Bool
is_comma F.Comma = true
is_comma a = false

abbrev pub is_semi : Front → Bool
is_semi F.Semi = true
is_semi a = false

abbrev pub is_lower : Front → Bool
is_lower F.Lower = true
is_lower a = false

abbrev pub is_bar : Front → Bool
is_bar F.Bar = true
is_bar a = false

abbrev pub is_and : Front → Bool
is_and F.And = true
is_and a = false

abbrev pub is_rec : Front → Bool
is_rec F.Rec = true
is_rec a = false

abbrev pub is_colon : Front → Bool
is_colon F.Colon = true
is_colon a = false

abbrev pub is_else : Front → Bool
is_else F.Else = true
is_else a = false

-- an operand cannot end before these
abbrev pub joins_operands : Front → Bool
joins_operands a = is_comma a || is_some (operator a)

unfoldable pub begins_statement : List Token → Bool
begins_statement ts = is_semi (front ts) && begins_expression (drop 1 ts)

-- behind the last of a sequence: a `;` with no expression behind it belongs to it. Before an operator or
-- a `,` it does not: the form that it would end is open, and an open form is no left operand
unfoldable pub behind_statements : List Token → List Token
behind_statements ts =
    if is_semi (front ts) && not (joins_operands (second ts)) then drop 1 ts else ts

-- whether a list goes on here
unfoldable pub goes_on : ListKind → List Token → Bool
goes_on Q.Arguments ts = begins_atom ts
goes_on Q.Parts ts = is_comma (front ts)
goes_on Q.Statements ts = begins_statement ts
goes_on Q.Elements ts = begins_statement ts

-- where the next of a list begins that goes on
unfoldable pub next : ListKind → List Token → List Token
next Q.Arguments ts = ts
next Q.Parts ts = drop 1 ts
next Q.Statements ts = drop 1 ts
next Q.Elements ts = drop 1 ts

-- what stands behind a list that does not go on
unfoldable pub behind : ListKind → List Token → List Token
behind Q.Arguments ts = ts
behind Q.Parts ts = ts
behind Q.Statements ts = behind_statements ts
behind Q.Elements ts = behind_statements ts

-- fields of a record: a `;` with no name behind it is the trailing one
unfoldable pub begins_field : List Token → Bool
begins_field ts = is_semi (front ts) && is_lower (second ts)

unfoldable pub behind_semi : List Token → List Token
behind_semi ts = if is_semi (front ts) then drop 1 ts else ts

unfoldable pub behind_bar : List Token → List Token
behind_bar ts = if is_bar (front ts) then drop 1 ts else ts

unfoldable pub behind_rec : List Token → List Token
behind_rec ts = if is_rec (front ts) then drop 1 ts else ts

-- a bind is one of a function where a parameter stands behind its name
abbrev pub begins_parameter : Front → Bool
begins_parameter F.Lower = true
begins_parameter F.Underscore = true
begins_parameter F.OpenParen = true
begins_parameter a = false

unfoldable pub binds_function : List Token → Bool
binds_function ts = is_lower (front ts) && begins_parameter (second ts)

-- items

abbrev pub item_by : Front → ItemLead
item_by F.Nothing = I.End
item_by F.SemiSemi = I.SemiSemi
item_by F.Let = I.Let
item_by F.TypeWord = I.Types
item_by a = I.Other

unfoldable pub item_lead : List Token → ItemLead
item_lead ts = item_by (front ts)
