-- What the answers of the readers mean, and the pieces of forms that have readers of their own.
--
-- `P x d rest` says that x, of depth d, stands at the front of some tokens, before rest.
use Rattle.std.specs.Prelude.{◌≡◌, ℕ, suc, ◌+◌, ◌<◌, ◌≤◌, max, List, ◌++◌, drop, Option}
use Rattle.ml_lexer.specs.declared.token.Token.{Token}
use Rattle.ml_cursor.specs.declared.front.Front.{Front}
use Rattle.ml_cursor.specs.declared.front.Front.TheVariants as F
use Rattle.ml_cursor.specs.Fronts.{front}
use Rattle.ml_cursor.specs.Places.{Takes}
use Rattle.oxml_base.specs.declared.span.Span.{Span}
use Rattle.ml_tree.specs.declared.pattern.Pat.{Pat}
use Rattle.ml_tree.specs.declared.pattern.Param.{Param}
use Rattle.ml_tree.specs.declared.types.TyExpr.{TyExpr}
use Rattle.ml_tree.specs.declared.expr.Expr.{Expr}
use Rattle.ml_tree.specs.declared.expr.ExprKind.TheVariants as E
use Rattle.ml_grammar.specs.declared.looks.Suffix.{Suffix}
use Rattle.ml_grammar.specs.declared.looks.Suffix.TheVariants as S
use Rattle.ml_grammar.specs.declared.looks.Joint.{Joint}
use Rattle.ml_grammar.specs.Looks.{is_colon, is_else, operator_at, groups_left, binds_function}
use Rattle.ml_grammar.specs.Trees.{node, start_of, joined}
use Rattle.ml_grammar.specs.Grammar.{Kind, ItemOf, operators, tuple, seq, Reads, LevelBy, ElseBy, GuardBy, ResultBy, TargetBy, Borrows, HasType, Lists}

-- one of at most the depth that is left was read
pub record IsRead {A : Type 0} (P : A → ℕ → List Token → Type 0) (left : ℕ) (x : A) (d : ℕ) (rest : List Token) : Type 0 where
  pub reads : P x d rest
  pub small : d ≤ left

-- all are deeper than is left
pub record AreDeep {A : Type 0} (P : A → ℕ → List Token → Type 0) (left : ℕ) : Type 0 where
  pub deep : (x : A) (d : ℕ) (rest : List Token) → P x d rest → left < d

-- a list was read behind the items that stand before it
pub record IsListed (text : List ℕ) (k : Kind) (ts rest : List Token) (before : List (ItemOf k)) (depth : ℕ) (list : List (ItemOf k)) (d : ℕ) : Type 0 where
  pub others : List (ItemOf k)
  pub deepest : ℕ
  pub reads : Lists text k ts others deepest rest
  pub list_is : list ≡ before ++ others
  pub depth_is : d ≡ max depth deepest

-- a sequence and this token behind it
pub data Until (text : List ℕ) (end : Front) : List Token → Expr → ℕ → List Token → Type 0 where
  until : {ts us : List Token} {e : Expr} {d : ℕ} →
      Reads text seq ts e d us → front us ≡ end → Until text end ts e d (drop 1 us)

-- this token and a sequence behind it
pub data Behind (text : List ℕ) (start : Front) : List Token → Expr → ℕ → List Token → Type 0 where
  behind_it : {ts rest : List Token} {e : Expr} {d : ℕ} →
      front ts ≡ start → Reads text seq (drop 1 ts) e d rest → Behind text start ts e d rest

-- behind a first operand, an operator and its second operand of a level
pub data Infix (text : List ℕ) (level : ℕ) (o : Joint) (a : Expr) (da : ℕ) : List Token → Expr → ℕ → List Token → Type 0 where
  infix_of : {ts rest : List Token} {b : Expr} {d : ℕ} →
      Reads text (operators level) (drop 1 ts) b d rest →
      Infix text level o a da ts (joined o a b) (max da d + 1) rest

-- behind an operand of the level below, the operators of a level
abbrev pub Levels : List ℕ → ℕ → Expr → ℕ → List Token → Expr → ℕ → List Token → Type 0
Levels text below a da ts e d rest =
    LevelBy text below (groups_left (suc below)) (operator_at (suc below) ts) ts a da e d rest

-- behind an atom, one field or index
pub data OneSuffix (text : List ℕ) (a : Expr) (da : ℕ) : Suffix → List Token → Expr → ℕ → List Token → Type 0 where
  one_field : {ts us rest : List Token} {s name : Span} →
      Takes F.Dot ts us s → Takes F.Lower us rest name →
      OneSuffix text a da S.Field ts (node (start_of a) name.end (E.Field a name)) (da + 1) rest
  one_index : {ts us rest : List Token} {i : Expr} {d : ℕ} {s : Span} →
      Reads text seq (drop 1 (drop 1 ts)) i d us → Takes F.CloseBracket us rest s →
      OneSuffix text a da S.Index ts (node (start_of a) s.end (E.Index a i)) (max da d + 1) rest

-- behind the sequence of parentheses that begin at a place: `)`, or `: type )`
pub data ClosesParens (from : ℕ) (e : Expr) : List Token → Expr → List Token → Type 0 where
  closes_paren : {ts rest : List Token} {s : Span} →
      Takes F.CloseParen ts rest s → ClosesParens from e ts (node from s.end (E.Paren e)) rest
  closes_typed : {ts us vs rest : List Token} {t : TyExpr} {c s : Span} →
      Takes F.Colon ts us c → HasType us t vs → Takes F.CloseParen vs rest s →
      ClosesParens from e ts (node from s.end (E.Typed e t)) rest

-- `[: type] =`
pub data Results : List Token → Option TyExpr → List Token → Type 0 where
  results : {ts us : List Token} {t : Option TyExpr} →
      ResultBy (is_colon (front ts)) ts t us → front us ≡ F.Equal → Results ts t (drop 1 us)

-- `[: type] = seq`
pub data Values (text : List ℕ) : List Token → Option TyExpr × Expr → ℕ → List Token → Type 0 where
  values : {ts us rest : List Token} {t : Option TyExpr} {b : Expr} {d : ℕ} →
      Results ts t us → Reads text seq us b d rest → Values text ts (t, b) d rest

-- `[when seq] -> seq`
pub data Actions (text : List ℕ) : List Token → Option Expr × Expr → ℕ → List Token → Type 0 where
  actions : {ts us rest : List Token} {g : Option Expr} {b : Expr} {dg d : ℕ} →
      GuardBy text (front ts) ts g dg us → Reads text seq us b d rest → Actions text ts (g, b) (max dg d) rest

-- `expr [else expr]`
pub data Branches (text : List ℕ) : List Token → Expr × Option Expr → ℕ → List Token → Type 0 where
  branches : {ts us rest : List Token} {a : Expr} {o : Option Expr} {da d : ℕ} →
      Reads text tuple ts a da us → ElseBy text (is_else (front us)) us o d rest →
      Branches text ts (a, o) (max da d) rest

-- all that a bind can give its value is deeper than is left
pub record TargetsAreDeep (text : List ℕ) (ts : List Token) (left : ℕ) : Type 0 where
  pub deep : (p : Pat) (d : ℕ) (ps : List Param) (c : ℕ) (r : List Token) → TargetBy text (binds_function ts) ts p d ps c r → left < max d c

-- no `[: type] =` stands here
pub record NoResults (ts : List Token) : Type 0 where
  pub none : (t : Option TyExpr) (r : List Token) → Results ts t r → ⊥

-- no `borrow_ y = x` stands here
pub record NoBorrows (ts : List Token) : Type 0 where
  pub none : (y x : Span) (r : List Token) → Borrows ts y x r → ⊥

-- neither `)` nor `: type )` stands here
pub record NotClosed (from : ℕ) (e : Expr) (ts : List Token) : Type 0 where
  pub none : (f : Expr) (r : List Token) → ClosesParens from e ts f r → ⊥
