-- The grammar of expressions, bindings, items and programs.
--
-- `Reads text part ts e d rest`: the longest `part` at the front of the tokens `ts` is `e`, of depth `d`,
-- and `rest` follows. Each rule is one form of the language page; which rule it is, is told by what stands
-- at the front, so that no list of tokens has two trees.
use Rattle.std.specs.Prelude.{◌≡◌, ℕ, zero, suc, ◌+◌, max, Bool, true, false, List, [], ◌∷◌, drop, Option, Some, None}
use Rattle.ml_lexer.specs.declared.token.Token.{Token}
use Rattle.ml_lexer.specs.declared.token.TokenKind.TheVariants.{Text}
use Rattle.ml_lexer.specs.Tokens.{IsLiteral}
use Rattle.ml_cursor.specs.declared.front.Front.{Front}
use Rattle.ml_cursor.specs.declared.front.Front.TheVariants as F
use Rattle.ml_cursor.specs.Fronts.{front}
use Rattle.ml_cursor.specs.Places.{first_span, Takes}
use Rattle.oxml_base.specs.declared.span.Span.{Span}
use Rattle.ml_tree.specs.declared.pattern.Pat.{Pat}
use Rattle.ml_tree.specs.declared.pattern.Param.{Param}
use Rattle.ml_tree.specs.declared.types.TyExpr.{TyExpr}
use Rattle.ml_tree.specs.declared.words.Words.{Words}
use Rattle.ml_tree.specs.declared.expr.Expr.{Expr}
use Rattle.ml_tree.specs.declared.expr.Arm.{Arm}
use Rattle.ml_tree.specs.declared.expr.Bind.{Bind}
use Rattle.ml_tree.specs.declared.expr.FieldExpr.{FieldExpr}
use Rattle.ml_tree.specs.declared.expr.ExprKind.TheVariants as E
use Rattle.ml_tree.specs.declared.pattern.ConName.TheVariants.{Named}
use Rattle.ml_grammar.specs.declared.looks.Leaf.{Leaf}
use Rattle.ml_grammar.specs.declared.looks.AtomLead.{AtomLead}
use Rattle.ml_grammar.specs.declared.looks.AtomLead.TheVariants as A
use Rattle.ml_grammar.specs.declared.looks.Suffix.{Suffix}
use Rattle.ml_grammar.specs.declared.looks.Suffix.TheVariants as S
use Rattle.ml_grammar.specs.declared.looks.Lead.{Lead}
use Rattle.ml_grammar.specs.declared.looks.Lead.TheVariants as O
use Rattle.ml_grammar.specs.declared.looks.Joint.{Joint}
use Rattle.ml_grammar.specs.declared.looks.Joint.TheVariants.{Pair}
use Rattle.ml_grammar.specs.declared.looks.ListKind.{ListKind}
use Rattle.ml_grammar.specs.declared.looks.ListKind.TheVariants as Q
use Rattle.ml_grammar.specs.Looks.{second, atom_lead, suffix, lead, operator_at, groups_left, loosest, goes_on, next, behind, begins_field, behind_semi, is_bar, is_and, is_rec, is_else, is_colon, behind_bar, behind_rec, binds_function}
use Rattle.ml_grammar.specs.Trees.{node, start_of, end_of, arm, bind, field, end_behind, end_of_arm, end_of_branches, width, leaf, joined, gathered, name_pattern, pun}
use Rattle.ml_parse_types.specs.declared.looks.Row.TheVariants.{Factors}
use Rattle.ml_parse_types.specs.Types.{ReadsType, got}
use Rattle.ml_parse_patterns.specs.declared.looks.Level.TheVariants.{Pattern}
use Rattle.ml_parse_patterns.specs.Patterns.{Reads as ReadsLevel, ReadsParams}

pub data Part : Type 0 where
  -- a number, a name, a constant, or what brackets enclose
  atom : Part
  -- an atom with the fields and indices behind it
  simple : Part
  -- operands joined by operators up to this level; at level 0 one operand
  operators : ℕ → Part
  -- one part, or several of a kind as one expression
  listed : ListKind → Part

-- a simple part with its arguments, an expression, and expressions with `;` between them
abbrev pub apply : Part
apply = listed Q.Arguments

abbrev pub tuple : Part
tuple = listed Q.Parts

abbrev pub seq : Part
seq = listed Q.Statements

-- lists: of expressions, of fields of a record, of arms and of bindings
pub data Kind : Type 0 where
  exprs : ListKind → Kind
  fields arms binds : Kind

abbrev pub ItemOf : Kind → Type 0
ItemOf (exprs q) = Expr
ItemOf fields = FieldExpr
ItemOf arms = Arm
ItemOf binds = Bind

-- the part that each of a list of expressions is
abbrev pub part_of : ListKind → Part
part_of Q.Arguments = simple
part_of Q.Parts = operators loosest
part_of Q.Statements = tuple
part_of Q.Elements = tuple

-- whether a list goes on, where its next begins, and what follows its last
abbrev pub more : Kind → List Token → Bool
more (exprs q) ts = goes_on q ts
more fields ts = begins_field ts
more arms ts = is_bar (front ts)
more binds ts = is_and (front ts)

abbrev pub to_next : Kind → List Token → List Token
to_next (exprs q) ts = next q ts
to_next fields ts = drop 1 ts
to_next arms ts = drop 1 ts
to_next binds ts = drop 1 ts

abbrev pub past : Kind → List Token → List Token
past (exprs q) ts = behind q ts
past fields ts = behind_semi ts
past arms ts = ts
past binds ts = ts

-- a pattern of any level
abbrev pub ReadsPattern : List ℕ → List Token → Pat → ℕ → List Token → Type 0
ReadsPattern text ts p d rest = ReadsLevel text Pattern ts p d rest

-- a type; its depth is at most 1,000 and no part of an expression's
abbrev pub HasType : List Token → TyExpr → List Token → Type 0
HasType ts t rest = ReadsType Factors ts (got t rest)

-- `[: type]`
pub data ResultBy : Bool → List Token → Option TyExpr → List Token → Type 0 where
  no_result : {ts : List Token} → ResultBy false ts None ts
  result : {ts rest : List Token} {t : TyExpr} → HasType (drop 1 ts) t rest → ResultBy true ts (Some t) rest

-- what a bind gives its value: `f params`, or a pattern
pub data TargetBy (text : List ℕ) : Bool → List Token → Pat → ℕ → List Param → ℕ → List Token → Type 0 where
  function_target : {ts rest : List Token} {ps : List Param} {d : ℕ} →
      ReadsParams text (drop 1 ts) ps d rest → TargetBy text true ts (name_pattern (first_span ts)) 1 ps d rest
  pattern_target : {ts rest : List Token} {p : Pat} {d : ℕ} →
      ReadsPattern text ts p d rest → TargetBy text false ts p d [] 0 rest

-- `borrow_ y = x`
pub data Borrows : List Token → Span → Span → List Token → Type 0 where
  borrows : {ts us vs ws rest : List Token} {b y e x : Span} →
      Takes F.Borrow ts us b → Takes F.Lower us vs y → Takes F.Equal vs ws e → Takes F.Lower ws rest x →
      Borrows ts y x rest

mutual
  pub data Reads (text : List ℕ) : Part → List Token → Expr → ℕ → List Token → Type 0 where
    an_atom : {ts rest : List Token} {e : Expr} {d : ℕ} →
        AtomBy text (atom_lead ts) ts e d rest → Reads text atom ts e d rest
    a_simple : {ts us rest : List Token} {a e : Expr} {da d : ℕ} →
        Reads text atom ts a da us → SuffixBy text (suffix us) us a da e d rest → Reads text simple ts e d rest
    an_operand : {ts rest : List Token} {e : Expr} {d : ℕ} →
        OperandBy text (lead ts) ts e d rest → Reads text (operators zero) ts e d rest
    a_level : {k : ℕ} {ts us rest : List Token} {a e : Expr} {da d : ℕ} →
        Reads text (operators k) ts a da us →
        LevelBy text k (groups_left (suc k)) (operator_at (suc k) us) us a da e d rest →
        Reads text (operators (suc k)) ts e d rest
    a_list_of : {q : ListKind} {ts us rest : List Token} {a e : Expr} {da d : ℕ} →
        Reads text (part_of q) ts a da us → ListedBy text q (goes_on q us) us a da e d rest →
        Reads text (listed q) ts e d rest

  pub data AtomBy (text : List ℕ) : AtomLead → List Token → Expr → ℕ → List Token → Type 0 where
    a_leaf : {l : Leaf} {ts : List Token} → AtomBy text (A.Leaf l) ts (leaf l ts) 1 (drop (width l) ts)
    a_text : {t : Token} {rest : List Token} {bytes : List ℕ} →
        t.kind ≡ Text → IsLiteral text t bytes →
        AtomBy text A.Text (t ∷ rest) (node t.span.start t.span.end (E.Text (record { bytes = bytes }))) 1 rest
    a_paren : {ts us rest : List Token} {e : Expr} {d : ℕ} {s : Span} →
        Reads text seq (drop 1 ts) e d us → Takes F.CloseParen us rest s →
        AtomBy text A.Paren ts (node (first_span ts).start s.end (E.Paren e)) (d + 1) rest
    a_typed : {ts us vs ws rest : List Token} {e : Expr} {d : ℕ} {t : TyExpr} {c s : Span} →
        Reads text seq (drop 1 ts) e d us → Takes F.Colon us vs c → HasType vs t ws → Takes F.CloseParen ws rest s →
        AtomBy text A.Paren ts (node (first_span ts).start s.end (E.Typed e t)) (d + 1) rest
    a_begin : {ts us rest : List Token} {e : Expr} {d : ℕ} {s : Span} →
        Reads text seq (drop 1 ts) e d us → Takes F.End us rest s →
        AtomBy text A.Begin ts (node (first_span ts).start s.end (E.Paren e)) (d + 1) rest
    a_list : {ts us rest : List Token} {es : List Expr} {d : ℕ} {s : Span} →
        Lists text (exprs Q.Elements) (drop 1 ts) es d us → Takes F.CloseBracket us rest s →
        AtomBy text A.List ts (node (first_span ts).start s.end (E.List es)) (d + 1) rest
    a_record : {ts us rest : List Token} {fs : List FieldExpr} {d : ℕ} {s : Span} →
        Lists text fields (drop 1 ts) fs d us → Takes F.CloseBrace us rest s →
        AtomBy text A.Record ts (node (first_span ts).start s.end (E.Fields fs)) (d + 1) rest

  -- behind the expression `a` of depth `da`: its fields and indices
  pub data SuffixBy (text : List ℕ) : Suffix → List Token → Expr → ℕ → Expr → ℕ → List Token → Type 0 where
    no_suffix : {rest : List Token} {a : Expr} {da : ℕ} → SuffixBy text S.Nothing rest a da a da rest
    a_field : {us vs ws rest : List Token} {a e : Expr} {da d : ℕ} {s name : Span} →
        Takes F.Dot us vs s → Takes F.Lower vs ws name →
        SuffixBy text (suffix ws) ws (node (start_of a) name.end (E.Field a name)) (da + 1) e d rest →
        SuffixBy text S.Field us a da e d rest
    an_index : {us vs ws rest : List Token} {a i e : Expr} {da di d : ℕ} {s : Span} →
        Reads text seq (drop 1 (drop 1 us)) i di vs → Takes F.CloseBracket vs ws s →
        SuffixBy text (suffix ws) ws (node (start_of a) s.end (E.Index a i)) (max da di + 1) e d rest →
        SuffixBy text S.Index us a da e d rest

  -- behind a first expression: the others of an application, a tuple or a sequence, if it goes on
  pub data ListedBy (text : List ℕ) : ListKind → Bool → List Token → Expr → ℕ → Expr → ℕ → List Token → Type 0 where
    alone : {q : ListKind} {us : List Token} {a : Expr} {da : ℕ} → ListedBy text q false us a da a da (behind q us)
    several : {q : ListKind} {us rest : List Token} {a : Expr} {da d : ℕ} {es : List Expr} →
        Lists text (exprs q) (next q us) es d rest →
        ListedBy text q true us a da (gathered q a es) (max da d + 1) rest

  -- behind an operand of level `k`: the operators of the level above, which group to the left or the right
  pub data LevelBy (text : List ℕ) : ℕ → Bool → Option Joint → List Token → Expr → ℕ → Expr → ℕ → List Token → Type 0 where
    no_operator : {k : ℕ} {left : Bool} {rest : List Token} {a : Expr} {da : ℕ} → LevelBy text k left None rest a da a da rest
    to_left : {k : ℕ} {o : Joint} {us vs rest : List Token} {a b e : Expr} {da db d : ℕ} →
        Reads text (operators k) (drop 1 us) b db vs →
        LevelBy text k true (operator_at (suc k) vs) vs (joined o a b) (max da db + 1) e d rest →
        LevelBy text k true (Some o) us a da e d rest
    to_right : {k : ℕ} {o : Joint} {us rest : List Token} {a b : Expr} {da db : ℕ} →
        Reads text (operators (suc k)) (drop 1 us) b db rest →
        LevelBy text k false (Some o) us a da (joined o a b) (max da db + 1) rest

  -- an operand by what it begins with
  pub data OperandBy (text : List ℕ) : Lead → List Token → Expr → ℕ → List Token → Type 0 where
    an_apply : {ts rest : List Token} {e : Expr} {d : ℕ} →
        Reads text apply ts e d rest → OperandBy text O.Application ts e d rest
    a_constructor : {ts rest : List Token} {e : Expr} {d : ℕ} →
        ConBy text F.Upper ts e d rest → OperandBy text O.Constructor ts e d rest
    a_minus : {ts rest : List Token} {a : Expr} {d : ℕ} →
        Reads text (operators zero) (drop 1 ts) a d rest →
        OperandBy text O.Minus ts (node (first_span ts).start (end_of a) (E.Minus a)) (d + 1) rest
    a_word : {w : Words} {ts rest : List Token} {a : Expr} {d : ℕ} →
        Reads text (operators zero) (drop 1 ts) a d rest →
        OperandBy text (O.Word w) ts (node (first_span ts).start (end_of a) (E.Worded w a)) (d + 1) rest
    -- `overwrite_ x with con`
    an_overwrite : {ts us vs rest : List Token} {e : Expr} {d : ℕ} {name s : Span} →
        Takes F.Lower (drop 1 ts) us name → Takes F.With us vs s → ConBy text (front vs) vs e d rest →
        OperandBy text O.Overwrite ts (node (first_span ts).start (end_of e) (E.Overwrite name e)) (d + 1) rest
    a_let : {ts us rest : List Token} {bs : List Bind} {b : Expr} {dbs d : ℕ} →
        Lists text binds (behind_rec (drop 1 ts)) bs dbs us → front us ≡ F.In →
        Reads text seq (drop 1 us) b d rest →
        OperandBy text O.Let ts
        (node (first_span ts).start (end_of b) (E.Let (is_rec (second ts)) bs b)) (max dbs d + 1) rest
    -- `let borrow_ y = x in e`
    a_borrow : {ts us rest : List Token} {y x : Span} {b : Expr} {d : ℕ} →
        Borrows (drop 1 ts) y x us → front us ≡ F.In → Reads text seq (drop 1 us) b d rest →
        OperandBy text O.Borrow ts (node (first_span ts).start (end_of b) (E.Borrow y x b)) (d + 1) rest
    a_match : {ts us rest : List Token} {a : Expr} {cases : List Arm} {da d : ℕ} →
        Reads text seq (drop 1 ts) a da us → front us ≡ F.With →
        Lists text arms (behind_bar (drop 1 us)) cases d rest →
        OperandBy text O.Match ts
        (node (first_span ts).start (end_behind end_of_arm 0 cases) (E.Match a cases)) (max da d + 1) rest
    a_function : {ts rest : List Token} {cases : List Arm} {d : ℕ} →
        Lists text arms (behind_bar (drop 1 ts)) cases d rest →
        OperandBy text O.Function ts
        (node (first_span ts).start (end_behind end_of_arm 0 cases) (E.Function cases)) (d + 1) rest
    a_fun : {ts us rest : List Token} {ps : List Param} {b : Expr} {dp d : ℕ} →
        ReadsParams text (drop 1 ts) ps dp us → front us ≡ F.Arrow →
        Reads text seq (drop 1 us) b d rest →
        OperandBy text O.Fun ts (node (first_span ts).start (end_of b) (E.Fun ps b)) (max dp d + 1) rest
    an_if : {ts us vs rest : List Token} {c a : Expr} {o : Option Expr} {dc da d : ℕ} →
        Reads text seq (drop 1 ts) c dc us → front us ≡ F.Then → Reads text tuple (drop 1 us) a da vs →
        ElseBy text (is_else (front vs)) vs o d rest →
        OperandBy text O.If ts
        (node (first_span ts).start (end_of_branches a o) (E.If c a o)) (max dc (max da d) + 1) rest
    an_exclave : {ts rest : List Token} {b : Expr} {d : ℕ} →
        Reads text seq (drop 1 ts) b d rest →
        OperandBy text O.Exclave ts (node (first_span ts).start (end_of b) (E.Exclave b)) (d + 1) rest

  -- a constructor with its argument, by its first token: `C e`, or `(a :: b)`
  pub data ConBy (text : List ℕ) : Front → List Token → Expr → ℕ → List Token → Type 0 where
    a_block : {ts rest : List Token} {a : Expr} {d : ℕ} →
        Reads text simple (drop 1 ts) a d rest →
        ConBy text F.Upper ts (node (first_span ts).start (end_of a) (E.Con (Named (first_span ts)) (Some a))) (d + 1) rest
    a_cell : {ts us vs rest : List Token} {a b : Expr} {da db : ℕ} {s : Span} →
        Reads text (operators 3) (drop 1 ts) a da us → front us ≡ F.ColonColon →
        Reads text (operators 4) (drop 1 us) b db vs → Takes F.CloseParen vs rest s →
        ConBy text F.OpenParen ts
        (node (first_span ts).start s.end (E.Paren (joined Pair a b))) (max da db + 1 + 1) rest

  -- `[else e]`
  pub data ElseBy (text : List ℕ) : Bool → List Token → Option Expr → ℕ → List Token → Type 0 where
    no_else : {ts : List Token} → ElseBy text false ts None 0 ts
    an_else : {ts rest : List Token} {e : Expr} {d : ℕ} →
        Reads text tuple (drop 1 ts) e d rest → ElseBy text true ts (Some e) d rest

  -- `[when e] ->`
  pub data GuardBy (text : List ℕ) : Front → List Token → Option Expr → ℕ → List Token → Type 0 where
    no_guard : {ts : List Token} → GuardBy text F.Arrow ts None 0 (drop 1 ts)
    a_guard : {ts us : List Token} {e : Expr} {d : ℕ} →
        Reads text seq (drop 1 ts) e d us → front us ≡ F.Arrow → GuardBy text F.When ts (Some e) d (drop 1 us)

  -- a list of one or more; its depth is the greatest of theirs
  pub data Lists (text : List ℕ) : (k : Kind) → List Token → List (ItemOf k) → ℕ → List Token → Type 0 where
    the_last : {k : Kind} {ts us : List Token} {x : ItemOf k} {d : ℕ} →
        ItemBy text k ts x d us → more k us ≡ false → Lists text k ts (x ∷ []) d (past k us)
    one_more : {k : Kind} {ts us rest : List Token} {x : ItemOf k} {xs : List (ItemOf k)} {dx d : ℕ} →
        ItemBy text k ts x dx us → more k us ≡ true → Lists text k (to_next k us) xs d rest →
        Lists text k ts (x ∷ xs) (max dx d) rest

  -- one of a list
  pub data ItemBy (text : List ℕ) : (k : Kind) → List Token → ItemOf k → ℕ → List Token → Type 0 where
    an_expression : {q : ListKind} {ts rest : List Token} {e : Expr} {d : ℕ} →
        Reads text (part_of q) ts e d rest → ItemBy text (exprs q) ts e d rest
    -- `f = e`
    a_set_field : {ts rest : List Token} {e : Expr} {d : ℕ} →
        front ts ≡ F.Lower → second ts ≡ F.Equal → Reads text tuple (drop 1 (drop 1 ts)) e d rest →
        ItemBy text fields ts (field (first_span ts) e) d rest
    -- `f`
    a_pun : {ts : List Token} →
        front ts ≡ F.Lower → (second ts ≡ F.Equal → ⊥) → ItemBy text fields ts (pun (first_span ts)) 1 (drop 1 ts)
    -- `pattern [when g] -> e`
    an_arm : {ts us vs rest : List Token} {p : Pat} {g : Option Expr} {b : Expr} {dp dg d : ℕ} →
        ReadsPattern text ts p dp us → GuardBy text (front us) us g dg vs → Reads text seq vs b d rest →
        ItemBy text arms ts (arm p g b) (max dp (max dg d)) rest
    -- `target [: type] = e`
    a_bind : {ts us vs rest : List Token} {p : Pat} {ps : List Param} {t : Option TyExpr} {b : Expr} {dp ds d : ℕ} →
        TargetBy text (binds_function ts) ts p dp ps ds us → ResultBy (is_colon (front us)) us t vs →
        front vs ≡ F.Equal → Reads text seq (drop 1 vs) b d rest →
        ItemBy text binds ts (bind p ps t b) (max dp (max ds d)) rest
