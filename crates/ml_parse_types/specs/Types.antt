-- The grammar of types and of mode words, as a relation between a list of tokens and what stands at its
-- front (OCaml manual, type expressions). Each part is the longest of its form: a rule holds where the look
-- at the next tokens says so, and no two rules hold of one look.
use Rattle.std.specs.Prelude.{◌≡◌, ℕ, suc, ◌≤◌, max, Bool, true, false, List, [], ◌∷◌, drop, Option, Some, None}
use Rattle.oxml_base.specs.declared.span.Span.{Span}
use Rattle.ml_lexer.specs.declared.token.Token.{Token}
use Rattle.ml_tree.specs.declared.words.Words.{Words}
use Rattle.ml_tree.specs.declared.types.TyExpr.{TyExpr, roll-TyExpr}
use Rattle.ml_tree.specs.declared.types.Arg.{Arg, roll-Arg}
use Rattle.ml_tree.specs.declared.types.TyKind.{TyKind}
use Rattle.ml_tree.specs.declared.types.TyKind.TheVariants.{Var, Con, Tuple, Arrow}
use Rattle.ml_cursor.specs.Fronts.{front}
use Rattle.ml_cursor.specs.Places.{first_span, extent}
use Rattle.ml_parse_types.specs.declared.looks.Row.{Row}
use Rattle.ml_parse_types.specs.declared.looks.Row.TheVariants.{Alone, Factors, Arguments}
use Rattle.ml_parse_types.specs.declared.looks.After.{After}
use Rattle.ml_parse_types.specs.declared.looks.After.TheVariants.{Goes, Ends}
use Rattle.ml_parse_types.specs.declared.looks.TypeStart.{TypeStart}
use Rattle.ml_parse_types.specs.declared.looks.TypeStart.TheVariants.{Variable, Named, Group}
use Rattle.ml_parse_types.specs.declared.words.WordStep.{WordStep}
use Rattle.ml_parse_types.specs.declared.words.WordStep.TheVariants.{Done, Adds}
use Rattle.ml_parse_types.specs.Looks.{type_start, is_name, is_arrow, behind_part, mode_word, no_words, with_word}

-- what was read, and the tokens behind it
pub record Got (A : Type 0) : Type 0 where
  pub value : A
  pub rest : List Token

abbrev pub got : {A : Type 0} → A → List Token → Got A
got value rest = record { value = value; rest = rest }

-- the same with its depth: the greatest number of type expressions and parentheses on a path
pub record Read (A : Type 0) : Type 0 where
  pub value : A
  pub depth : ℕ
  pub rest : List Token

abbrev pub read : {A : Type 0} → A → ℕ → List Token → Read A
read value depth rest = record { value = value; depth = depth; rest = rest }

-- all mode words at the front, behind those so far; at most one for each axis
pub data WordsBy : WordStep → List Token → Words → Got Words → Type 0 where
  words_end : {ts : List Token} {w : Words} → WordsBy Done ts w (got w ts)
  word_more : {ts : List Token} {v w : Words} {o : Got Words} →
      WordsBy (with_word v (mode_word (front (drop 1 ts)))) (drop 1 ts) v o →
      WordsBy (Adds v) ts w o

abbrev pub WordsFrom : List Token → Words → Got Words → Type 0
WordsFrom ts w o = WordsBy (with_word w (mode_word (front ts))) ts w o

abbrev pub ReadsWords : List Token → Got Words → Type 0
ReadsWords ts o = WordsFrom ts no_words o

-- the numbers of type expressions are given later
abbrev pub a_type : Span → TyKind → TyExpr
a_type span kind = roll-TyExpr (record { id = 0; span = span; kind = kind })

abbrev pub variable : Span → TyExpr
variable span = a_type span (Var span)

abbrev pub applied : Span → Span → List TyExpr → TyExpr
applied span name args = a_type span (Con name args)

abbrev pub an_arg : Words → TyExpr → Arg
an_arg words ty = roll-Arg (record { words = words; ty = ty })

abbrev pub an_arrow : Span → Arg → Arg → TyExpr
an_arrow span from to = a_type span (Arrow from to)

-- the part of a product from ts on: a single operand is itself
abbrev pub product_by : List Token → ℕ → List Token → List TyExpr → Read TyExpr
product_by ts depth rest (t ∷ []) = read t depth rest
product_by ts depth rest list = read (a_type (extent ts rest) (Tuple list)) (suc depth) rest

abbrev pub product : List Token → Read (List TyExpr) → Read TyExpr
product ts l = product_by ts l.depth l.rest l.value

-- the type from ts on whose parentheses hold this list: one type, or several arguments before a name
abbrev pub arguments_by : List Token → Read (List TyExpr) → Bool → Option (Read TyExpr)
arguments_by ts l true =
    Some (read (applied (extent ts (drop 1 l.rest)) (first_span l.rest) l.value) (suc l.depth) (drop 1 l.rest))
arguments_by ts l false = None

abbrev pub group_by : List Token → Read (List TyExpr) → List TyExpr → Option (Read TyExpr)
group_by ts l (t ∷ []) = Some (read t (suc l.depth) l.rest)
group_by ts l _ = arguments_by ts l (is_name (front l.rest))

abbrev pub group : List Token → Read (List TyExpr) → Option (Read TyExpr)
group ts l = group_by ts l l.value

-- the name behind the type a, which begins at ts, applied to it
abbrev pub postfix : List Token → Read TyExpr → Read TyExpr
postfix ts a =
    read (applied (extent ts (drop 1 a.rest)) (first_span a.rest) (a.value ∷ [])) (suc a.depth) (drop 1 a.rest)

-- all the names behind the type a, which begins at ts, applied one by one
pub data NamesBy (ts : List Token) : Bool → Read TyExpr → Read TyExpr → Type 0 where
  no_name : {a : Read TyExpr} → NamesBy ts false a a
  one_name : {a o : Read TyExpr} →
      NamesBy ts (is_name (front (drop 1 a.rest))) (postfix ts a) o → NamesBy ts true a o

abbrev pub NamesFrom : List Token → Read TyExpr → Read TyExpr → Type 0
NamesFrom ts a o = NamesBy ts (is_name (front a.rest)) a o

mutual
  -- a variable, a name, or what stands in parentheses
  pub data AtomBy : TypeStart → List Token → Read TyExpr → Type 0 where
    a_variable : {ts : List Token} → AtomBy Variable ts (read (variable (first_span ts)) 1 (drop 1 ts))
    a_name : {ts : List Token} → AtomBy Named ts (read (applied (first_span ts) (first_span ts) []) 1 (drop 1 ts))
    a_group : {ts : List Token} {l : Read (List TyExpr)} {o : Read TyExpr} →
        ReadsList Arguments (drop 1 ts) l → group ts l ≡ Some o → AtomBy Group ts o

  -- an atom with the names behind it
  pub data ReadsOperand : List Token → Read TyExpr → Type 0 where
    operand : {ts : List Token} {a o : Read TyExpr} →
        AtomBy (type_start (front ts)) ts a → NamesFrom ts a o → ReadsOperand ts o

  -- a part of a row: an operand, or a whole type among arguments
  pub data ReadsPart : Row → List Token → Read TyExpr → Type 0 where
    alone : {ts : List Token} {o : Read TyExpr} → ReadsOperand ts o → ReadsPart Alone ts o
    factor : {ts : List Token} {o : Read TyExpr} → ReadsOperand ts o → ReadsPart Factors ts o
    argument : {ts : List Token} {t : TyExpr} {d : ℕ} {r : List Token} →
        ReadsSide Factors ts (read (an_arg no_words t) d r) → ReadsPart Arguments ts (read t d r)

  -- a row, one part or more
  pub data ReadsList : Row → List Token → Read (List TyExpr) → Type 0 where
    row : {k : Row} {ts : List Token} {a : Read TyExpr} {l : Read (List TyExpr)} →
        ReadsPart k ts a → ListBy k (behind_part k (front a.rest)) a l → ReadsList k ts l

  -- behind the first part of a row
  pub data ListBy : Row → After → Read TyExpr → Read (List TyExpr) → Type 0 where
    the_last : {k : Row} {n : ℕ} {a : Read TyExpr} →
        ListBy k (Ends n) a (read (a.value ∷ []) a.depth (drop n a.rest))
    one_more : {k : Row} {a : Read TyExpr} {l : Read (List TyExpr)} →
        ReadsList k (drop 1 a.rest) l →
        ListBy k Goes a (read (a.value ∷ l.value) (max a.depth l.depth) l.rest)

  -- words and a type: one side of an arrow. The words belong to the part up to the next arrow, so they are
  -- those of the whole side only where no arrow follows. The row says whether `*` is taken
  pub data ReadsSide : Row → List Token → Read Arg → Type 0 where
    side : {k : Row} {ts : List Token} {w : Got Words} {l : Read (List TyExpr)} {o : Read Arg} →
        ReadsWords ts w → ReadsList k w.rest l →
        SideBy k (is_arrow (front (product w.rest l).rest)) ts w.value (product w.rest l) o → ReadsSide k ts o

  -- behind the words and the product that a side begins with
  pub data SideBy : Row → Bool → List Token → Words → Read TyExpr → Read Arg → Type 0 where
    no_arrow : {k : Row} {ts : List Token} {w : Words} {p : Read TyExpr} →
        SideBy k false ts w p (read (an_arg w p.value) p.depth p.rest)
    to_arrow : {k : Row} {ts : List Token} {w : Words} {p : Read TyExpr} {a : Read Arg} →
        ReadsSide k (drop 1 p.rest) a →
        SideBy k true ts w p
        (read (an_arg no_words (an_arrow (extent ts a.rest) (an_arg w p.value) a.value)) (suc (max p.depth a.depth)) a.rest)

abbrev pub SideFrom : Row → List Token → Words → Read TyExpr → Read Arg → Type 0
SideFrom k ts w p o = SideBy k (is_arrow (front p.rest)) ts w p o

-- a type is a side without words of its own
abbrev pub ReadsTypeOf : Row → List Token → TyExpr → ℕ → List Token → Type 0
ReadsTypeOf k ts t depth rest = ReadsSide k ts (read (an_arg no_words t) depth rest)

-- a type of depth at most 1,000; the row says whether `*` is taken
pub record ReadsType (k : Row) (ts : List Token) (o : Got TyExpr) : Type 0 where
  pub depth : ℕ
  pub reads : ReadsTypeOf k ts o.value depth o.rest
  pub within : depth ≤ 1000
