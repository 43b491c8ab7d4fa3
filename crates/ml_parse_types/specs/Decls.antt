-- The grammar of declarations of types (OCaml manual, type definitions): each part is the longest of its
-- form, as in the grammar of types.
use Rattle.std.specs.Prelude.{◌≡◌, ℕ, Bool, true, false, List, [], ◌∷◌, drop}
use Rattle.oxml_base.specs.declared.span.Span.{Span}
use Rattle.ml_lexer.specs.declared.token.Token.{Token}
use Rattle.ml_tree.specs.declared.words.Words.{Words}
use Rattle.ml_tree.specs.declared.types.TyExpr.{TyExpr}
use Rattle.ml_tree.specs.declared.types.Arg.{Arg}
use Rattle.ml_tree.specs.declared.types.ConDecl.{ConDecl}
use Rattle.ml_tree.specs.declared.types.FieldDecl.{FieldDecl}
use Rattle.ml_tree.specs.declared.types.DeclBody.{DeclBody}
use Rattle.ml_tree.specs.declared.types.DeclBody.TheVariants.{Variant, Fields, Alias}
use Rattle.ml_tree.specs.declared.types.Decl.{Decl}
use Rattle.ml_cursor.specs.declared.front.Front.TheVariants as F
use Rattle.ml_cursor.specs.Fronts.{front}
use Rattle.ml_cursor.specs.Places.{first_span}
use Rattle.ml_parse_types.specs.declared.looks.Row.TheVariants.{Alone, Factors}
use Rattle.ml_parse_types.specs.declared.looks.After.{After}
use Rattle.ml_parse_types.specs.declared.looks.After.TheVariants.{Goes, Ends}
use Rattle.ml_parse_types.specs.declared.looks.VarsStart.{VarsStart}
use Rattle.ml_parse_types.specs.declared.looks.VarsStart.TheVariants.{NoVars, OneVar, VarGroup}
use Rattle.ml_parse_types.specs.declared.looks.BodyStart.{BodyStart}
use Rattle.ml_parse_types.specs.declared.looks.BodyStart.TheVariants.{Bar, Constructor, Brace, Other}
use Rattle.ml_parse_types.specs.Looks.{is_of, behind_var, behind_factor, behind_con, behind_field, behind_decl, vars_start, body_start}
use Rattle.ml_parse_types.specs.Types.{Got, got, ReadsWords, an_arg, ReadsType}

mutual
  -- a list of such items, one or more; what stands behind each says whether one more comes
  pub data ReadsItems {A : Type 0} (Item : List Token → Got A → Type 0) (behind : List Token → After) : List Token → Got (List A) → Type 0 where
    items : {ts : List Token} {a : Got A} {l : Got (List A)} →
        Item ts a → ItemsBy Item behind (behind a.rest) a l → ReadsItems Item behind ts l

  -- behind the first item of a list
  pub data ItemsBy {A : Type 0} (Item : List Token → Got A → Type 0) (behind : List Token → After) : After → Got A → Got (List A) → Type 0 where
    last_item : {n : ℕ} {a : Got A} → ItemsBy Item behind (Ends n) a (got (a.value ∷ []) (drop n a.rest))
    next_item : {a : Got A} {l : Got (List A)} →
        ReadsItems Item behind (drop 1 a.rest) l → ItemsBy Item behind Goes a (got (a.value ∷ l.value) l.rest)

-- one variable of several
pub data ReadsVar : List Token → Got Span → Type 0 where
  a_var : {ts : List Token} → front ts ≡ F.TypeVar → ReadsVar ts (got (first_span ts) (drop 1 ts))

abbrev pub var_behind : List Token → After
var_behind ts = behind_var (front ts)

-- the variables in front of a declared name: none, one, or those in parentheses
pub data VarsBy : VarsStart → List Token → Got (List Span) → Type 0 where
  no_vars : {ts : List Token} → VarsBy NoVars ts (got [] ts)
  one_var : {ts : List Token} → VarsBy OneVar ts (got (first_span ts ∷ []) (drop 1 ts))
  some_vars : {ts : List Token} {l : Got (List Span)} →
      ReadsItems ReadsVar var_behind (drop 1 ts) l → VarsBy VarGroup ts l

abbrev pub ReadsVars : List Token → Got (List Span) → Type 0
ReadsVars ts o = VarsBy (vars_start (front ts)) ts o

-- an arg of a constructor: words, which belong to the whole arg, and a type without `*`
pub data ReadsArg : List Token → Got Arg → Type 0 where
  con_arg : {ts : List Token} {w : Got Words} {t : Got TyExpr} →
      ReadsWords ts w → ReadsType Alone w.rest t → ReadsArg ts (got (an_arg w.value t.value) t.rest)

abbrev pub arg_behind : List Token → After
arg_behind ts = behind_factor (front ts)

-- behind the name of a constructor: its args, if `of` stands there
pub data ArgsBy : Bool → List Token → Got (List Arg) → Type 0 where
  no_args : {ts : List Token} → ArgsBy false ts (got [] ts)
  some_args : {ts : List Token} {l : Got (List Arg)} →
      ReadsItems ReadsArg arg_behind (drop 1 ts) l → ArgsBy true ts l

abbrev pub ReadsArgs : List Token → Got (List Arg) → Type 0
ReadsArgs ts o = ArgsBy (is_of (front ts)) ts o

abbrev pub a_con : Span → List Arg → ConDecl
a_con name args = record { name = name; args = args }

pub data ReadsCon : List Token → Got ConDecl → Type 0 where
  con : {ts : List Token} {l : Got (List Arg)} →
      front ts ≡ F.Upper → ReadsArgs (drop 1 ts) l →
      ReadsCon ts (got (a_con (first_span ts) l.value) l.rest)

abbrev pub con_behind : List Token → After
con_behind ts = behind_con (front ts)

abbrev pub a_field : Span → Arg → FieldDecl
a_field name arg = record { name = name; arg = arg }

-- words, the name, `:` and a type; the words belong to the field
pub data ReadsField : List Token → Got FieldDecl → Type 0 where
  field : {ts : List Token} {w : Got Words} {t : Got TyExpr} →
      ReadsWords ts w → front w.rest ≡ F.Lower → front (drop 1 w.rest) ≡ F.Colon →
      ReadsType Factors (drop 1 (drop 1 w.rest)) t →
      ReadsField ts (got (a_field (first_span w.rest) (an_arg w.value t.value)) t.rest)

abbrev pub field_behind : List Token → After
field_behind ts = behind_field (front ts) (front (drop 1 ts))

-- what a declared name stands for: a variant, a record or an abbreviation
pub data BodyBy : BodyStart → List Token → Got DeclBody → Type 0 where
  barred : {ts : List Token} {l : Got (List ConDecl)} →
      ReadsItems ReadsCon con_behind (drop 1 ts) l → BodyBy Bar ts (got (Variant l.value) l.rest)
  variant : {ts : List Token} {l : Got (List ConDecl)} →
      ReadsItems ReadsCon con_behind ts l → BodyBy Constructor ts (got (Variant l.value) l.rest)
  fields : {ts : List Token} {l : Got (List FieldDecl)} →
      ReadsItems ReadsField field_behind (drop 1 ts) l → BodyBy Brace ts (got (Fields l.value) l.rest)
  alias : {ts : List Token} {t : Got TyExpr} →
      ReadsType Factors ts t → BodyBy Other ts (got (Alias t.value) t.rest)

abbrev pub ReadsBody : List Token → Got DeclBody → Type 0
ReadsBody ts o = BodyBy (body_start (front ts)) ts o

abbrev pub a_decl : Span → List Span → DeclBody → Decl
a_decl name vars body = record { name = name; vars = vars; body = body }

-- one declaration
pub data ReadsDecl : List Token → Got Decl → Type 0 where
  decl : {ts : List Token} {v : Got (List Span)} {b : Got DeclBody} →
      ReadsVars ts v → front v.rest ≡ F.Lower → front (drop 1 v.rest) ≡ F.Equal →
      ReadsBody (drop 1 (drop 1 v.rest)) b →
      ReadsDecl ts (got (a_decl (first_span v.rest) v.value b.value) b.rest)

abbrev pub decl_behind : List Token → After
decl_behind ts = behind_decl (front ts)

-- the declarations of one item, with `and` between them
abbrev pub ReadsDecls : List Token → Got (List Decl) → Type 0
ReadsDecls ts o = ReadsItems ReadsDecl decl_behind ts o
