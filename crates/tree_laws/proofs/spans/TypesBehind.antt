-- What is left behind types and declarations of types stands behind what they were read from.
use Rattle.std.proofs.Common.{◌≡◌, Bool, true, false, List, [], ◌∷◌, subst}
use Rattle.std.specs.Prelude.{Some}
use Rattle.oxml_base.specs.declared.span.Span.{Span}
use Rattle.ml_lexer.specs.declared.token.Token.{Token}
use Rattle.ml_tree.specs.declared.words.Words.{Words}
use Rattle.ml_tree.specs.declared.types.TyExpr.{TyExpr}
use Rattle.ml_tree.specs.declared.types.Arg.{Arg}
use Rattle.ml_tree.specs.declared.types.DeclBody.{DeclBody}
use Rattle.ml_tree.specs.declared.types.Decl.{Decl}
use Rattle.ml_parse_types.specs.declared.looks.Row.{Row}
use Rattle.ml_parse_types.specs.declared.looks.After.{After}
use Rattle.ml_parse_types.specs.declared.looks.TypeStart.{TypeStart}
use Rattle.ml_parse_types.specs.declared.looks.VarsStart.{VarsStart}
use Rattle.ml_parse_types.specs.declared.looks.BodyStart.{BodyStart}
use Rattle.ml_parse_types.specs.declared.words.WordStep.{WordStep}
use Rattle.ml_parse_types.specs.Decls.{ReadsItems, items, ItemsBy, last_item, next_item, ReadsVar, a_var, VarsBy, no_vars, one_var, some_vars, ReadsArg, con_arg, ArgsBy, no_args, some_args, ReadsCon, con, ReadsField, field, BodyBy, barred, variant, fields, alias, ReadsDecl, decl, decl_behind}
use Rattle.ml_parse_types.specs.Types.{Got, Read, WordsBy, words_end, word_more, group_by, arguments_by, NamesBy, no_name, one_name, AtomBy, a_variable, a_name, a_group, ReadsOperand, operand, ReadsPart, alone, factor, argument, ReadsList, row, ListBy, the_last, one_more, ReadsSide, side, SideBy, no_arrow, to_arrow, ReadsType}
use Rattle.ml_parse_types.proofs.Shorter.{some-some, none-some, product-rest}
use Rattle.tree_laws.proofs.spans.Behind.{Behind, same, dropped, one, then}

pub words_behind : {k : WordStep} {ts : List Token} {w : Words} {o : Got Words} → WordsBy k ts w o → Behind ts o.rest
words_behind words_end = same
words_behind (word_more x) = then one (words_behind x)

names_behind : {ts : List Token} {k : Bool} {a o : Read TyExpr} → NamesBy ts k a o → Behind a.rest o.rest
names_behind no_name = same
names_behind (one_name x) = then one (names_behind x)

arguments_behind : (ts : List Token) (l : Read (List TyExpr)) (b : Bool) (o : Read TyExpr) → arguments_by ts l b ≡ Some o → Behind l.rest o.rest
arguments_behind ts l true o h = subst (λ (x : Read TyExpr). Behind l.rest x.rest) (some-some h) (dropped 1 l.rest)
arguments_behind ts l false o h = none-some _ h

pub group_behind : (ts : List Token) (l : Read (List TyExpr)) (list : List TyExpr) (o : Read TyExpr) → group_by ts l list ≡ Some o → Behind l.rest o.rest
group_behind ts l [] o h = arguments_behind ts l _ o h
group_behind ts l (t ∷ []) o h = subst (λ (x : Read TyExpr). Behind l.rest x.rest) (some-some h) (dropped 0 l.rest)
group_behind ts l (t ∷ u ∷ list) o h = arguments_behind ts l _ o h

mutual
  pub atom_behind : {k : TypeStart} {ts : List Token} {o : Read TyExpr} → AtomBy k ts o → Behind ts o.rest
  atom_behind a_variable = one
  atom_behind a_name = one
  atom_behind (a_group {ts = ts} {l = l} {o = o} x g) = then one (then (list_behind x) (group_behind ts l l.value o g))

  operand_behind : {ts : List Token} {o : Read TyExpr} → ReadsOperand ts o → Behind ts o.rest
  operand_behind (operand x f) = then (atom_behind x) (names_behind f)

  pub part_behind : {k : Row} {ts : List Token} {o : Read TyExpr} → ReadsPart k ts o → Behind ts o.rest
  part_behind (alone x) = operand_behind x
  part_behind (factor x) = operand_behind x
  part_behind (argument x) = side_behind x

  pub list_behind : {k : Row} {ts : List Token} {l : Read (List TyExpr)} → ReadsList k ts l → Behind ts l.rest
  list_behind (row x f) = then (part_behind x) (others_behind f)

  others_behind : {k : Row} {w : After} {a : Read TyExpr} {l : Read (List TyExpr)} → ListBy k w a l → Behind a.rest l.rest
  others_behind (the_last {n = n} {a = a}) = dropped n a.rest
  others_behind (one_more x) = then one (list_behind x)

  side_behind : {k : Row} {ts : List Token} {o : Read Arg} → ReadsSide k ts o → Behind ts o.rest
  side_behind (side {w = w} {l = l} {o = o} v x f) =
      then (words_behind v) (then (list_behind x) (subst (λ r. Behind r o.rest) (product-rest w.rest l.rest l.depth l.value) (side_by_behind f)))

  side_by_behind : {k : Row} {w : Bool} {ts : List Token} {v : Words} {q : Read TyExpr} {o : Read Arg} → SideBy k w ts v q o → Behind q.rest o.rest
  side_by_behind no_arrow = same
  side_by_behind (to_arrow x) = then one (side_behind x)

pub type_behind : {k : Row} {ts : List Token} {o : Got TyExpr} → ReadsType k ts o → Behind ts o.rest
type_behind x = side_behind x.reads

-- what follows each such item stands behind it
abbrev pub Leaves : {A : Type 0} → (List Token → Got A → Type 0) → Type 0
Leaves {A} Item = (ts : List Token) (o : Got A) → Item ts o → Behind ts o.rest

mutual
  pub items_behind : {A : Type 0} {Item : List Token → Got A → Type 0} {behind : List Token → After} → Leaves Item → {ts : List Token} {l : Got (List A)} → ReadsItems Item behind ts l → Behind ts l.rest
  items_behind h (items {ts = ts} {a = a} i f) = then (h ts a i) (items_by_behind h f)

  items_by_behind : {A : Type 0} {Item : List Token → Got A → Type 0} {behind : List Token → After} → Leaves Item → {w : After} {a : Got A} {l : Got (List A)} → ItemsBy Item behind w a l → Behind a.rest l.rest
  items_by_behind h (last_item {n = n} {a = a}) = dropped n a.rest
  items_by_behind h (next_item x) = then one (items_behind h x)

var_behind_it : Leaves ReadsVar
var_behind_it ts o (a_var e) = one

pub vars_behind : {k : VarsStart} {ts : List Token} {o : Got (List Span)} → VarsBy k ts o → Behind ts o.rest
vars_behind no_vars = same
vars_behind one_var = one
vars_behind (some_vars x) = then one (items_behind var_behind_it x)

pub arg_behind_it : Leaves ReadsArg
arg_behind_it ts o (con_arg w t) = then (words_behind w) (type_behind t)

args_behind : {k : Bool} {ts : List Token} {o : Got (List Arg)} → ArgsBy k ts o → Behind ts o.rest
args_behind no_args = same
args_behind (some_args x) = then one (items_behind arg_behind_it x)

pub con_behind_it : Leaves ReadsCon
con_behind_it ts o (con e x) = then one (args_behind x)

pub field_behind_it : Leaves ReadsField
field_behind_it ts o (field a e f t) = then (words_behind a) (then one (then one (type_behind t)))

body_behind : {k : BodyStart} {ts : List Token} {o : Got DeclBody} → BodyBy k ts o → Behind ts o.rest
body_behind (barred x) = then one (items_behind con_behind_it x)
body_behind (variant x) = items_behind con_behind_it x
body_behind (fields x) = then one (items_behind field_behind_it x)
body_behind (alias t) = type_behind t

pub decl_behind_it : Leaves ReadsDecl
decl_behind_it ts o (decl x e f b) = then (vars_behind x) (then one (then one (body_behind b)))

pub decls_behind : {ts : List Token} {o : Got (List Decl)} → ReadsItems ReadsDecl decl_behind ts o → Behind ts o.rest
decls_behind x = items_behind decl_behind_it x
