-- What is read takes at least one token, except for words and the names behind a type.
use Rattle.std.proofs.Common.{◌≡◌, ◌≢◌, ◌<◌, ◌≤◌, ℕ, zero, suc, Bool, true, false, List, [], ◌∷◌, length, drop, refl, subst, sym, ap, ◌∙◌, arith}
use Rattle.std.specs.Prelude.{Some, None}
use Rattle.ml_lexer.specs.declared.token.Token.{Token}
use Rattle.oxml_base.specs.declared.span.Span.{Span}
use Rattle.ml_tree.specs.declared.words.Words.{Words}
use Rattle.ml_tree.specs.declared.types.TyExpr.{TyExpr}
use Rattle.ml_tree.specs.declared.types.Arg.{Arg}
use Rattle.ml_tree.specs.declared.types.DeclBody.{DeclBody}
use Rattle.ml_cursor.specs.declared.front.Front.{Front}
use Rattle.ml_cursor.specs.declared.front.Front.TheVariants.{Nothing, TypeVar, Lower, Upper}
use Rattle.ml_cursor.specs.Fronts.{front}
use Rattle.ml_parse_types.specs.declared.looks.Row.{Row}
use Rattle.ml_parse_types.specs.declared.looks.After.{After}
use Rattle.ml_parse_types.specs.declared.looks.TypeStart.{TypeStart}
use Rattle.ml_parse_types.specs.declared.looks.TypeStart.TheVariants.{Variable, Named, Other}
use Rattle.ml_parse_types.specs.declared.looks.VarsStart.{VarsStart}
use Rattle.ml_parse_types.specs.declared.words.WordStep.{WordStep}
use Rattle.ml_parse_types.specs.declared.looks.BodyStart.{BodyStart}
use Rattle.ml_parse_types.specs.Decls.{ReadsItems, items, ItemsBy, last_item, next_item, ReadsVar, a_var, VarsBy, no_vars, one_var, some_vars, ReadsArg, con_arg, ArgsBy, no_args, some_args, ReadsCon, con, ReadsField, field, BodyBy, barred, variant, fields, alias, ReadsDecl, decl, decl_behind}
use Rattle.ml_parse_types.specs.Looks.{type_start}
use Rattle.ml_parse_types.specs.Types.{Got, Read, WordsBy, words_end, word_more, product_by, group_by, arguments_by, NamesBy, no_name, one_name, AtomBy, a_variable, a_name, a_group, ReadsOperand, operand, ReadsPart, alone, factor, argument, ReadsList, row, ListBy, the_last, one_more, ReadsSide, side, SideBy, no_arrow, to_arrow, ReadsType}

pub some-some : {A : Type 0} {a b : A} → Some a ≡ Some b → a ≡ b
some-some h = cc

pub none-some : {A : Type 0} {a : A} (P : Type 0) → None ≡ Some a → P
none-some P h = cc

pub length-drop : {A : Type 0} (n : ℕ) (xs : List A) → length (drop n xs) ≤ length xs
length-drop zero xs = omega arith
length-drop (suc n) [] = omega arith
length-drop (suc n) (x ∷ xs) = omega (arith, length-drop n xs)

pub drop_one : (ts : List Token) → front ts ≢ Nothing → length (drop 1 ts) < length ts
drop_one [] h = absurd (h refl)
drop_one (t ∷ ts) h = omega arith

pub words_rest : {k : WordStep} {ts : List Token} {w : Words} {o : Got Words} → WordsBy k ts w o → length o.rest ≤ length ts
words_rest words_end = omega arith
words_rest (word_more {ts = ts} d) = omega (arith, words_rest d, length-drop 1 ts)

names_rest : {ts : List Token} {k : Bool} {a o : Read TyExpr} → NamesBy ts k a o → length o.rest ≤ length a.rest
names_rest no_name = omega arith
names_rest (one_name {a = a} d) = omega (arith, names_rest d, length-drop 1 a.rest)

starts : (ts : List Token) (k : TypeStart) → k ≡ type_start (front ts) → k ≢ Other → length (drop 1 ts) < length ts
starts [] k e h = absurd (h e)
starts (t ∷ ts) k e h = omega arith

pub product-rest : (ts rest : List Token) (d : ℕ) (list : List TyExpr) → (product_by ts d rest list).rest ≡ rest
product-rest ts rest d [] = refl
product-rest ts rest d (t ∷ []) = refl
product-rest ts rest d (t ∷ u ∷ list) = refl

arguments_rest : (ts : List Token) (l : Read (List TyExpr)) (b : Bool) (o : Read TyExpr) → arguments_by ts l b ≡ Some o → length o.rest ≤ length l.rest
arguments_rest ts l true o h = subst (λ (x : Read TyExpr). length x.rest ≤ length l.rest) (some-some h) (length-drop 1 l.rest)
arguments_rest ts l false o h = none-some _ h

group_rest : (ts : List Token) (l : Read (List TyExpr)) (list : List TyExpr) (o : Read TyExpr) → group_by ts l list ≡ Some o → length o.rest ≤ length l.rest
group_rest ts l [] o h = arguments_rest ts l _ o h
group_rest ts l (t ∷ []) o h = subst (λ (x : Read TyExpr). length x.rest ≤ length l.rest) (some-some h) (let e : length l.rest ≤ length l.rest = omega arith in e)
group_rest ts l (t ∷ u ∷ list) o h = arguments_rest ts l _ o h

mutual
  atom_rest : {k : TypeStart} {ts : List Token} {o : Read TyExpr} → AtomBy k ts o → k ≡ type_start (front ts) → length o.rest < length ts
  atom_rest (a_variable {ts = ts}) e = starts ts Variable e (λ h. cc)
  atom_rest (a_name {ts = ts}) e = starts ts Named e (λ h. cc)
  atom_rest (a_group {ts = ts} {l = l} {o = o} a g) e = omega (arith, group_rest ts l l.value o g, list_rest a, length-drop 1 ts)

  pub operand_rest : {ts : List Token} {o : Read TyExpr} → ReadsOperand ts o → length o.rest < length ts
  operand_rest (operand a f) = omega (arith, atom_rest a refl, names_rest f)

  pub part_rest : {k : Row} {ts : List Token} {o : Read TyExpr} → ReadsPart k ts o → length o.rest < length ts
  part_rest (alone a) = operand_rest a
  part_rest (factor a) = operand_rest a
  part_rest (argument a) = side_rest a

  pub list_rest : {k : Row} {ts : List Token} {l : Read (List TyExpr)} → ReadsList k ts l → length l.rest < length ts
  list_rest (row a f) = omega (arith, part_rest a, behind_rest f)

  behind_rest : {k : Row} {w : After} {a : Read TyExpr} {l : Read (List TyExpr)} → ListBy k w a l → length l.rest ≤ length a.rest
  behind_rest (the_last {n = n} {a = a}) = length-drop n a.rest
  behind_rest (one_more {a = a} c) = omega (arith, list_rest c, length-drop 1 a.rest)

  pub side_rest : {k : Row} {ts : List Token} {o : Read Arg} → ReadsSide k ts o → length o.rest < length ts
  side_rest (side {w = w} {l = l} v a f) = omega (arith, words_rest v, list_rest a, side_by_rest f, ap length (product-rest w.rest l.rest l.depth l.value))

  side_by_rest : {k : Row} {w : Bool} {ts : List Token} {v : Words} {q : Read TyExpr} {o : Read Arg} → SideBy k w ts v q o → length o.rest ≤ length q.rest
  side_by_rest no_arrow = omega arith
  side_by_rest (to_arrow {p = p} a) = omega (arith, side_rest a, length-drop 1 p.rest)

pub type_rest : {k : Row} {ts : List Token} {o : Got TyExpr} → ReadsType k ts o → length o.rest < length ts
type_rest a = side_rest a.reads

-- each such item takes at least one token
abbrev pub Advances : {A : Type 0} → (List Token → Got A → Type 0) → Type 0
Advances {A} Item = (ts : List Token) (o : Got A) → Item ts o → length o.rest < length ts

mutual
  items_rest : {A : Type 0} {Item : List Token → Got A → Type 0} {behind : List Token → After} → Advances Item → {ts : List Token} {l : Got (List A)} → ReadsItems Item behind ts l → length l.rest < length ts
  items_rest one (items {ts = ts} {a = a} i f) = omega (arith, one ts a i, items_by_rest one f)

  items_by_rest : {A : Type 0} {Item : List Token → Got A → Type 0} {behind : List Token → After} → Advances Item → {w : After} {a : Got A} {l : Got (List A)} → ItemsBy Item behind w a l → length l.rest ≤ length a.rest
  items_by_rest one (last_item {n = n} {a = a}) = length-drop n a.rest
  items_by_rest one (next_item {a = a} c) = omega (arith, items_rest one c, length-drop 1 a.rest)

pub shows : (ts : List Token) (f : Front) → front ts ≡ f → f ≢ Nothing → length (drop 1 ts) < length ts
shows ts f e h = drop_one ts (λ n. h (sym e ∙ n))

pub var_rest : Advances ReadsVar
var_rest ts o (a_var e) = shows ts TypeVar e (λ h. cc)

pub vars_rest : {k : VarsStart} {ts : List Token} {o : Got (List Span)} → VarsBy k ts o → length o.rest ≤ length ts
vars_rest no_vars = omega arith
vars_rest (one_var {ts = ts}) = length-drop 1 ts
vars_rest (some_vars {ts = ts} d) = omega (arith, items_rest var_rest d, length-drop 1 ts)

pub arg_rest : Advances ReadsArg
arg_rest ts o (con_arg w t) = omega (arith, words_rest w, type_rest t)

pub args_rest : {k : Bool} {ts : List Token} {o : Got (List Arg)} → ArgsBy k ts o → length o.rest ≤ length ts
args_rest no_args = omega arith
args_rest (some_args {ts = ts} d) = omega (arith, items_rest arg_rest d, length-drop 1 ts)

pub con_rest : Advances ReadsCon
con_rest ts o (con e d) = omega (arith, shows ts Upper e (λ h. cc), args_rest d)

pub field_rest : Advances ReadsField
field_rest ts o (field {w = w} a e f t) = omega (arith, words_rest a, length-drop 1 w.rest, length-drop 1 (drop 1 w.rest), type_rest t)

pub body_rest : {k : BodyStart} {ts : List Token} {o : Got DeclBody} → BodyBy k ts o → length o.rest ≤ length ts
body_rest (barred {ts = ts} d) = omega (arith, items_rest con_rest d, length-drop 1 ts)
body_rest (variant d) = omega (arith, items_rest con_rest d)
body_rest (fields {ts = ts} d) = omega (arith, items_rest field_rest d, length-drop 1 ts)
body_rest (alias t) = omega (arith, type_rest t)

pub decl_rest : Advances ReadsDecl
decl_rest ts o (decl {v = v} x e f b) = omega (arith, vars_rest x, shows v.rest Lower e (λ h. cc), length-drop 1 (drop 1 v.rest), body_rest b)

pub decls_rest : Advances (ReadsItems ReadsDecl decl_behind)
decls_rest ts o d = items_rest decl_rest d
