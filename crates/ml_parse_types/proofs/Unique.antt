-- What stands at the front of a list of tokens is one thing.
use Rattle.std.proofs.Common.{◌≡◌, suc, max, Bool, List, ◌∷◌, drop, refl, ap, subst, sym, ◌∙◌}
use Rattle.std.specs.Prelude.{Some}
use Rattle.ml_lexer.specs.declared.token.Token.{Token}
use Rattle.ml_tree.specs.declared.words.Words.{Words}
use Rattle.ml_tree.specs.declared.types.TyExpr.{TyExpr}
use Rattle.ml_tree.specs.declared.types.Arg.{Arg, out-Arg}
use Rattle.ml_cursor.specs.Fronts.{front}
use Rattle.ml_cursor.specs.Places.{extent}
use Rattle.ml_parse_types.specs.declared.looks.Row.{Row}
use Rattle.ml_parse_types.specs.declared.looks.Row.TheVariants.{Alone, Factors}
use Rattle.ml_parse_types.specs.declared.looks.After.{After}
use Rattle.ml_parse_types.specs.declared.looks.TypeStart.{TypeStart}
use Rattle.ml_parse_types.specs.declared.words.WordStep.{WordStep}
use Rattle.oxml_base.specs.declared.span.Span.{Span}
use Rattle.ml_tree.specs.declared.types.ConDecl.{ConDecl}
use Rattle.ml_tree.specs.declared.types.FieldDecl.{FieldDecl}
use Rattle.ml_tree.specs.declared.types.DeclBody.{DeclBody}
use Rattle.ml_tree.specs.declared.types.DeclBody.TheVariants.{Variant, Fields, Alias}
use Rattle.ml_cursor.specs.Places.{first_span}
use Rattle.ml_parse_types.specs.declared.looks.VarsStart.{VarsStart}
use Rattle.ml_parse_types.specs.declared.looks.BodyStart.{BodyStart}
use Rattle.ml_parse_types.specs.Looks.{body_start}
use Rattle.ml_parse_types.specs.Decls.{ReadsItems, items, ItemsBy, last_item, next_item, ReadsVar, a_var, VarsBy, no_vars, one_var, some_vars, ReadsArg, con_arg, ArgsBy, no_args, some_args, a_con, ReadsCon, con, a_field, ReadsField, field, BodyBy, barred, variant, fields, alias, a_decl, ReadsDecl, decl, decl_behind}
use Rattle.ml_parse_types.specs.Looks.{is_name, is_arrow, behind_part, no_words}
use Rattle.ml_parse_types.specs.Types.{Got, got, Read, read, ReadsType, WordsBy, words_end, word_more, an_arg, an_arrow, product, group, NamesBy, no_name, one_name, AtomBy, a_variable, a_name, a_group, ReadsOperand, operand, ReadsPart, alone, factor, argument, ReadsList, row, ListBy, the_last, one_more, ReadsSide, side, SideBy, no_arrow, to_arrow}

pub same_words : {k : WordStep} {ts : List Token} {w : Words} {o p : Got Words} → WordsBy k ts w o → WordsBy k ts w p → o ≡ p
same_words words_end words_end = refl
same_words (word_more a) (word_more b) = same_words a b

pub same_names : {ts : List Token} {k : Bool} {a o p : Read TyExpr} → NamesBy ts k a o → NamesBy ts k a p → o ≡ p
same_names no_name no_name = refl
same_names (one_name a) (one_name b) = same_names a b

some-some : {A : Type 0} {a b : A} → Some a ≡ Some b → a ≡ b
some-some h = cc

-- the type of a side
abbrev pub unworded : Read Arg → Read TyExpr
unworded o = read (out-Arg o.value).ty o.depth o.rest

mutual
  pub same_atom : {k : TypeStart} {ts : List Token} {o p : Read TyExpr} → AtomBy k ts o → AtomBy k ts p → o ≡ p
  same_atom a_variable a_variable = refl
  same_atom a_name a_name = refl
  same_atom (a_group {ts = ts} {l = l} {o = o} a g) (a_group {l = m} {o = p} b h) =
      some-some (sym g ∙ ap (λ (x : Read (List TyExpr)). group ts x) (same_list a b) ∙ h)

  pub same_operand : {ts : List Token} {o p : Read TyExpr} → ReadsOperand ts o → ReadsOperand ts p → o ≡ p
  same_operand (operand {ts = ts} {o = o} a f) (operand {a = b} c g) =
      same_names (subst (λ (x : Read TyExpr). NamesBy ts (is_name (front x.rest)) x o) (same_atom a c) f) g

  pub same_part : {k : Row} {ts : List Token} {o p : Read TyExpr} → ReadsPart k ts o → ReadsPart k ts p → o ≡ p
  same_part (alone a) (alone b) = same_operand a b
  same_part (factor a) (factor b) = same_operand a b
  same_part (argument a) (argument b) = ap unworded (same_side a b)

  pub same_list : {k : Row} {ts : List Token} {l m : Read (List TyExpr)} → ReadsList k ts l → ReadsList k ts m → l ≡ m
  same_list (row {k = k} {l = l} a f) (row b g) =
      same_rest (subst (λ (x : Read TyExpr). ListBy k (behind_part k (front x.rest)) x l) (same_part a b) f) g

  pub same_rest : {k : Row} {w : After} {a : Read TyExpr} {l m : Read (List TyExpr)} → ListBy k w a l → ListBy k w a m → l ≡ m
  same_rest the_last the_last = refl
  same_rest (one_more {a = a} c) (one_more d) =
      ap (λ (l : Read (List TyExpr)). read (a.value ∷ l.value) (max a.depth l.depth) l.rest) (same_list c d)

  pub same_side : {k : Row} {ts : List Token} {o p : Read Arg} → ReadsSide k ts o → ReadsSide k ts p → o ≡ p
  same_side (side {k = k} {ts = ts} {l = l} {o = o} v a f) (side {w = w} u b g) =
      let e = same_words v u in
      let h = same_list (subst (λ (x : Got Words). ReadsList k x.rest l) e a) b in
      let f1 = subst (λ (x : Got Words). SideBy k (is_arrow (front (product x.rest l).rest)) ts x.value (product x.rest l) o) e f in
      same_side_by (subst (λ (x : Read (List TyExpr)). SideBy k (is_arrow (front (product w.rest x).rest)) ts w.value (product w.rest x) o) h f1) g

  pub same_side_by : {k : Row} {w : Bool} {ts : List Token} {v : Words} {q : Read TyExpr} {o p : Read Arg} → SideBy k w ts v q o → SideBy k w ts v q p → o ≡ p
  same_side_by no_arrow no_arrow = refl
  same_side_by (to_arrow {ts = ts} {w = w} {p = p} a) (to_arrow b) =
      ap (λ (a : Read Arg). read (an_arg no_words (an_arrow (extent ts a.rest) (an_arg w p.value) a.value)) (suc (max p.depth a.depth)) a.rest) (same_side a b)

-- what does not depend on how a type was read
pub same_type : {k : Row} {ts : List Token} {o p : Got TyExpr} → ReadsType k ts o → ReadsType k ts p → o ≡ p
same_type a b = ap (λ (x : Read TyExpr). got x.value x.rest) (ap unworded (same_side a.reads b.reads))

abbrev pub IsOneThing : {A : Type 0} → (List Token → Got A → Type 0) → Type 0
IsOneThing {A} Item = (ts : List Token) (o p : Got A) → Item ts o → Item ts p → o ≡ p

mutual
  pub same_items : {A : Type 0} {Item : List Token → Got A → Type 0} {behind : List Token → After} → IsOneThing Item → {ts : List Token} {l m : Got (List A)} → ReadsItems Item behind ts l → ReadsItems Item behind ts m → l ≡ m
  same_items {Item = Item} {behind = behind} one (items {a = a} {l = l} i f) (items {a = b} j g) =
      same_items_by one (subst (λ (x : Got _). ItemsBy Item behind (behind x.rest) x l) (one _ a b i j) f) g

  pub same_items_by : {A : Type 0} {Item : List Token → Got A → Type 0} {behind : List Token → After} → IsOneThing Item → {w : After} {a : Got A} {l m : Got (List A)} → ItemsBy Item behind w a l → ItemsBy Item behind w a m → l ≡ m
  same_items_by one last_item last_item = refl
  same_items_by one (next_item {a = a} c) (next_item d) = ap (λ (l : Got (List _)). got (a.value ∷ l.value) l.rest) (same_items one c d)

pub same_var : IsOneThing ReadsVar
same_var ts o p (a_var e) (a_var f) = refl

pub same_vars : {k : VarsStart} {ts : List Token} {o p : Got (List Span)} → VarsBy k ts o → VarsBy k ts p → o ≡ p
same_vars no_vars no_vars = refl
same_vars one_var one_var = refl
same_vars (some_vars a) (some_vars b) = same_items same_var a b

pub same_arg : IsOneThing ReadsArg
same_arg ts o p (con_arg {w = v} {t = t} a s) (con_arg {w = w} {t = u} b r) =
    let e = same_words a b in
    let h = same_type (subst (λ (x : Got Words). ReadsType Alone x.rest t) e s) r in
    ap (λ (x : Got Words). got (an_arg x.value t.value) t.rest) e ∙ ap (λ (x : Got TyExpr). got (an_arg w.value x.value) x.rest) h

pub same_args : {k : Bool} {ts : List Token} {o p : Got (List Arg)} → ArgsBy k ts o → ArgsBy k ts p → o ≡ p
same_args no_args no_args = refl
same_args (some_args a) (some_args b) = same_items same_arg a b

pub same_con : IsOneThing ReadsCon
same_con ts o p (con e a) (con f b) = ap (λ (l : Got (List Arg)). got (a_con (first_span ts) l.value) l.rest) (same_args a b)

pub same_field : IsOneThing ReadsField
same_field ts o p (field {w = v} {t = t} a e f s) (field {w = w} {t = u} b g h r) =
    let q = same_words a b in
    let i = same_type (subst (λ (x : Got Words). ReadsType Factors (drop 1 (drop 1 x.rest)) t) q s) r in
    ap (λ (x : Got Words). got (a_field (first_span x.rest) (an_arg x.value t.value)) t.rest) q ∙ ap (λ (x : Got TyExpr). got (a_field (first_span w.rest) (an_arg w.value x.value)) x.rest) i

pub same_body : {k : BodyStart} {ts : List Token} {o p : Got DeclBody} → BodyBy k ts o → BodyBy k ts p → o ≡ p
same_body (barred a) (barred b) = ap (λ (l : Got (List ConDecl)). got (Variant l.value) l.rest) (same_items same_con a b)
same_body (variant a) (variant b) = ap (λ (l : Got (List ConDecl)). got (Variant l.value) l.rest) (same_items same_con a b)
same_body (fields a) (fields b) = ap (λ (l : Got (List FieldDecl)). got (Fields l.value) l.rest) (same_items same_field a b)
same_body (alias a) (alias b) = ap (λ (t : Got TyExpr). got (Alias t.value) t.rest) (same_type a b)

pub same_decl : IsOneThing ReadsDecl
same_decl ts o p (decl {v = v} {b = a} x e f s) (decl {v = w} {b = b} y g h r) =
    let q = same_vars x y in
    let i = same_body (subst (λ (x : Got (List Span)). BodyBy (body_start (front (drop 1 (drop 1 x.rest)))) (drop 1 (drop 1 x.rest)) a) q s) r in
    ap (λ (x : Got (List Span)). got (a_decl (first_span x.rest) x.value a.value) a.rest) q ∙ ap (λ (x : Got DeclBody). got (a_decl (first_span w.rest) w.value x.value) x.rest) i

pub same_decls : IsOneThing (ReadsItems ReadsDecl decl_behind)
same_decls ts o p a b = same_items same_decl a b
