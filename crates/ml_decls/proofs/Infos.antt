-- What declarations say stays as the table grows.
use Rattle.std.proofs.Common.{◌≡◌, ℕ, ◌+◌, ◌<◌, ◌≤◌, List, [], ◌∷◌, ◌++◌, length, map, take, Option, Some, None, get_or, refl, sym, ap, ◌∙◌, subst, append_assoc, add-one}
use Rattle.std.proofs.lemmas.List.{take_all}
use Rattle.std.proofs.Math.Seq.{take-suc}
use Rattle.ml_tree.specs.declared.program.Item.{Item}
use Rattle.ml_tree.specs.declared.types.Decl.{Decl}
use Rattle.ml_tree.specs.declared.reference.TyRef.{TyRef}
use Rattle.ml_types.specs.declared.node.TyId.{TyId}
use Rattle.ml_types.specs.declared.node.TyNode.{TyNode}
use Rattle.ml_types.specs.declared.declared.DeclInfo.{DeclInfo}
use Rattle.ml_types.specs.declared.declared.ConInfo.{ConInfo}
use Rattle.ml_types.specs.declared.declared.FieldInfo.{FieldInfo}
use Rattle.ml_types.specs.declared.declared.ArgInfo.{ArgInfo}
use Rattle.ml_types.specs.Types.{Tree, Leaf}
use Rattle.ml_tree.specs.declared.types.TyExpr.{TyExpr}
use Rattle.ml_tree.specs.declared.types.ConDecl.{ConDecl}
use Rattle.ml_tree.specs.declared.types.FieldDecl.{FieldDecl}
use Rattle.ml_tree.specs.declared.types.DeclBody.{DeclBody}
use Rattle.ml_tree.specs.declared.types.DeclBody.TheVariants as b
use Rattle.ml_tree.specs.declared.pattern.ConName.TheVariants as n
use Rattle.ml_decls.specs.Predefined.{variant_info, bool_info, unit_info, list_info, option_info, all_infos}
use Rattle.ml_mentions.specs.Lists.{all}
use Rattle.ml_mentions.specs.Programs.{kind_declarations, declarations}
use Rattle.ml_decls.specs.Said.{SaidArg, SaidCon, SaidField, Said, said, said_con, said_field, written, nowhere, plain, con, variant, list_of, predefined}
use Rattle.ml_decls.specs.Tables.{HasType, Each, ArgSays, ConSays, FieldSays, AliasSays, Says, Grows, Adds}
use Rattle.ml_decls.proofs.Trees.{type_grows, each_weaker, each_append, grows_on}

pub arg_grows : (before after : List TyNode) → Grows before after → (a : ArgInfo) (s : SaidArg) → ArgSays before a s → ArgSays after a s
arg_grows before after g a s h = record { words = h.words; ty = type_grows before after a.ty s.ty g h.ty }

pub con_grows : (before after : List TyNode) → Grows before after → (c : ConInfo) (s : SaidCon) → ConSays before c s → ConSays after c s
con_grows before after g c s h = record { name = h.name; args = each_weaker (ArgSays before) (ArgSays after) c.args s.args (arg_grows before after g) h.args }

pub field_grows : (before after : List TyNode) → Grows before after → (f : FieldInfo) (s : SaidField) → FieldSays before f s → FieldSays after f s
field_grows before after g f s h = record { name = h.name; arg = arg_grows before after g f.arg s.arg h.arg }

alias_grows : (before after : List TyNode) → Grows before after → (o : Option TyId) (s : Option Tree) → AliasSays before o s → AliasSays after o s
alias_grows before after g None None h = h
alias_grows before after g None (Some t) h = h
alias_grows before after g (Some x) None h = h
alias_grows before after g (Some x) (Some t) h = type_grows before after x t g h

pub decl_grows : (before after : List TyNode) → Grows before after → (d : DeclInfo) (s : Said) → Says before d s → Says after d s
decl_grows before after g d s h = record {
  name = h.name;
  vars = h.vars;
  cons = each_weaker (ConSays before) (ConSays after) d.cons s.cons (con_grows before after g) h.cons;
  fields = each_weaker (FieldSays before) (FieldSays after) d.fields s.fields (field_grows before after g) h.fields;
  alias = alias_grows before after g d.alias s.alias h.alias;
}

-- ---- lists of declarations, over tables that grow

map_append : {A B : Type 0} → (g : A → B) (xs ys : List A) → map g (xs ++ ys) ≡ map g xs ++ map g ys
map_append g [] ys = refl
map_append g (x ∷ xs) ys = ap (λ z. g x ∷ z) (map_append g xs ys)

nothing_more : {X : Type 0} → (xs : List X) → xs ++ [] ≡ xs
nothing_more [] = refl
nothing_more (x ∷ xs) = ap (λ z. x ∷ z) (nothing_more xs)

pub adds_nothing : (types : List (ℕ × TyRef)) (nodes : List TyNode) (infos : List DeclInfo) → Adds types nodes nodes infos infos []
adds_nothing types nodes infos = record { grows = record { more = []; is = sym (nothing_more nodes) }; say = λ before h. subst (Each (Says nodes) infos) (sym (nothing_more before)) h }

pub adds_one : (types : List (ℕ × TyRef)) (start now next : List TyNode) (begun infos more : List DeclInfo) (ds : List Decl) (d : Decl) (info : DeclInfo) → Adds types start now begun infos ds → Grows now next → Says next info (said types d) → more ≡ infos ++ info ∷ [] → Adds types start next begun more (ds ++ d ∷ [])
adds_one types start now next begun infos more ds d info a g h e = record {
  grows = grows_on start now next a.grows g;
  say = λ before b.
      let so_far : Each (Says next) infos (before ++ map (said types) ds) = each_weaker (Says now) (Says next) infos (before ++ map (said types) ds) (decl_grows now next g) (a.say before b) in
      let both : Each (Says next) (infos ++ info ∷ []) ((before ++ map (said types) ds) ++ said types d ∷ []) = each_append (Says next) infos (info ∷ []) (before ++ map (said types) ds) (said types d ∷ []) so_far (h, tt) in
      let order : (before ++ map (said types) ds) ++ said types d ∷ [] ≡ before ++ map (said types) (ds ++ d ∷ []) = append_assoc before (map (said types) ds) (said types d ∷ []) ∙ ap (λ z. before ++ z) (sym (map_append (said types) ds (d ∷ []))) in
      subst (λ (z : List DeclInfo). Each (Says next) z (before ++ map (said types) (ds ++ d ∷ []))) (sym e) (subst (Each (Says next) (infos ++ info ∷ [])) order both);
}

pub adds_on : (types : List (ℕ × TyRef)) (start now next : List TyNode) (begun infos more : List DeclInfo) (ds es : List Decl) → Adds types start now begun infos ds → Adds types now next infos more es → Adds types start next begun more (ds ++ es)
adds_on types start now next begun infos more ds es a b = record {
  grows = grows_on start now next a.grows b.grows;
  say = λ before h.
      let order : (before ++ map (said types) ds) ++ map (said types) es ≡ before ++ map (said types) (ds ++ es) = append_assoc before (map (said types) ds) (map (said types) es) ∙ ap (λ z. before ++ z) (sym (map_append (said types) ds es)) in
      subst (Each (Says next) more) order (b.say (before ++ map (said types) ds) (a.say before h));
}

pub adds_same : (types : List (ℕ × TyRef)) (start now : List TyNode) (begun infos : List DeclInfo) (ds es : List Decl) → ds ≡ es → Adds types start now begun infos ds → Adds types start now begun infos es
adds_same types start now begun infos ds es e a = subst (Adds types start now begun infos) e a

-- ---- how far a loop over a list has come

pub taken_more : {A : Type 0} → (list : List A) (i : ℕ) (item : A) → i < length list → item ≡ get_or list i item → take i list ++ item ∷ [] ≡ take (i + 1) list
taken_more list i item h is = ap (λ z. take i list ++ z ∷ []) is ∙ sym (take-suc list i item h) ∙ ap (λ n. take n list) (sym (add-one i))

pub taken_all : {A : Type 0} → (list : List A) (i : ℕ) → length list ≤ i → take i list ≡ list
taken_all list i h = take_all i list h

all_append : {B : Type 0} → (xs ys : List (List B)) → all (xs ++ ys) ≡ all xs ++ all ys
all_append [] ys = refl
all_append (x ∷ xs) ys = ap (λ z. x ++ z) (all_append xs ys) ∙ sym (append_assoc x (all xs) (all ys))

-- the declarations of one item more
pub declarations_more : (items : List Item) (i : ℕ) (item : Item) → i < length items → item ≡ get_or items i item → declarations (take i items) ++ kind_declarations item.kind ≡ declarations (take (i + 1) items)
declarations_more items i item h is =
    let kinds : Item → List Decl = λ x. kind_declarations x.kind in
    ap (λ z. declarations (take i items) ++ z) (sym (nothing_more (kind_declarations item.kind)))
    ∙ sym (all_append (map kinds (take i items)) (map kinds (item ∷ [])))
    ∙ ap all (sym (map_append kinds (take i items) (item ∷ [])))
    ∙ ap declarations (taken_more items i item h is)

-- ---- one declaration

module _ (types : List (ℕ × TyRef)) where
  pub said_variant : (d : Decl) (cs : List ConDecl) → d.body ≡ b.Variant cs → said types d ≡ record { name = d.name; vars = length d.vars; cons = map (said_con types) cs; fields = []; alias = None }
  said_variant d cs e = ap (λ (z : DeclBody). said types (record { name = d.name; vars = d.vars; body = z })) e

  pub said_record : (d : Decl) (fs : List FieldDecl) → d.body ≡ b.Fields fs → said types d ≡ record { name = d.name; vars = length d.vars; cons = []; fields = map (said_field types) fs; alias = None }
  said_record d fs e = ap (λ (z : DeclBody). said types (record { name = d.name; vars = d.vars; body = z })) e

  pub said_alias : (d : Decl) (ty : TyExpr) → d.body ≡ b.Alias ty → said types d ≡ record { name = d.name; vars = length d.vars; cons = []; fields = []; alias = Some (written types ty) }
  said_alias d ty e = ap (λ (z : DeclBody). said types (record { name = d.name; vars = d.vars; body = z })) e

  pub says_variant : (nodes : List TyNode) (info : DeclInfo) (d : Decl) (vars : ℕ) (cs list : List ConDecl) → d.body ≡ b.Variant cs → list ≡ cs → vars ≡ length d.vars → Says nodes info (record { name = d.name; vars = vars; cons = map (said_con types) list; fields = []; alias = None }) → Says nodes info (said types d)
  says_variant nodes info d vars cs list e l v h = rw (said_variant d cs e, ← l, ← v) h

  pub says_record : (nodes : List TyNode) (info : DeclInfo) (d : Decl) (vars : ℕ) (fs list : List FieldDecl) → d.body ≡ b.Fields fs → list ≡ fs → vars ≡ length d.vars → Says nodes info (record { name = d.name; vars = vars; cons = []; fields = map (said_field types) list; alias = None }) → Says nodes info (said types d)
  says_record nodes info d vars fs list e l v h = rw (said_record d fs e, ← l, ← v) h

  pub says_alias : (nodes : List TyNode) (info : DeclInfo) (d : Decl) (vars : ℕ) (ty : TyExpr) → d.body ≡ b.Alias ty → vars ≡ length d.vars → Says nodes info (record { name = d.name; vars = vars; cons = []; fields = []; alias = Some (written types ty) }) → Says nodes info (said types d)
  says_alias nodes info d vars ty e v h = rw (said_alias d ty e, ← v) h

-- ---- what is predefined

pub predefined_say : (nodes : List TyNode) (element list : TyId) → HasType nodes element (Leaf 0) → HasType nodes list (list_of (Leaf 0)) → Each (Says nodes) (all_infos element list) predefined
predefined_say nodes element list e l = (none, (none, (none, (truth, (unit, (lists, (options, tt)))))))
  where
    none : Says nodes (variant_info 0 []) (variant 0 [])
    none = record { name = refl; vars = refl; cons = tt; fields = tt; alias = tt }

    truth : Says nodes bool_info (variant 0 (con n.False [] ∷ con n.True [] ∷ []))
    truth = record { name = refl; vars = refl; cons = (record { name = refl; args = tt }, (record { name = refl; args = tt }, tt)); fields = tt; alias = tt }

    unit : Says nodes unit_info (variant 0 (con n.Unit [] ∷ []))
    unit = record { name = refl; vars = refl; cons = (record { name = refl; args = tt }, tt); fields = tt; alias = tt }

    lists : Says nodes (list_info element list) (variant 1 (con n.Nil [] ∷ con (n.Named nowhere) (plain (Leaf 0) ∷ plain (list_of (Leaf 0)) ∷ []) ∷ []))
    lists = record { name = refl; vars = refl; cons = (record { name = refl; args = tt }, (record { name = refl; args = (record { words = refl; ty = e }, (record { words = refl; ty = l }, tt)) }, tt)); fields = tt; alias = tt }

    options : Says nodes (option_info element) (variant 1 (con (n.Named nowhere) [] ∷ con (n.Named nowhere) (plain (Leaf 0) ∷ []) ∷ []))
    options = record { name = refl; vars = refl; cons = (record { name = refl; args = tt }, (record { name = refl; args = (record { words = refl; ty = e }, tt) }, tt)); fields = tt; alias = tt }
