-- Checked declarations: no abbreviation reaches itself, so that all of them can be expanded.
use Rattle.std.proofs.Common.{◌≡◌, ℕ, zero, suc, ◌+◌, ◌<◌, ◌⊎◌, inl, inr, List, [], ◌∷◌, ◌++◌, map, length, Option, Some, None, slice_get, refl, sym, ap, ◌∙◌, subst, arith}
use Rattle.std.specs.Prelude.{option_map}
use Rattle.std.specs.List.{AllByRecursion}
use Rattle.std.proofs.lemmas.Option.{slice_get_within, get_or_from_slice_get}
use Rattle.oxml_base.specs.declared.rule.Rule.TheVariants.{CyclicAbbreviation}
use Rattle.ml_tree.specs.declared.scoped.Scoped.{Scoped}
use Rattle.ml_tree.specs.declared.program.Item.{Item}
use Rattle.ml_tree.specs.declared.types.Decl.{Decl}
use Rattle.ml_tree.specs.declared.types.DeclBody.{DeclBody}
use Rattle.ml_tree.specs.declared.types.DeclBody.TheVariants.{Variant, Fields, Alias}
use Rattle.ml_tree.specs.declared.types.TyExpr.{TyExpr}
use Rattle.ml_tree.specs.declared.reference.TyRef.{TyRef}
use Rattle.ml_types.specs.declared.node.TyId.{TyId}
use Rattle.ml_types.specs.declared.node.TyNode.{TyNode}
use Rattle.ml_types.specs.declared.node.TyTable.{TyTable}
use Rattle.ml_types.specs.declared.declared.Decls.{Decls}
use Rattle.ml_types.specs.declared.declared.DeclInfo.{DeclInfo}
use Rattle.ml_types.specs.Types.{Tree, Leaf}
use Rattle.ml_mentions.specs.Programs.{declarations, body_mentions, abbreviates}
use Rattle.ml_mentions.specs.Mentions.{mentions}
use Rattle.ml_mentions.specs.declared.mentions.Mention.TheVariants.{Named}
use Rattle.ml_decls.specs.Lists.{IsIn}
use Rattle.ml_decls.specs.Said.{Said, said, predefined, written, body_alias}
use Rattle.ml_decls.specs.Tables.{HasType, Each, Says, AliasSays, Declares, tree_in, trees_of}
use Rattle.ml_decls.specs.Offences.{Reaches, at_once, through}
use Rattle.ml_decls.specs.Answers.{IsChecked}
use Rattle.ml_decls.proofs.Members.{ImageAt, at_map}
use Rattle.ml_typing.specs.Typing.{alias_of, Reads}
use Rattle.declared_laws.specs.Expanding.{expand, layers, bodies, declared_types}
use Rattle.declared_laws.proofs.Expansions.{numbers, layers-stable}
use Rattle.declared_laws.proofs.Chains.{IsAcyclic, all_shallow}
use Rattle.declared_laws.proofs.Naming.{IsMentioned, written_mentions}
use Rattle.declared_laws.proofs.Readings.{readings}

-- ---- what stands at a number

-- what an item of two lists is related to
record Partner {A B : Type 0} (R : A → B → Type 0) (ys : List B) (i : ℕ) (x : A) : Type 0 where
  other : B
  stands : slice_get ys i ≡ Some other
  related : R x other

partner : {A B : Type 0} → (R : A → B → Type 0) (xs : List A) (ys : List B) → Each R xs ys → (i : ℕ) (x : A) → slice_get xs i ≡ Some x → Partner R ys i x
partner R [] [] h i x e = absurd cc
partner R [] (y ∷ ys) h i x e = absurd h
partner R (z ∷ xs) [] h i x e = absurd h
partner R (z ∷ xs) (y ∷ ys) h zero x e = let same : z ≡ x = cc in record { other = y; stands = refl; related = subst (λ w. R w y) same h.0 }
partner R (z ∷ xs) (y ∷ ys) h (suc i) x e = let r : Partner R ys i x = partner R xs ys h.1 i x e in record { other = r.other; stands = r.stands; related = r.related }

-- an item of the second of two lists, at its place there
record IsBehind {A : Type 0} (xs ys : List A) (i : ℕ) (one : A) : Type 0 where
  place : ℕ
  number : i ≡ place + length xs
  stands : slice_get ys place ≡ Some one

before_or_behind : {A : Type 0} → (xs ys : List A) (i : ℕ) (one : A) → slice_get (xs ++ ys) i ≡ Some one → IsIn one xs ⊎ IsBehind xs ys i one
before_or_behind [] ys i one e = inr (record { place = i; number = omega arith; stands = e })
before_or_behind (x ∷ xs) ys zero one e = let same : one ≡ x = cc in inl (inl same)
before_or_behind {A = A} (x ∷ xs) ys (suc i) one e = further (before_or_behind xs ys i one e)
  where
    further : IsIn one xs ⊎ IsBehind xs ys i one → IsIn one (x ∷ xs) ⊎ IsBehind (x ∷ xs) ys (suc i) one
    further (inl h) = inl (inr h)
    further (inr b) = inr (record { place = b.place; number = omega (arith, b.number); stands = b.stands })

-- the predefined declarations abbreviate nothing
no_alias : (xs : List Said) → AllByRecursion (λ x. x.alias ≡ None) xs → (one : Said) → IsIn one xs → one.alias ≡ None
no_alias [] h one i = absurd i
no_alias (x ∷ xs) h one (inl e) = ap (λ (z : Said). z.alias) e ∙ h.0
no_alias (x ∷ xs) h one (inr i) = no_alias xs h.1 one i

behind_predefined : (later : List Said) (d : ℕ) (one : Said) (t : Tree) → slice_get (predefined ++ later) d ≡ Some one → one.alias ≡ Some t → IsBehind predefined later d one
behind_predefined later d one t e a = by (before_or_behind predefined later d one e)
  where
    by : IsIn one predefined ⊎ IsBehind predefined later d one → IsBehind predefined later d one
    by (inl i) = let none : None ≡ Some t = sym (no_alias predefined (refl, (refl, (refl, (refl, (refl, (refl, (refl, tt))))))) one i) ∙ a in absurd cc
    by (inr b) = b

alias_written : (types : List (ℕ × TyRef)) (d : Decl) (t : Tree) → body_alias types d.body ≡ Some t → (ty : TyExpr) × (d.body ≡ Alias ty) × (written types ty ≡ t)
alias_written types d t e = by d.body refl e
  where
    by : (b : DeclBody) → d.body ≡ b → body_alias types b ≡ Some t → (ty : TyExpr) × (d.body ≡ Alias ty) × (written types ty ≡ t)
    by (Variant cs) q h = absurd cc
    by (Fields fs) q h = absurd cc
    by (Alias ty) q h = let same : written types ty ≡ t = cc in (ty, q, same)

-- ---- an abbreviation

-- the declaration of an abbreviation of the table, and the type that it writes
record Comes (types : List (ℕ × TyRef)) (ds : List Decl) (d : ℕ) (t : Tree) : Type 0 where
  place : ℕ
  declaration : Decl
  ty : TyExpr
  number : d ≡ place + 7
  stands : slice_get ds place ≡ Some declaration
  body : declaration.body ≡ Alias ty
  writes : written types ty ≡ t

record Aliased (decls : List DeclInfo) (nodes : List TyNode) (d : ℕ) (t : Tree) : Type 0 where
  info : DeclInfo
  stands : slice_get decls d ≡ Some info
  id : TyId
  alias : info.alias ≡ Some id
  tree : tree_in (trees_of nodes) id ≡ t

aliased : (decls : List DeclInfo) (nodes : List TyNode) (d : ℕ) (t : Tree) → bodies decls nodes d ≡ Some t → Aliased decls nodes d t
aliased decls nodes d t e = by (slice_get decls d) refl e
  where
    by_alias : (info : DeclInfo) → slice_get decls d ≡ Some info → (o : Option TyId) → info.alias ≡ o → option_map (tree_in (trees_of nodes)) o ≡ Some t → Aliased decls nodes d t
    by_alias info s None a q = absurd cc
    by_alias info s (Some x) a q = let same : tree_in (trees_of nodes) x ≡ t = cc in record { info = info; stands = s; id = x; alias = a; tree = same }

    by : (o : Option DeclInfo) → slice_get decls d ≡ o → option_map (tree_in (trees_of nodes)) (alias_of o) ≡ Some t → Aliased decls nodes d t
    by None s q = absurd cc
    by (Some info) s q = by_alias info s info.alias refl q

says_alias : (nodes : List TyNode) (x : TyId) (o : Option TyId) (p : Option Tree) → o ≡ Some x → AliasSays nodes o p → (t : Tree) × (p ≡ Some t) × HasType nodes x t
says_alias nodes x None p e h = absurd cc
says_alias nodes x (Some y) None e h = absurd h
says_alias nodes x (Some y) (Some t) e h = let same : y ≡ x = cc in (t, refl, subst (λ z. HasType nodes z t) same h)

-- every abbreviation of the table is one of the program
comes : (types : List (ℕ × TyRef)) (ds : List Decl) (decls : List DeclInfo) (nodes : List TyNode) → Declares types ds decls nodes → (d : ℕ) (t : Tree) → bodies decls nodes d ≡ Some t → Comes types ds d t
comes types ds decls nodes declares d t e =
    record { place = behind.place; declaration = image.item; ty = from.0; number = behind.number; stands = image.stands; body = from.1; writes = from.2 ∙ is }
  where
    a : Aliased decls nodes d t
    a = aliased decls nodes d t e

    p : Partner (Says nodes) (predefined ++ map (said types) ds) d a.info
    p = partner (Says nodes) decls (predefined ++ map (said types) ds) declares.say d a.info a.stands

    typed : (u : Tree) × (p.other.alias ≡ Some u) × HasType nodes a.id u
    typed = says_alias nodes a.id a.info.alias p.other.alias a.alias p.related.alias

    is : typed.0 ≡ t
    is = sym (get_or_from_slice_get (trees_of nodes) a.id.0 typed.0 (Leaf 0) typed.2) ∙ a.tree

    behind : IsBehind predefined (map (said types) ds) d p.other
    behind = behind_predefined (map (said types) ds) d p.other typed.0 p.stands typed.1

    image : ImageAt (said types) ds behind.place p.other
    image = at_map (said types) ds behind.place p.other behind.stands

    from : (ty : TyExpr) × (image.item.body ≡ Alias ty) × (written types ty ≡ typed.0)
    from = alias_written types image.item typed.0 (ap (λ (z : Said). z.alias) (sym image.is) ∙ typed.1)

-- ---- none reaches itself

reach_on : (types : List (ℕ × TyRef)) (items : List Item) (d e f : ℕ) → Reaches types items d e → Reaches types items e f → Reaches types items d f
reach_on types items d e f (at_once _ _ a) r = through d e f a r
reach_on types items d e f (through _ m _ a q) r = through d m f a (reach_on types items m e f q r)

acyclic : (text : List ℕ) (s : Scoped) (decls : Decls) (table : TyTable) → IsChecked text s decls table → IsAcyclic (bodies decls.types table.nodes) (length decls.types) (Reaches s.types s.program.items)
acyclic text s decls table checked = record { below = below; at_once = edge; joined = reach_on s.types s.program.items; never = never }
  where
    found : (d : ℕ) (t : Tree) → bodies decls.types table.nodes d ≡ Some t → Comes s.types (declarations s.program.items) d t
    found d t e = comes s.types (declarations s.program.items) decls.types table.nodes checked.declares d t e

    below : (d : ℕ) (t : Tree) → bodies decls.types table.nodes d ≡ Some t → d < length decls.types
    below d t e = let a : Aliased decls.types table.nodes d t = aliased decls.types table.nodes d t e in slice_get_within decls.types d a.info a.stands

    edge : (d e : ℕ) (t : Tree) → bodies decls.types table.nodes d ≡ Some t → IsIn e (numbers t) → Reaches s.types s.program.items d e
    edge d e t b i =
        let c : Comes s.types (declarations s.program.items) d t = found d t b in
        let m : IsMentioned s.types (mentions c.ty) e = written_mentions s.types c.ty e (subst (λ z. IsIn e (numbers z)) (sym c.writes) i) in
        let stands : IsIn (Named m.id m.whole m.arguments) (body_mentions c.declaration.body) = subst (λ z. IsIn (Named m.id m.whole m.arguments) (body_mentions z)) (sym c.body) m.stands in
        at_once d e (record {
          place = c.place;
          declaration = c.declaration;
          id = m.id;
          whole = m.whole;
          arguments = m.arguments;
          number = c.number;
          declared = c.stands;
          is_abbreviation = ap abbreviates c.body;
          stands = stands;
          names = m.names;
        })

    never : (d : ℕ) (t : Tree) → bodies decls.types table.nodes d ≡ Some t → Reaches s.types s.program.items d d → ⊥
    never d t b r =
        let c : Comes s.types (declarations s.program.items) d t = found d t b in
        let itself : Reaches s.types s.program.items (c.place + 7) (c.place + 7) = subst (λ z. Reaches s.types s.program.items z z) c.number r in
        checked.sound (record { rule = CyclicAbbreviation; span = c.declaration.name }) (record { place = c.place; declaration = c.declaration; declared = c.stands; at_name = refl; itself = itself })

pub reads_declared : (text : List ℕ) (s : Scoped) (decls : Decls) (table : TyTable) → IsChecked text s decls table → Reads decls.types table.nodes (declared_types decls.types table.nodes)
reads_declared text s decls table checked = readings decls.types table.nodes checked.declares.before full stable
  where
    written_bodies : ℕ → Option Tree
    written_bodies = bodies decls.types table.nodes

    full : ℕ → Option Tree
    full = layers written_bodies (length decls.types)

    stable : (d : ℕ) → full d ≡ option_map (expand full) (written_bodies d)
    stable d = layers-stable written_bodies (length decls.types) d (all_shallow written_bodies (length decls.types) (Reaches s.types s.program.items) (acyclic text s decls table checked) d)
