-- Walks that declare types.
use Rattle.std.proofs.Common.{◌≡◌, ℕ, ◌<◌, ◌⊎◌, List, [], ◌∷◌, length, map, Option, Some, None, get_or, refl, sym, ap, ◌∙◌, subst, inl, inr, arith}
use Rattle.std.specs.List.{slice_get}
use Rattle.std.proofs.lemmas.Bool.{cases_eq}
use Rattle.ml_types.specs.declared.node.TyId.{TyId}
use Rattle.ml_types.specs.declared.node.TyNode.{TyNode}
use Rattle.ml_types.specs.declared.declared.DeclInfo.{DeclInfo}
use Rattle.ml_types.specs.Types.{parts_of, Tree, Leaf, Node, Trees, Nil, Cons}
use Rattle.ml_typing.specs.declared.equation.Unknown.{Unknown}
use Rattle.ml_typing.specs.declared.equation.Unknown.TheVariants.{Fresh}
use Rattle.ml_typing.specs.Terms.{Shape, at_fresh}
use Rattle.ml_typing.specs.Typing.{Reads, abbreviated, at_types, tree_at}
use Rattle.hm_unify.specs.Solutions.{Bound, node_at, Solves, Stands}
use Rattle.hm_unify.specs.States.{IsSound}
use Rattle.hm_terms.specs.Stores.{Store, Reaches, IsOwn, IsClosed, IsReady, Grows, Knows, Declares}
use Rattle.hm_terms.specs.Shapes.{Holds}
use Rattle.hm_terms.proofs.Growth.{grows_same, grows_then}
use Rattle.hm_terms.proofs.Holding.{knows_lowers}
use Rattle.hm_infer.specs.Declaring.{IsBare, AreDeclared, IsBuilt, AreNamed, AllNamed, Expands, AreExpanded, Finds, DeclaresMore}
use Rattle.hm_infer.proofs.Declaring.{expanded_grows, expands_stands}

-- ---- no type yet, and types one after the other

pub declares_none : (decls : List DeclInfo) (nodes : List TyNode) (s : Store) → DeclaresMore decls nodes s s
declares_none decls nodes s = λ first declared r k. k

pub declares_then : (decls : List DeclInfo) (nodes : List TyNode) (a b c : Store) → DeclaresMore decls nodes a b → DeclaresMore decls nodes b c → DeclaresMore decls nodes a c
declares_then decls nodes a b c f g = λ first declared r k. g first declared r (f first declared r k)

pub variables_none : (s : Store) → IsReady s → Grows s s
variables_none s r = grows_same s

pub variables_more : (a b c : Store) (u : Unknown) (id : TyId) → (IsReady a → Grows a b) → Knows b c u id → IsReady a → Grows a c
variables_more a b c u id g k r = grows_then a b c (g r) (knows_lowers b c u id ((g r).ready r) k).grows

-- ---- one type more

record SameNodes (old new : Store) : Type 0 where
  nodes : new.nodes ≡ old.nodes
  bound : new.bound ≡ old.bound
  ids : (u : Unknown) → new.ids u ≡ old.ids u
  mark : new.mark ≡ old.mark

-- what holds of the nodes and the map
carried : (old new : Store) → SameNodes old new → (P : List TyNode → Bound → Type 0) → P old.nodes old.bound → P new.nodes new.bound
carried old new e P h = subst (λ (ns : List TyNode). P ns new.bound) (sym e.nodes) (subst (P old.nodes) (sym e.bound) h)

carried_back : (old new : Store) → SameNodes old new → (P : List TyNode → Bound → Type 0) → P new.nodes new.bound → P old.nodes old.bound
carried_back old new e P h = subst (λ (ns : List TyNode). P ns old.bound) e.nodes (subst (P new.nodes) e.bound h)

own_same : (old new : Store) → SameNodes old new → (x : TyId) → IsOwn old x → IsOwn new x
own_same old new e x own = λ n r b. own n (carried_back old new e (λ ns m. Reaches ns m x n) r) (b.0, subst (λ m. b.0.0 < m) e.mark b.1, ap (λ (ns : List TyNode). node_at ns b.0) (sym e.nodes) ∙ b.2)

ready_same : (old new : Store) → SameNodes old new → IsReady old → IsReady new
ready_same old new e r = record {
  closed = carried old new e IsClosed r.closed;
  mark_within = omega (arith, r.mark_within, e.mark, ap length e.nodes);
  within = λ u x p. (let w = r.within u x (sym (e.ids u) ∙ p) in omega (arith, w, ap length e.nodes));
  own = λ u x p. own_same old new e x (r.own u x (sym (e.ids u) ∙ p));
}

holds_same : (old new : Store) → SameNodes old new → (h : Shape) (x : TyId) → Holds old h x → Holds new h x
holds_same old new e h x k = record {
  within = omega (arith, k.within, ap length e.nodes);
  of = λ t a r. k.of t a (record { solves = carried_back old new e (λ ns m. Solves ns m t) r.solves; reads = λ u y p. r.reads u y (e.ids u ∙ p) });
  known = λ u i. (let q = k.known u i in (q.0, e.ids u ∙ q.1));
  own = own_same old new e x k.own;
}

mutual
  named_same : (old new : Store) → SameNodes old new → (w : Tree) → AreNamed old w → AreNamed new w
  named_same old new e (Leaf n) k = (k.0, e.ids (Fresh 0 n) ∙ k.1, carried old new e (λ ns m. Stands ns m k.0 (Leaf n)) k.2)
  named_same old new e (Node h ts) k = all_named_same old new e ts k

  all_named_same : (old new : Store) → SameNodes old new → (ts : Trees) → AllNamed old ts → AllNamed new ts
  all_named_same old new e Nil k = tt
  all_named_same old new e (Cons t ts) k = (named_same old new e t k.0, all_named_same old new e ts k.1)

expands_same : (old new : Store) → SameNodes old new → (w : Tree) (y : TyId) → Expands old w y → Expands new w y
expands_same old new e w y k = record { holds = holds_same old new e (at_fresh 0 w) y k.holds; named = named_same old new e w k.named }

id_is : (x y : TyId) → x.0 ≡ y.0 → x ≡ y
id_is x y e = ap (λ (n : ℕ). let z : TyId = record { 0 = n } in z) e

declared_next : (first mid new : Store) (declared : TyId → Tree) (ty id : TyId) → AreExpanded first mid declared → Expands mid (declared ty) id → Declares mid new ty.0 id → AreExpanded first new declared
declared_next first mid new declared ty id k one d = record {
  ready = ready_same mid new e k.ready;
  free = λ n. ap (λ (m : Bound). get_or m n None) d.bound ∙ k.free n;
  each = λ x y p. by x y p (cases_eq x.0 ty.0);
  schemes = λ b. d.schemes b ∙ k.schemes b;
  operations = d.operations ∙ k.operations;
}
  where
    e : SameNodes mid new
    e = record { nodes = d.nodes; bound = d.bound; ids = d.ids; mark = d.mark }

    by : (x y : TyId) → new.declared x.0 ≡ Some y → (x.0 ≡ ty.0) ⊎ (x.0 ≡ ty.0 → ⊥) → Expands new (declared x) y
    by x y p (inl same) =
        let there : Some id ≡ Some y = sym d.there ∙ ap new.declared (sym same) ∙ p in
        let is : id ≡ y = cc in
        let type_is : declared ty ≡ declared x = ap declared (id_is ty x (sym same)) in
        subst (Expands new (declared x)) is (subst (λ (w : Tree). Expands new w id) type_is (expands_same mid new e (declared ty) id one))
    by x y p (inr other) = expands_same mid new e (declared x) y (k.each x y (sym (d.others x.0 other) ∙ p))

pub declares_found : (decls : List DeclInfo) (nodes : List TyNode) (old mid new : Store) (ty id : TyId) → ((declared : TyId → Tree) → Reads decls nodes declared → Finds old mid declared (declared ty) (Some id)) → Declares mid new ty.0 id → DeclaresMore decls nodes old new
declares_found decls nodes old mid new ty id f d = λ first declared r k. (let g = f declared r first k in declared_next first mid new declared ty id g.0 g.1 d)

pub declares_any : (decls : List DeclInfo) (nodes : List TyNode) (old mid : Store) (ty : TyId) (o : Option TyId) → ((declared : TyId → Tree) → Reads decls nodes declared → Finds old mid declared (declared ty) o) → DeclaresMore decls nodes old mid
declares_any decls nodes old mid ty o f = λ first declared r k. (f declared r first k).0

-- ---- the id of a declared type

pub found_nothing : (decls : List DeclInfo) (nodes : List TyNode) (s : Store) (ty : TyId) → (declared : TyId → Tree) → Reads decls nodes declared → Finds s s declared (declared ty) None
found_nothing decls nodes s ty = λ declared r first k. (k, tt)

body_is : (decls : List DeclInfo) (nodes : List TyNode) (declared : TyId → Tree) (ty body : TyId) (node : TyNode) → Reads decls nodes declared → slice_get nodes ty.0 ≡ Some node → abbreviated decls node ≡ Some body → declared ty ≡ at_types (tree_at (map declared (parts_of node))) (declared body)
body_is decls nodes declared ty body node r at is = r.expanded ty node body at is

-- an abbreviation
pub found_body : (decls : List DeclInfo) (nodes : List TyNode) (old new : Store) (ty body : TyId) (node : TyNode) (o : Option TyId) → slice_get nodes ty.0 ≡ Some node → abbreviated decls node ≡ Some body → ((declared : TyId → Tree) → Finds old new declared (at_types (tree_at (map declared (parts_of node))) (declared body)) o) → (declared : TyId → Tree) → Reads decls nodes declared → Finds old new declared (declared ty) o
found_body decls nodes old new ty body node o at is f declared r =
    subst (λ (w : Tree). Finds old new declared w o) (sym (body_is decls nodes declared ty body node r at is)) (f declared)

-- another node
pub found_built : (decls : List DeclInfo) (nodes : List TyNode) (old new : Store) (ty : TyId) (node : TyNode) (o : Option TyId) → slice_get nodes ty.0 ≡ Some node → abbreviated decls node ≡ None → ((declared : TyId → Tree) (w : Tree) → IsBuilt declared node w → Finds old new declared w o) → (declared : TyId → Tree) → Reads decls nodes declared → Finds old new declared (declared ty) o
found_built decls nodes old new ty node o at is f declared r =
    f declared (declared ty) (record {
      made = λ h e. r.made ty node h at e is;
      variable = λ v e. r.variable ty v (at ∙ ap Some e);
    })

-- ---- all types

bare_ready : (s : Store) → IsBare s → IsReady s
bare_ready s b = record {
  closed = record {
    parts_in = λ x n i p at q. absurd (let e : None ≡ Some n = ap (λ (ns : List TyNode). node_at ns x) (sym b.nodes) ∙ at in cc);
    targets_in = λ n y e. absurd (let q : None ≡ Some y = sym (b.bound n) ∙ e in cc);
  };
  mark_within = omega (arith, b.mark);
  within = λ u x p. absurd (let q : None ≡ Some x = sym (b.ids u) ∙ p in cc);
  own = λ u x p. absurd (let q : None ≡ Some x = sym (b.ids u) ∙ p in cc);
}

bare_expanded : (s : Store) (declared : TyId → Tree) → IsBare s → AreExpanded s s declared
bare_expanded s declared b = record {
  ready = bare_ready s b;
  free = b.bound;
  each = λ x y p. absurd (let q : None ≡ Some y = sym (b.declared x.0) ∙ p in cc);
  schemes = λ n. refl;
  operations = refl;
}

pub all_declared : (decls : List DeclInfo) (nodes : List TyNode) (first mid new : Store) → (IsReady first → Grows first mid) → DeclaresMore decls nodes mid new → IsSound new.nodes new.bound → IsBare first → (declared : TyId → Tree) → Reads decls nodes declared → AreDeclared first new declared
all_declared decls nodes first mid new g f sound b declared r = record {
  ready = k.ready;
  free = k.free;
  stand = λ x y p. expands_stands new k.ready sound (declared x) y (k.each x y p);
  schemes = k.schemes;
  operations = k.operations;
}
  where
    k : AreExpanded first new declared
    k = f first declared r (expanded_grows first first mid declared (g (bare_ready first b)) (bare_expanded first declared b))
