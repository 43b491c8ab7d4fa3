-- The solver before the first item: no variable is bound, the ids of the table stand for the declared
-- types, and each operation has its type.
use Rattle.std.proofs.Common.{◌≡◌, ℕ, zero, suc, List, [], ◌∷◌, ◌++◌, length, Option, Some, None, get_or, refl, sym, ap, ◌∙◌, subst, arith, append_assoc}
use Rattle.std.specs.List.{slice_get}
use Rattle.std.specs.Option.{option_and_then}
use Rattle.std.proofs.lemmas.List.{append-nil}
use Rattle.ml_types.specs.declared.node.TyId.{TyId}
use Rattle.ml_types.specs.declared.node.TyNode.{TyNode}
use Rattle.ml_types.specs.declared.node.TyNode.TheVariants.{Var, Con, Arrow}
use Rattle.ml_types.specs.Types.{ConHead, ArrowHead, Tree, Leaf, Nil, Cons}
use Rattle.ml_types.specs.declared.declared.DeclInfo.{DeclInfo}
use Rattle.ml_typing.specs.declared.equation.Unknown.{Unknown}
use Rattle.ml_tree.specs.declared.reference.Op.{Op}
use Rattle.ml_tree.specs.declared.reference.Op.TheVariants.{PrintString, PrintInt, PrintChar, PrerrString, StringOfInt, IntOfChar, CharOfInt, StringLength, StringGet, Exit, Failwith}
use Rattle.ml_typing.specs.Typing.{plain_type, arrow_type, operation_type, first_context}
use Rattle.hm_unify.specs.Solutions.{Bound, node_at, number_at, link, here, Stands, variable, built, none, more}
use Rattle.hm_unify.specs.States.{IsTable, IsNew}
use Rattle.hm_unify.proofs.Ends.{link-number}
use Rattle.hm_terms.specs.Stores.{Store, state, AddsNode, AddsOperation, IsClosed, Forgets}
use Rattle.hm_terms.specs.Contexts.{Shows, ShowsAny, op_place, IsRead}
use Rattle.hm_terms.proofs.Growth.{Longer, stands_grow, stands_within}
use Rattle.hm_terms.proofs.Pushes.{closed_push}
use Rattle.hm_terms.proofs.Holding.{added_at}
use Rattle.hm_infer.specs.declared.operations.Basic.{Basic}
use Rattle.hm_infer.specs.Declaring.{IsBare, AreDeclared}
use Rattle.hm_infer.specs.Starts.{AddsFunction, IsFirst, AllStand, HaveTypes, AreBasic, operation_types}

-- ---- where no variable is bound

free_link_by : (m : Bound) (o : Option ℕ) → ((n : ℕ) → get_or m n None ≡ None) → option_and_then (λ n. get_or m n None) o ≡ None
free_link_by m None f = refl
free_link_by m (Some n) f = f n

free_link : (nodes : List TyNode) (m : Bound) → ((n : ℕ) → get_or m n None ≡ None) → (x : TyId) → link nodes m x ≡ None
free_link nodes m f x = free_link_by m (number_at nodes x) f

-- ---- the types of operations

pub have_none : (s : Store) → IsFirst s → HaveTypes s s []
have_none s f = record {
  more = [];
  nodes = sym (append-nil s.nodes);
  closed = f.closed;
  free = f.free;
  schemes = λ b. refl;
  declared = λ n. refl;
  mark = refl;
  typed = subst (λ (xs : List TyId). AllStand s xs []) (sym f.no_operations) tt;
}

stands_node : (s new : Store) (n : TyNode) (id : TyId) → IsClosed s.nodes s.bound → AddsNode s new n id → (x : TyId) (w : Tree) → Stands s.nodes s.bound x w → Stands new.nodes new.bound x w
stands_node s new n id k a x w h =
    let l : Longer s new = record { tail = n ∷ []; nodes = a.adds.nodes; bound = a.adds.bound; mark = a.names.mark } in
    stands_grow s new l k x w h

stand_node : (s new : Store) (n : TyNode) (id : TyId) → IsClosed s.nodes s.bound → AddsNode s new n id → (xs : List TyId) (ws : List Tree) → AllStand s xs ws → AllStand new xs ws
stand_node s new n id k a [] [] h = tt
stand_node s new n id k a [] (w ∷ ws) h = absurd h
stand_node s new n id k a (x ∷ xs) [] h = absurd h
stand_node s new n id k a (x ∷ xs) (w ∷ ws) h = (stands_node s new n id k a x w h.0, stand_node s new n id k a xs ws h.1)

pub have_node : (first s new : Store) (n : TyNode) (id : TyId) (ws : List Tree) → HaveTypes first s ws → AddsNode s new n id → HaveTypes first new ws
have_node first s new n id ws h a = record {
  more = h.more ++ n ∷ [];
  nodes = a.adds.nodes ∙ ap (λ (ns : List TyNode). ns ++ n ∷ []) h.nodes ∙ append_assoc first.nodes h.more (n ∷ []);
  closed = closed_push s.nodes s.bound new.nodes new.bound n h.closed a.adds.nodes a.adds.bound a.within;
  free = λ i. a.adds.bound i ∙ h.free i;
  schemes = λ b. a.names.schemes b ∙ h.schemes b;
  declared = λ n. a.names.declared n ∙ h.declared n;
  mark = a.names.mark ∙ h.mark;
  typed = subst (λ (xs : List TyId). AllStand new xs ws) (sym a.names.operations) (stand_node s new n id h.closed a s.operations ws h.typed);
}

stands_operation : (s new : Store) (id : TyId) → AddsOperation s new id → (x : TyId) (w : Tree) → Stands s.nodes s.bound x w → Stands new.nodes new.bound x w
stands_operation s new id a x w h =
    subst (λ (ns : List TyNode). Stands ns new.bound x w) (sym a.nodes) (subst (λ (m : Bound). Stands s.nodes m x w) (sym a.bound) h)

stand_push : (s new : Store) (id : TyId) (v : Tree) → AddsOperation s new id → Stands s.nodes s.bound id v → (xs : List TyId) (ws : List Tree) → AllStand s xs ws → AllStand new (xs ++ id ∷ []) (ws ++ v ∷ [])
stand_push s new id v a one [] [] h = (stands_operation s new id a id v one, tt)
stand_push s new id v a one [] (w ∷ ws) h = absurd h
stand_push s new id v a one (x ∷ xs) [] h = absurd h
stand_push s new id v a one (x ∷ xs) (w ∷ ws) h = (stands_operation s new id a x w h.0, stand_push s new id v a one xs ws h.1)

have_operation : (first s new : Store) (id : TyId) (v : Tree) (ws : List Tree) → HaveTypes first s ws → AddsOperation s new id → Stands s.nodes s.bound id v → HaveTypes first new (ws ++ v ∷ [])
have_operation first s new id v ws h a one = record {
  more = h.more;
  nodes = a.nodes ∙ h.nodes;
  closed = subst (λ (ns : List TyNode). IsClosed ns new.bound) (sym a.nodes) (subst (IsClosed s.nodes) (sym a.bound) h.closed);
  free = λ i. ap (λ (m : Bound). get_or m i None) a.bound ∙ h.free i;
  schemes = λ b. a.schemes b ∙ h.schemes b;
  declared = λ n. a.declared n ∙ h.declared n;
  mark = a.mark ∙ h.mark;
  typed = subst (λ (xs : List TyId). AllStand new xs (ws ++ v ∷ [])) (sym a.operations) (stand_push s new id v a one s.operations ws h.typed);
}

stands_plain : (s new : Store) (d : ℕ) (id : TyId) → ((n : ℕ) → get_or new.bound n None ≡ None) → AddsNode s new (Con d []) id → Stands new.nodes new.bound id (plain_type d)
stands_plain s new d id free a = built id id (Con d []) (ConHead d 0) Nil (here id (free_link new.nodes new.bound free id)) (added_at s new (Con d []) id a) refl none

stands_any : (s new : Store) (id : TyId) → ((n : ℕ) → get_or new.bound n None ≡ None) → AddsNode s new (Var 0) id → Stands new.nodes new.bound id (Leaf 0)
stands_any s new id free a = variable id id 0 (here id (free_link new.nodes new.bound free id)) (added_at s new (Var 0) id a)

pub stands_arrow : (first s new : Store) (ws : List Tree) (slot : ℕ) (from to id : TyId) (v w : Tree) → HaveTypes first s ws → AddsNode s new (Arrow slot from to) id → Stands s.nodes s.bound from v → Stands s.nodes s.bound to w → Stands new.nodes new.bound id (arrow_type v w)
stands_arrow first s new ws slot from to id v w h a one other =
    let n = have_node first s new (Arrow slot from to) id ws h a in
    built id id (Arrow slot from to) ArrowHead (Cons v (Cons w Nil)) (here id (free_link new.nodes new.bound n.free id)) (added_at s new (Arrow slot from to) id a) refl
    (more from (to ∷ []) v (Cons w Nil) (stands_node s new (Arrow slot from to) id h.closed a from v one) (more to [] w Nil (stands_node s new (Arrow slot from to) id h.closed a to w other) none))

pub have_function : (first s new : Store) (from to : TyId) (v w : Tree) (ws : List Tree) → HaveTypes first s ws → AddsFunction s new from to → Stands s.nodes s.bound from v → Stands s.nodes s.bound to w → HaveTypes first new (ws ++ arrow_type v w ∷ [])
have_function first s new from to v w ws h a one other =
    let m = have_node first s a.middle (Arrow a.slot from to) a.id ws h a.node in
    have_operation first a.middle new a.id (arrow_type v w) ws m a.operation (stands_arrow first s a.middle ws a.slot from to a.id v w h a.node one other)

pub basic_node : (first s new : Store) (n : TyNode) (id : TyId) (ws : List Tree) (b : Basic) → HaveTypes first s ws → AddsNode s new n id → AreBasic s b → AreBasic new b
basic_node first s new n id ws b h a k = record {
  int = stands_node s new n id h.closed a b.int (plain_type 0) k.int;
  char = stands_node s new n id h.closed a b.char (plain_type 1) k.char;
  string = stands_node s new n id h.closed a b.string (plain_type 2) k.string;
  unit = stands_node s new n id h.closed a b.unit (plain_type 4) k.unit;
  any = stands_node s new n id h.closed a b.any (Leaf 0) k.any;
}

pub basic_function : (first s new : Store) (from to : TyId) (ws : List Tree) (b : Basic) → HaveTypes first s ws → AddsFunction s new from to → AreBasic s b → AreBasic new b
basic_function first s new from to ws b h a k =
    let m = basic_node first s a.middle (Arrow a.slot from to) a.id ws b h a.node k in
    record {
      int = stands_operation a.middle new a.id a.operation b.int (plain_type 0) m.int;
      char = stands_operation a.middle new a.id a.operation b.char (plain_type 1) m.char;
      string = stands_operation a.middle new a.id a.operation b.string (plain_type 2) m.string;
      unit = stands_operation a.middle new a.id a.operation b.unit (plain_type 4) m.unit;
      any = stands_operation a.middle new a.id a.operation b.any (Leaf 0) m.any;
    }

-- the basic types, one after the other
pub basic_stand : (s0 s1 s2 s3 s4 s5 : Store) (b : Basic) → IsFirst s0 → AddsNode s0 s1 (Con 0 []) b.int → AddsNode s1 s2 (Con 1 []) b.char → AddsNode s2 s3 (Con 2 []) b.string → AddsNode s3 s4 (Con 4 []) b.unit → AddsNode s4 s5 (Var 0) b.any → HaveTypes s0 s5 [] × AreBasic s5 b
basic_stand s0 s1 s2 s3 s4 s5 b first a1 a2 a3 a4 a5 = (
  h5,
  record {
    int = stands_node s4 s5 (Var 0) b.any h4.closed a5 b.int (plain_type 0) (stands_node s3 s4 (Con 4 []) b.unit h3.closed a4 b.int (plain_type 0) (stands_node s2 s3 (Con 2 []) b.string h2.closed a3 b.int (plain_type 0) (stands_node s1 s2 (Con 1 []) b.char h1.closed a2 b.int (plain_type 0) (stands_plain s0 s1 0 b.int h1.free a1))));
    char = stands_node s4 s5 (Var 0) b.any h4.closed a5 b.char (plain_type 1) (stands_node s3 s4 (Con 4 []) b.unit h3.closed a4 b.char (plain_type 1) (stands_node s2 s3 (Con 2 []) b.string h2.closed a3 b.char (plain_type 1) (stands_plain s1 s2 1 b.char h2.free a2)));
    string = stands_node s4 s5 (Var 0) b.any h4.closed a5 b.string (plain_type 2) (stands_node s3 s4 (Con 4 []) b.unit h3.closed a4 b.string (plain_type 2) (stands_plain s2 s3 2 b.string h3.free a3));
    unit = stands_node s4 s5 (Var 0) b.any h4.closed a5 b.unit (plain_type 4) (stands_plain s3 s4 4 b.unit h4.free a4);
    any = stands_any s4 s5 b.any h5.free a5;
  },
)
  where
    h1 : HaveTypes s0 s1 []
    h1 = have_node s0 s0 s1 (Con 0 []) b.int [] (have_none s0 first) a1

    h2 : HaveTypes s0 s2 []
    h2 = have_node s0 s1 s2 (Con 1 []) b.char [] h1 a2

    h3 : HaveTypes s0 s3 []
    h3 = have_node s0 s2 s3 (Con 2 []) b.string [] h2 a3

    h4 : HaveTypes s0 s4 []
    h4 = have_node s0 s3 s4 (Con 4 []) b.unit [] h3 a4

    h5 : HaveTypes s0 s5 []
    h5 = have_node s0 s4 s5 (Var 0) b.any [] h4 a5

-- the basic types, and the operations that have types
pub record Made (first s : Store) (b : Basic) (types : List Tree) : Type 0 where
  pub have : HaveTypes first s types
  pub basic : AreBasic s b

pub made_function : {first s new : Store} {b : Basic} {from to : TyId} {v w : Tree} {ws : List Tree} → Made first s b ws → AddsFunction s new from to → Stands s.nodes s.bound from v → Stands s.nodes s.bound to w → Made first new b (ws ++ arrow_type v w ∷ [])
made_function {first = first} {s = s} {new = new} {b = b} {from = from} {to = to} {v = v} {w = w} {ws = ws} m a one other = record {
  have = have_function first s new from to v w ws m.have a one other;
  basic = basic_function first s new from to ws b m.have a m.basic;
}

pub made_node : {first s new : Store} {b : Basic} {n : TyNode} {id : TyId} {ws : List Tree} → Made first s b ws → AddsNode s new n id → Made first new b ws
made_node {first = first} {s = s} {new = new} {b = b} {n = n} {id = id} {ws = ws} m a = record {
  have = have_node first s new n id ws m.have a;
  basic = basic_node first s new n id ws b m.have a m.basic;
}

-- ---- what terms are read by before the first item

typed_at : (s : Store) (xs : List TyId) (ws : List Tree) → AllStand s xs ws → (k : ℕ) (x : TyId) (w : Tree) → slice_get xs k ≡ Some x → slice_get ws k ≡ Some w → Stands s.nodes s.bound x w
typed_at s [] [] h k x w p q = absurd (let e : None ≡ Some x = p in cc)
typed_at s [] (v ∷ ws) h k x w p q = absurd h
typed_at s (y ∷ xs) [] h k x w p q = absurd h
typed_at s (y ∷ xs) (v ∷ ws) h zero x w p q =
    let e : y ≡ x = cc in
    let f : v ≡ w = cc in
    subst (λ z. Stands s.nodes s.bound z w) e (subst (Stands s.nodes s.bound y) f h.0)
typed_at s (y ∷ xs) (v ∷ ws) h (suc k) x w p q = typed_at s xs ws h.1 k x w p q

operation_at : (op : Op) → slice_get operation_types (op_place op) ≡ Some (operation_type op)
operation_at PrintString = refl
operation_at PrintInt = refl
operation_at PrintChar = refl
operation_at PrerrString = refl
operation_at StringOfInt = refl
operation_at IntOfChar = refl
operation_at CharOfInt = refl
operation_at StringLength = refl
operation_at StringGet = refl
operation_at Exit = refl
operation_at Failwith = refl

-- a solver over no table is bare
pub new_bare : (table : List TyNode) (s : Store) → table ≡ [] → IsNew table (state s) → s.mark ≡ length table → ((u : Unknown) → s.ids u ≡ None) → ((b : ℕ) → s.schemes b ≡ None) → s.operations ≡ [] → ((n : ℕ) → s.declared n ≡ None) → IsBare s
new_bare table s e n mark ids schemes operations declared = record {
  nodes = n.nodes ∙ e;
  bound = n.free;
  ids = ids;
  schemes = schemes;
  operations = operations;
  declared = declared;
  mark = mark ∙ ap length e;
}

pub no_table : (nodes : List TyNode) → nodes ≡ [] → IsTable nodes
no_table nodes e = record {
  parts_in = λ x n i p at q. absurd (none x n at);
  height = λ x. 0;
  falls = λ x n i p at q. absurd (none x n at);
}
  where
    none : (x : TyId) (n : TyNode) → node_at nodes x ≡ Some n → ⊥
    none x n at = let q : None ≡ Some n = ap (λ (ns : List TyNode). node_at ns x) (sym e) ∙ at in cc

-- the operations are added where the declared types are from before
pub declared_first : (bare s first : Store) (declared : TyId → Tree) → IsBare bare → AreDeclared bare s declared → Forgets s first → IsFirst first
declared_first bare s first declared b d f = record {
  closed = subst (λ (ns : List TyNode). IsClosed ns first.bound) (sym f.nodes) (subst (IsClosed s.nodes) (sym f.bound) d.ready.closed);
  free = λ n. ap (λ (m : Bound). get_or m n None) f.bound ∙ d.free n;
  no_operations = f.operations ∙ d.operations ∙ b.operations;
}

pub first_read : (bare mid first s new : Store) (decls : List DeclInfo) (declared : TyId → Tree) → IsBare bare → AreDeclared bare mid declared → Forgets mid first → (IsFirst first → HaveTypes first s operation_types) → Forgets s new → IsRead new decls (first_context decls declared)
first_read bare mid first s new decls declared b d g types f = record {
  ready = record {
    closed = closed;
    mark_within = omega (arith, f.mark, ap length f.nodes);
    within = λ u x p. absurd (let q : None ≡ Some x = sym (f.none u) ∙ p in cc);
    own = λ u x p. absurd (let q : None ≡ Some x = sym (f.none u) ∙ p in cc);
  };
  decls_are = refl;
  declared = λ x y p. shows y (declared x) (declared_stands x y p);
  schemes = λ n. subst (λ (z : Option TyId). ShowsAny new z None) (sym (f.schemes n ∙ h.schemes n ∙ g.schemes n ∙ d.schemes n ∙ b.schemes n)) refl;
  operations = λ op x p. shows x (operation_type op) (typed_at s s.operations operation_types h.typed (op_place op) x (operation_type op) (ap (λ (xs : List TyId). slice_get xs (op_place op)) (sym f.operations) ∙ p) (operation_at op));
  closed_links = λ x y l e. (let i = link-number new.nodes new.bound x y e in let w = closed.targets_in i.0 y i.2 in omega (arith, w, f.mark, ap length f.nodes));
  closed_parts = λ x p m i l e q. (let w = closed.parts_in x m i p e q in omega (arith, w, f.mark, ap length f.nodes));
}
  where
    start : IsFirst first
    start = declared_first bare mid first declared b d g

    h : HaveTypes first s operation_types
    h = types start

    closed : IsClosed new.nodes new.bound
    closed = subst (λ (ns : List TyNode). IsClosed ns new.bound) (sym f.nodes) (subst (IsClosed s.nodes) (sym f.bound) h.closed)

    shows : (x : TyId) (w : Tree) → Stands s.nodes s.bound x w → Shows new x w
    shows x w e = record {
      before = (let i = stands_within s x w e in omega (arith, i, f.mark));
      stands = subst (λ (ns : List TyNode). Stands ns new.bound x w) (sym f.nodes) (subst (λ (m : Bound). Stands s.nodes m x w) (sym f.bound) e);
    }

    declared_stands : (x y : TyId) → new.declared x.0 ≡ Some y → Stands s.nodes s.bound y (declared x)
    declared_stands x y p =
        let l : Longer first s = record { tail = h.more; nodes = h.nodes; bound = λ j. h.free j ∙ sym (start.free j); mark = h.mark } in
        let there : mid.declared x.0 ≡ Some y = sym (f.declared x.0 ∙ h.declared x.0 ∙ g.declared x.0) ∙ p in
        let at : Stands first.nodes first.bound y (declared x) = subst (λ (ns : List TyNode). Stands ns first.bound y (declared x)) (sym g.nodes) (subst (λ (m : Bound). Stands mid.nodes m y (declared x)) (sym g.bound) (d.stand x y there)) in
        stands_grow first s l start.closed y (declared x) at
