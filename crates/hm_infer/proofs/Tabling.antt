-- What stands at an id under bindings stands there in their table without any.
use Rattle.std.proofs.Common.{◌≡◌, ◌⊎◌, inl, inr, length-append, ℕ, ◌+◌, ◌<◌, List, [], ◌∷◌, ◌++◌, length, Option, Some, None, get_or, sym, ap, ◌∙◌, subst, arith}
use Rattle.std.specs.List.{slice_get}
use Rattle.std.specs.Option.{option_and_then}
use Rattle.std.proofs.lemmas.Option.{slice_get_within}
use Rattle.ml_types.specs.declared.node.TyId.{TyId}
use Rattle.ml_types.specs.declared.node.TyNode.{TyNode}
use Rattle.ml_types.specs.declared.node.TyNode.TheVariants.{Var, Con, Tuple, Arrow}
use Rattle.ml_types.specs.declared.node.Scheme.{Scheme}
use Rattle.ml_types.specs.declared.node.TyTable.{TyTable}
use Rattle.ml_types.specs.Types.{parts_of, Tree, Trees}
use Rattle.hm_unify.specs.Solutions.{Bound, node_at, number_at, variable_of, link, Ends, here, there, Stands, variable, built, StandAll, none, more}
use Rattle.hm_unify.specs.States.{State, IsHead, IsTableOf}
use Rattle.hm_unify.proofs.Ends.{Ends-unique, link-number, number-var}
use Rattle.hm_terms.specs.Stores.{Store, state}
use Rattle.hm_terms.specs.Contexts.{ShowsAny}
use Rattle.hm_infer.proofs.Lists.{within_at, at_pushed}
use Rattle.hm_infer.specs.Tables.{AreNoted, AreSlotsBelow, IsScheme, Collects, none_yet, no_name, a_name, Fills}

-- with no bindings an id ends at itself
no_link : (nodes : List TyNode) (x : TyId) (o : Option TyNode) → node_at nodes x ≡ o → link nodes [] x ≡ None
no_link nodes x None e = ap (λ (o : Option TyNode). option_and_then (λ n. None) (option_and_then variable_of o)) e
no_link nodes x (Some (Var n)) e = ap (λ (o : Option TyNode). option_and_then (λ n. None) (option_and_then variable_of o)) e
no_link nodes x (Some (Con d args)) e = ap (λ (o : Option TyNode). option_and_then (λ n. None) (option_and_then variable_of o)) e
no_link nodes x (Some (Tuple ps)) e = ap (λ (o : Option TyNode). option_and_then (λ n. None) (option_and_then variable_of o)) e
no_link nodes x (Some (Arrow slot a b)) e = ap (λ (o : Option TyNode). option_and_then (λ n. None) (option_and_then variable_of o)) e

abbrev bindings : List TyNode → Bound → State
bindings nodes bound = record { nodes = nodes; bound = bound }

linked_in : (nodes : List TyNode) (bound : Bound) (x y : TyId) → link nodes bound x ≡ Some y → x.0 < length nodes
linked_in nodes bound x y p = by (link-number nodes bound x y p)
  where
    by : (n : ℕ) × (number_at nodes x ≡ Some n) × (get_or bound n None ≡ Some y) → x.0 < length nodes
    by (n, q, h) = slice_get_within nodes x.0 (Var n) (number-var nodes x n q)

-- an id that stands for something lies in the table
ends_in : (nodes : List TyNode) (bound : Bound) (x e : TyId) (n : TyNode) → Ends nodes bound x e → node_at nodes e ≡ Some n → x.0 < length nodes
ends_in nodes bound x e n (here w p) at = slice_get_within nodes w.0 n at
ends_in nodes bound x e n (there w y g p q) at = linked_in nodes bound w y p

-- the node at an id of the table is the one at its end
at_end : (nodes : List TyNode) (bound : Bound) (table : List TyNode) → IsTableOf (bindings nodes bound) table → (x e : TyId) (n : TyNode) → Ends nodes bound x e → node_at nodes e ≡ Some n → node_at table x ≡ Some n
at_end nodes bound table k x e n ends at = by (within_at table x.0 (let h = ends_in nodes bound x e n ends at in omega (arith, h, k.count)))
  where
    by : (m : TyNode) × (slice_get table x.0 ≡ Some m) → node_at table x ≡ Some n
    by (m, p) =
        let h : IsHead (bindings nodes bound) x m = k.heads x m p in
        let one : h.0 ≡ e = Ends-unique nodes bound x h.0 e h.1 ends in
        let q : Some m ≡ Some n = sym h.2 ∙ ap (node_at nodes) one ∙ at in
        p ∙ q

mutual
  stands_without : (nodes : List TyNode) (bound : Bound) (table : List TyNode) → IsTableOf (bindings nodes bound) table → (x : TyId) (w : Tree) → Stands nodes bound x w → Stands table [] x w
  stands_without nodes bound table k x w (variable y e n ends at) =
      let p = at_end nodes bound table k y e (Var n) ends at in
      variable y y n (here y (no_link table y (Some (Var n)) p)) p
  stands_without nodes bound table k x w (built y e n h ts ends at head all) =
      let p = at_end nodes bound table k y e n ends at in
      built y y n h ts (here y (no_link table y (Some n) p)) p head (all_stand_without nodes bound table k (parts_of n) ts all)

  all_stand_without : (nodes : List TyNode) (bound : Bound) (table : List TyNode) → IsTableOf (bindings nodes bound) table → (xs : List TyId) (ts : Trees) → StandAll nodes bound xs ts → StandAll table [] xs ts
  all_stand_without nodes bound table k xs ts none = none
  all_stand_without nodes bound table k xs ts (more x ys t us one all) =
      more x ys t us (stands_without nodes bound table k x t one) (all_stand_without nodes bound table k ys us all)

pub stands_in_table : (s : Store) (table : List TyNode) → IsTableOf (state s) table → (x : TyId) (w : Tree) → Stands s.nodes s.bound x w → Stands table [] x w
stands_in_table s table k x w one = stands_without s.nodes s.bound table (record { count = k.count; heads = k.heads }) x w one

pub collects_in_table : (s : Store) (table : List TyNode) → IsTableOf (state s) table → (named : ℕ → Option Tree) (n : ℕ) (ss : List Scheme) → Collects s.nodes s.bound named n ss → Collects table [] named n ss
collects_in_table s table k named n ss none_yet = none_yet
collects_in_table s table k named n ss (no_name m ts e c) = no_name m ts e (collects_in_table s table k named m ts c)
collects_in_table s table k named n ss (a_name m w t ts e i c) =
    a_name m w t ts e (stands_in_table s table k t.ty w i.0, i.1) (collects_in_table s table k named m ts c)

-- one node more
pub noted_next : (nodes : ℕ → Option TyId) (n : ℕ) (ids : List TyId) (x : TyId) → AreNoted nodes n ids → nodes n ≡ Some x → AreNoted nodes (n + 1) (ids ++ x ∷ [])
noted_next nodes n ids x k e = record {
  node_count = length-append ids (x ∷ []) ∙ ap (λ i. i + 1) k.node_count;
  each = λ i y p. by i y p (at_pushed ids x i y p);
}
  where
    by : (i : ℕ) (y : TyId) → slice_get (ids ++ x ∷ []) i ≡ Some y → (slice_get ids i ≡ Some y) ⊎ ((i ≡ length ids) × (x ≡ y)) → nodes i ≡ Some y
    by i y p (inl q) = k.each i y q
    by i y p (inr q) = ap nodes (q.0 ∙ k.node_count) ∙ e ∙ ap Some q.1

-- a name without a scheme
pub skips : (s : Store) (named : ℕ → Option Tree) (n : ℕ) (ss : List Scheme) → s.schemes n ≡ None → ((b : ℕ) → ShowsAny s (s.schemes b) (named b)) → Collects s.nodes s.bound named n ss → Collects s.nodes s.bound named (n + 1) ss
skips s named n ss e shows c = no_name n ss (subst (λ (o : Option TyId). ShowsAny s o (named n)) e (shows n)) c

-- a name with one
pub pushes : (s : Store) (named : ℕ → Option Tree) (n : ℕ) (ty : TyId) (t : Scheme) (ss : List Scheme) → s.schemes n ≡ Some ty → ((w : Tree) → Stands s.nodes s.bound ty w → IsScheme ty w t) → ((b : ℕ) → ShowsAny s (s.schemes b) (named b)) → Collects s.nodes s.bound named n ss → Collects s.nodes s.bound named (n + 1) (ss ++ t ∷ [])
pushes s named n ty t ss e scheme shows c =
    let shown : ShowsAny s (Some ty) (named n) = subst (λ (o : Option TyId). ShowsAny s o (named n)) e (shows n) in
    let is : IsScheme ty shown.0 t = scheme shown.0 shown.2.stands in
    a_name n shown.0 t ss shown.1 (subst (λ (x : TyId). Stands s.nodes s.bound x shown.0) (sym is.ty_is) shown.2.stands, is.vars_are) c

-- the nodes of the table
pub fills : (s : Store) (table : TyTable) (nodes : ℕ → Option TyId) (noted named : ℕ → Option Tree) (count : ℕ) (ids : List TyId) (ss : List Scheme) (slots : ℕ) → IsTableOf (state s) table.nodes → AreNoted nodes count ids → Collects s.nodes s.bound named count ss → AreSlotsBelow table.nodes slots → ((n : ℕ) → ShowsAny s (nodes n) (noted n)) → Fills noted named count (record { table = table; node = ids; schemes = ss; slots = slots })
fills s table nodes noted named count ids ss slots k a c below shows = record {
  node_count = a.node_count;
  nodes = λ n x p. at_node n x p (subst (λ (o : Option TyId). ShowsAny s o (noted n)) (a.each n x p) (shows n));
  schemes = collects_in_table s table.nodes k named count ss c;
  slots = below;
}
  where
    at_node : (n : ℕ) (x : TyId) → slice_get ids n ≡ Some x → ShowsAny s (Some x) (noted n) → (w : Tree) × (noted n ≡ Some w) × Stands table.nodes [] x w
    at_node n x p shown = (shown.0, shown.1, stands_in_table s table.nodes k x shown.0 shown.2.stands)
