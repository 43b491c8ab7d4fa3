-- What terms are read by, while the solver's unknowns are made equal and when they are forgotten.
use Rattle.std.proofs.Common.{◌≡◌, ℕ, ◌<◌, List, [], ◌∷◌, length, Option, Some, None, get_or, refl, sym, ap, ◌∙◌, subst, arith}
use Rattle.std.specs.List.{slice_get}
use Rattle.std.specs.Option.{option_and_then}
use Rattle.ml_types.specs.declared.node.TyId.{TyId}
use Rattle.ml_types.specs.declared.node.TyNode.{TyNode}
use Rattle.ml_types.specs.declared.node.TyNode.TheVariants.{Var, Con, Tuple, Arrow}
use Rattle.ml_types.specs.Types.{parts_of, Tree}
use Rattle.ml_types.specs.declared.declared.DeclInfo.{DeclInfo}
use Rattle.ml_typing.specs.declared.equation.Unknown.{Unknown}
use Rattle.ml_typing.specs.Terms.{Context}
use Rattle.ml_typing.specs.Typing.{Pair}
use Rattle.hm_unify.specs.Solutions.{Bound, Pairs, node_at, variable_of, link, here, there, Stands}
use Rattle.hm_unify.specs.States.{Equated}
use Rattle.hm_unify.proofs.Ends.{link-number}
use Rattle.hm_terms.specs.Stores.{Store, state, SameNames, IsClosed, Reaches, at_end, in_part, IsOwn, IsReady, Grows, Forgets}
use Rattle.hm_terms.specs.Contexts.{Shows, ShowsAny, op_place, IsRead}
use Rattle.hm_terms.proofs.Contexts as contexts
use Rattle.hm_infer.specs.Running.{HoldPairs, Keeps}
use Rattle.hm_infer.proofs.Stable.{SameBelow, stands_stays}
use Rattle.hm_infer.proofs.Apart.{IsApart, Stays, PairsOwn, apart_reaches, walk_pairs_stays}

pub read_grows : (old new : Store) (d : List DeclInfo) (c : Context) → IsRead old d c → Grows old new → IsRead new d c
read_grows old new d c k g = contexts.read_grows old new d c k g

-- a solver that shows what another did
shows_any : (old new : Store) → ((x : TyId) (w : Tree) → Shows old x w → Shows new x w) → (o : Option TyId) (w : Option Tree) → ShowsAny old o w → ShowsAny new o w
shows_any old new f None w k = k
shows_any old new f (Some x) w k = (k.0, k.1, f x k.0 k.2)

-- the ids from before an item, closed under links and parts
record IsClosedBelow (s : Store) : Type 0 where
  links : (x y : TyId) → x.0 < s.mark → link s.nodes s.bound x ≡ Some y → y.0 < s.mark
  parts : (x p : TyId) (n : TyNode) (i : ℕ) → x.0 < s.mark → node_at s.nodes x ≡ Some n → slice_get (parts_of n) i ≡ Some p → p.0 < s.mark

read_moves : (old new : Store) (d : List DeclInfo) (c : Context) → IsRead old d c → IsReady new → ((x : TyId) (w : Tree) → Shows old x w → Shows new x w) → ((b : ℕ) → new.schemes b ≡ old.schemes b) → new.operations ≡ old.operations → ((n : ℕ) → new.declared n ≡ old.declared n) → IsClosedBelow new → IsRead new d c
read_moves old new d c k r f schemes operations declared closed = record {
  ready = r;
  decls_are = k.decls_are;
  declared = λ x y p. f y (c.declared x) (k.declared x y (sym (declared x.0) ∙ p));
  schemes = λ b. subst (λ (o : Option TyId). ShowsAny new o (c.scheme b)) (sym (schemes b)) (shows_any old new f (old.schemes b) (c.scheme b) (k.schemes b));
  operations = λ op x p. f x (c.operation op) (k.operations op x (ap (λ (xs : List TyId). slice_get xs (op_place op)) (sym operations) ∙ p));
  closed_links = closed.links;
  closed_parts = closed.parts;
}

-- ---- the unknowns are forgotten

same_closed : (nodes others : List TyNode) (m k : Bound) → others ≡ nodes → k ≡ m → IsClosed nodes m → IsClosed others k
same_closed nodes others m k e f c = subst (λ (ns : List TyNode). IsClosed ns k) (sym e) (subst (IsClosed nodes) (sym f) c)

ready_forgets : (old new : Store) → IsReady old → Forgets old new → IsReady new
ready_forgets old new r f = record {
  closed = same_closed old.nodes new.nodes old.bound new.bound f.nodes f.bound r.closed;
  mark_within = omega (arith, f.mark, ap length f.nodes);
  within = λ u x p. absurd (let q : None ≡ Some x = sym (f.none u) ∙ p in cc);
  own = λ u x p. absurd (let q : None ≡ Some x = sym (f.none u) ∙ p in cc);
}

pub read_forgets : (old new : Store) (d : List DeclInfo) (c : Context) → IsRead old d c → Forgets old new → IsRead new d c
read_forgets old new d c k f = read_moves old new d c k r shows f.schemes f.operations f.declared (record {
  links = λ x y h p. (let n = link-number new.nodes new.bound x y p in let w = r.closed.targets_in n.0 y n.2 in omega (arith, w, f.mark, ap length f.nodes));
  parts = λ x p n i h e q. (let w = r.closed.parts_in x n i p e q in omega (arith, w, f.mark, ap length f.nodes));
})
  where
    r : IsReady new
    r = ready_forgets old new k.ready f

    shows : (x : TyId) (w : Tree) → Shows old x w → Shows new x w
    shows x w s = record {
      before = omega (arith, s.before, k.ready.mark_within, f.mark);
      stands = subst (λ (ns : List TyNode). Stands ns new.bound x w) (sym f.nodes) (subst (λ (m : Bound). Stands old.nodes m x w) (sym f.bound) s.stands);
    }

-- ---- pairs are made equal

-- the item's own ids that lie in the table
abbrev Owned : Store → TyId → Type 0
Owned s x = (x.0 < length s.nodes) × IsOwn s x

reaches_link : (nodes : List TyNode) (m : Bound) (x y : TyId) (n : ℕ) → link nodes m x ≡ Some y → Reaches nodes m y n → Reaches nodes m x n
reaches_link nodes m x y n l (at_end z e i ends at) = at_end x e i (there x z e l ends) at
reaches_link nodes m x y n l (in_part z e p k i v ends at part r) = in_part x e p k i v (there x z e l ends) at part r

-- a node that has parts is not bound
free_by : (m : Bound) (n : TyNode) (i : ℕ) (p : TyId) → slice_get (parts_of n) i ≡ Some p → option_and_then (λ j. get_or m j None) (variable_of n) ≡ None
free_by m (Var j) i p h = absurd (let q : None ≡ Some p = h in cc)
free_by m (Con d args) i p h = refl
free_by m (Tuple ps) i p h = refl
free_by m (Arrow slot a b) i p h = refl

reaches_part : (nodes : List TyNode) (m : Bound) (x p : TyId) (k : TyNode) (i n : ℕ) → node_at nodes x ≡ Some k → slice_get (parts_of k) i ≡ Some p → Reaches nodes m p n → Reaches nodes m x n
reaches_part nodes m x p k i n at part r =
    let free : link nodes m x ≡ None = ap (λ (o : Option TyNode). option_and_then (λ j. get_or m j None) (option_and_then variable_of o)) at ∙ free_by m k i p part in
    in_part x x p k i n (here x free) at part r

owned_apart : (s : Store) → IsReady s → IsApart s.nodes s.bound s.mark (Owned s)
owned_apart s r = record {
  own_within = λ x h. h.0;
  own_parts = λ x n i p h at part. (r.closed.parts_in x n i p at part, λ v reaches b. h.1 v (reaches_part s.nodes s.bound x p n i v at part reaches) b);
  own_links = λ x y h l. ((let n = link-number s.nodes s.bound x y l in r.closed.targets_in n.0 y n.2), λ v reaches b. h.1 v (reaches_link s.nodes s.bound x y v l reaches) b);
  unbound = λ x n h at free b. h.1 n (at_end x x n (here x free) at) b;
  targets_in = r.closed.targets_in;
}

pairs_own : (s : Store) (ps : List Pair) (ids : Pairs) → HoldPairs s ps ids → PairsOwn (Owned s) ids
pairs_own s [] [] k = tt
pairs_own s [] (i ∷ ids) k = absurd k
pairs_own s (p ∷ ps) [] k = absurd k
pairs_own s (p ∷ ps) (i ∷ ids) k = ((k.0.within, k.0.own), (k.1.within, k.1.own), pairs_own s ps ids k.2)

equated : (old new : Store) (d : List DeclInfo) (c : Context) (ps : List Pair) (ids : Pairs) → IsRead old d c → HoldPairs old ps ids → Equated (state old) (state new) ids → ((u : Unknown) → new.ids u ≡ old.ids u) → SameNames old new → IsRead new d c × Keeps old new
equated old new d c ps ids k hold e same names = (
  read_moves old new d c k ready shows names.schemes names.operations names.declared (record {
    links = λ x y h p. (let below = before x h in let q = k.closed_links x y below (sym (link_is x below) ∙ p) in omega (arith, q, names.mark));
    parts = λ x p n i h at q. (let w = k.closed_parts x p n i (before x h) (sym (ap (λ (ns : List TyNode). node_at ns x) e.nodes) ∙ at) q in omega (arith, w, names.mark));
  }),
  shows,
)
  where
    before : (x : TyId) → x.0 < new.mark → x.0 < old.mark
    before x h = omega (arith, h, names.mark)

    stays : Stays old.nodes old.mark (Owned old) old.bound new.bound
    stays = walk_pairs_stays old.nodes old.mark (Owned old) old.bound ids new.bound (owned_apart old k.ready) (pairs_own old ps ids hold) e.walk

    link_by : (x : TyId) → x.0 < old.mark → (o : Option TyNode) → node_at old.nodes x ≡ o → option_and_then (λ j. get_or new.bound j None) (option_and_then variable_of o) ≡ option_and_then (λ j. get_or old.bound j None) (option_and_then variable_of o)
    link_by x h None at = refl
    link_by x h (Some (Var n)) at = stays.early n (x, h, at)
    link_by x h (Some (Con i args)) at = refl
    link_by x h (Some (Tuple parts)) at = refl
    link_by x h (Some (Arrow slot a b)) at = refl

    link_is : (x : TyId) → x.0 < old.mark → link new.nodes new.bound x ≡ link old.nodes old.bound x
    link_is x h = ap (λ (ns : List TyNode). link ns new.bound x) e.nodes ∙ link_by x h (node_at old.nodes x) refl

    below : SameBelow old.mark old.nodes new.nodes old.bound new.bound
    below = record {
      node_is = λ x h. ap (λ (ns : List TyNode). node_at ns x) e.nodes;
      link_is = link_is;
      linked = k.closed_links;
      part = λ x n i p h at q. k.closed_parts x p n i h at q;
    }

    shows : (x : TyId) (w : Tree) → Shows old x w → Shows new x w
    shows x w s = record {
      before = omega (arith, s.before, names.mark);
      stands = stands_stays old.mark old.nodes new.nodes old.bound new.bound below x w s.before s.stands;
    }

    ready : IsReady new
    ready = record {
      closed = record {
        parts_in = λ x n i p at q. (let w = k.ready.closed.parts_in x n i p (sym (ap (λ (ns : List TyNode). node_at ns x) e.nodes) ∙ at) q in omega (arith, w, ap length e.nodes));
        targets_in = λ n y h. (let w = stays.apart.targets_in n y h in omega (arith, w, ap length e.nodes));
      };
      mark_within = omega (arith, k.ready.mark_within, names.mark, ap length e.nodes);
      within = λ u x p. (let w = k.ready.within u x (sym (same u) ∙ p) in omega (arith, w, ap length e.nodes));
      own = λ u x p. own u x (sym (same u) ∙ p);
    }
      where
        own : (u : Unknown) (x : TyId) → old.ids u ≡ Some x → IsOwn new x
        own u x p = λ n reaches b.
            apart_reaches old.nodes new.bound old.mark (Owned old) stays.apart x n (k.ready.within u x p, k.ready.own u x p)
            (subst (λ (ns : List TyNode). Reaches ns new.bound x n) e.nodes reaches)
            (b.0, before b.0 b.1, sym (ap (λ (ns : List TyNode). node_at ns b.0) e.nodes) ∙ b.2)

pub read_equated : (old new : Store) (d : List DeclInfo) (c : Context) (ps : List Pair) (ids : Pairs) → IsRead old d c → HoldPairs old ps ids → Equated (state old) (state new) ids → ((u : Unknown) → new.ids u ≡ old.ids u) → SameNames old new → IsRead new d c
read_equated old new d c ps ids k hold e same names = (equated old new d c ps ids k hold e same names).0

pub keeps_equated : (old new : Store) (d : List DeclInfo) (c : Context) (ps : List Pair) (ids : Pairs) → IsRead old d c → HoldPairs old ps ids → Equated (state old) (state new) ids → ((u : Unknown) → new.ids u ≡ old.ids u) → SameNames old new → Keeps old new
keeps_equated old new d c ps ids k hold e same names = (equated old new d c ps ids k hold e same names).1
