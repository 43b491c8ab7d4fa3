-- What is known behind one item more.
use Rattle.std.proofs.Common.{◌≡◌, ℕ, zero, suc, ◌<◌, ◌⊎◌, Bool, true, false, cond, nat_eq, List, [], ◌∷◌, ◌++◌, take, length, Option, Some, None, refl, sym, ap, ◌∙◌, subst, inl, inr, arith}
use Rattle.std.specs.List.{slice_get}
use Rattle.std.specs.HashMap.{get}
use Rattle.std.proofs.lemmas.List.{take-append-le}
use Rattle.std.proofs.lemmas.Option.{slice_get_within}
use Rattle.std.proofs.Math.Seq.{take-append_seam}
use Rattle.oxml_base.specs.declared.span.Span.{Span}
use Rattle.ml_types.specs.declared.node.TyId.{TyId}
use Rattle.ml_types.specs.declared.node.TyNode.{TyNode}
use Rattle.ml_types.specs.declared.declared.DeclInfo.{DeclInfo}
use Rattle.ml_types.specs.Types.{Tree}
use Rattle.ml_typing.specs.declared.equation.Unknown.{Unknown}
use Rattle.ml_typing.specs.declared.equation.Unknown.TheVariants.{Node, Binder}
use Rattle.ml_typing.specs.declared.equation.Step.{Step}
use Rattle.ml_typing.specs.Terms.{Context}
use Rattle.ml_typing.specs.Typing.{Assignment, ItemSteps, pairs, is_among, behind, behind_all, IsTyped, IsPrincipal}
use Rattle.ml_typing.specs.Refusals.{IsSmall, AllSmall, Compares, AllCompare, IsBadComparison}
use Rattle.hm_unify.specs.Solutions.{Bound, Stands}
use Rattle.hm_unify.specs.States.{IsSound}
use Rattle.hm_unify.proofs.Ends.{link-number}
use Rattle.hm_terms.specs.Stores.{Store, IsClosed, IsReady}
use Rattle.hm_terms.specs.Contexts.{Shows, ShowsAny, op_place, IsRead}
use Rattle.hm_terms.proofs.Growth.{longer, stands_grow}
use Rattle.hm_infer.specs.declared.error.InferErr.{InferErr}
use Rattle.hm_infer.specs.declared.items.Found.{Found}
use Rattle.hm_infer.specs.Running.{HasNoIds, IsShown, Keeps}
use Rattle.hm_infer.specs.Compared.{FirstBad, IsBadAmong}
use Rattle.hm_infer.specs.Closing.{Closes, Notes, Compared, Leaves, has_node}
use Rattle.hm_infer.specs.Answers.{Checked, IsItemFault, noted, AreCompared, Behind, SomeBehind}
use Rattle.hm_infer.proofs.Shown.{shown, shown_grows, principal}

-- ---- lists of items and of their types

pub typed_length : (c : Context) (types : List Assignment) (items : List ItemSteps) → IsTyped c types items → length types ≡ length items
typed_length c [] [] h = refl
typed_length c [] (i ∷ items) h = absurd h
typed_length c (a ∷ types) [] h = absurd h
typed_length c (a ∷ types) (i ∷ items) h = ap suc (typed_length (behind c a i.binders) types items h.1)

typed_more : (c : Context) (types : List Assignment) (items : List ItemSteps) (a : Assignment) (i : ItemSteps) → IsTyped c types items → IsPrincipal (pairs (behind_all c types items) i.steps) a → IsTyped c (types ++ a ∷ []) (items ++ i ∷ [])
typed_more c [] [] a i h p = (p, tt)
typed_more c [] (j ∷ items) a i h p = absurd h
typed_more c (b ∷ types) [] a i h p = absurd h
typed_more c (b ∷ types) (j ∷ items) a i h p = (h.0, typed_more (behind c b j.binders) types items a i h.1 p)

small_more : (types : List Assignment) (items : List ItemSteps) (a : Assignment) (i : ItemSteps) → AllSmall types items → IsSmall i.steps a → AllSmall (types ++ a ∷ []) (items ++ i ∷ [])
small_more [] [] a i h p = (p, tt)
small_more [] (j ∷ items) a i h p = absurd h
small_more (b ∷ types) [] a i h p = absurd h
small_more (b ∷ types) (j ∷ items) a i h p = (h.0, small_more types items a i h.1 p)

behind_more : (c : Context) (types : List Assignment) (items : List ItemSteps) (a : Assignment) (i : ItemSteps) → IsTyped c types items → behind_all c (types ++ a ∷ []) (items ++ i ∷ []) ≡ behind (behind_all c types items) a i.binders
behind_more c [] [] a i h = refl
behind_more c [] (j ∷ items) a i h = absurd h
behind_more c (b ∷ types) [] a i h = absurd h
behind_more c (b ∷ types) (j ∷ items) a i h = behind_more (behind c b j.binders) types items a i h.1

-- the type of a node that one item more gives
abbrev later : List Step → Assignment → ℕ → Option Tree → Option Tree
later steps a n o = cond (has_node steps n) (Some (a (Node n))) o

or_else : (b : Bool) (w : Tree) (o p : Option Tree) → elim (cond b (Some w) p) as (λ _. Option Tree) [ None ↦ o | Some v ↦ Some v ] ≡ cond b (Some w) (elim p as (λ _. Option Tree) [ None ↦ o | Some v ↦ Some v ])
or_else true w o p = refl
or_else false w o p = refl

noted_more : (c : Context) (types : List Assignment) (items : List ItemSteps) (a : Assignment) (i : ItemSteps) (n : ℕ) → IsTyped c types items → noted (types ++ a ∷ []) (items ++ i ∷ []) n ≡ later i.steps a n (noted types items n)
noted_more c [] [] a i n h = refl
noted_more c [] (j ∷ items) a i n h = absurd h
noted_more c (b ∷ types) [] a i n h = absurd h
noted_more c (b ∷ types) (j ∷ items) a i n h =
    ap (λ (o : Option Tree). elim o as (λ _. Option Tree) [ None ↦ cond (has_node j.steps n) (Some (b (Node n))) None | Some w ↦ Some w ]) (noted_more (behind c b j.binders) types items a i n h.1)
    ∙ or_else (has_node i.steps n) (a (Node n)) (cond (has_node j.steps n) (Some (b (Node n))) None) (noted types items n)

-- ---- comparisons

compare_more : (types : List Assignment) (items : List ItemSteps) (a : Assignment) (i : ItemSteps) → AllCompare types items → Compares i.steps a → AllCompare (types ++ a ∷ []) (items ++ i ∷ [])
compare_more [] [] a i h p = (p, tt)
compare_more [] (j ∷ items) a i h p = absurd h
compare_more (b ∷ types) [] a i h p = absurd h
compare_more (b ∷ types) (j ∷ items) a i h p = (h.0, compare_more types items a i h.1 p)

at_end : {A : Type 0} (xs : List A) (x : A) → slice_get (xs ++ x ∷ []) (length xs) ≡ Some x
at_end [] x = refl
at_end (y ∷ xs) x = at_end xs x

at_longer : {A : Type 0} (xs ys : List A) (n : ℕ) (x : A) → slice_get xs n ≡ Some x → slice_get (xs ++ ys) n ≡ Some x
at_longer [] ys n x e = absurd (let q : None ≡ Some x = e in cc)
at_longer (y ∷ xs) ys zero x e = e
at_longer (y ∷ xs) ys (suc n) x e = at_longer xs ys n x e

bad_longer : (types : List Assignment) (items : List ItemSteps) (a : Assignment) (i : ItemSteps) (span : Span) → IsBadComparison items types span → IsBadComparison (items ++ i ∷ []) (types ++ a ∷ []) span
bad_longer types items a i span b = record {
  i = b.i;
  item = b.item;
  a = b.a;
  item_at = at_longer items (i ∷ []) b.i b.item b.item_at;
  types_at = at_longer types (a ∷ []) b.i b.a b.types_at;
  items_before = subst (λ (is : List ItemSteps). AllCompare (take b.i (types ++ a ∷ [])) is) (sym (take-append-le b.i items (i ∷ []) (omega (arith, slice_get_within items b.i b.item b.item_at))))
      (subst (λ (as_ : List Assignment). AllCompare as_ (take b.i items)) (sym (take-append-le b.i types (a ∷ []) (omega (arith, slice_get_within types b.i b.a b.types_at)))) b.items_before);
  k = b.k;
  step = b.step;
  operands = b.operands;
  at = b.at;
  compares = b.compares;
  bad = b.bad;
  steps_before = b.steps_before;
  span_is = b.span_is;
}

bad_last : (types : List Assignment) (items : List ItemSteps) (a : Assignment) (i : ItemSteps) (span : Span) → length types ≡ length items → AllCompare types items → IsBadAmong i.steps a span → IsBadComparison (items ++ i ∷ []) (types ++ a ∷ []) span
bad_last types items a i span same all b = record {
  i = length items;
  item = i;
  a = a;
  item_at = at_end items i;
  types_at = subst (λ (n : ℕ). slice_get (types ++ a ∷ []) n ≡ Some a) same (at_end types a);
  items_before = subst (λ (is : List ItemSteps). AllCompare (take (length items) (types ++ a ∷ [])) is) (sym (take-append_seam items (i ∷ [])))
      (subst (λ (n : ℕ). AllCompare (take n (types ++ a ∷ [])) items) same
      (subst (λ (as_ : List Assignment). AllCompare as_ items) (sym (take-append_seam types (a ∷ []))) all));
  k = b.k;
  step = b.step;
  operands = b.operands;
  at = b.at;
  compares = b.compares;
  bad = b.bad;
  steps_before = b.steps_before;
  span_is = b.span_is;
}

compared_more : (s : Store) (types : List Assignment) (items : List ItemSteps) (a : Assignment) (i : ItemSteps) (old new : Option Span) → length types ≡ length items → IsShown s a → AreCompared items types old → Compared s i.steps old new → AreCompared (items ++ i ∷ []) (types ++ a ∷ []) new
compared_more s types items a i None new same shows all more = by new (more a shows)
  where
    by : (bad : Option Span) → FirstBad i.steps a bad → AreCompared (items ++ i ∷ []) (types ++ a ∷ []) bad
    by None h = compare_more types items a i all h
    by (Some span) h = bad_last types items a i span same all h
compared_more s types items a i (Some span) new same shows bad more =
    subst (λ (o : Option Span). AreCompared (items ++ i ∷ []) (types ++ a ∷ []) o) (sym more) (bad_longer types items a i span bad)

-- ---- the store behind an item

-- a newer solver in which all nodes of an older one are from before the item
record IsLeft (old new : Store) : Type 0 where
  ready : IsReady old
  nodes : new.nodes ≡ old.nodes
  bound : new.bound ≡ old.bound
  none : (u : Unknown) → new.ids u ≡ None
  mark : new.mark ≡ length new.nodes

stands_left : (old new : Store) → IsLeft old new → (x : TyId) (w : Tree) → Stands old.nodes old.bound x w → Stands new.nodes new.bound x w
stands_left old new l x w h = subst (λ (ns : List TyNode). Stands ns new.bound x w) (sym l.nodes) (subst (λ (m : Bound). Stands old.nodes m x w) (sym l.bound) h)

shows_left : (old new : Store) → IsLeft old new → (x : TyId) (w : Tree) → x.0 < length old.nodes → Stands old.nodes old.bound x w → Shows new x w
shows_left old new l x w h k = record {
  before = omega (arith, h, l.mark, ap length l.nodes);
  stands = stands_left old new l x w k;
}

keeps_left : (old new : Store) → IsLeft old new → Keeps old new
keeps_left old new l x w k = shows_left old new l x w (omega (arith, k.before, l.ready.mark_within)) k.stands

closed_left : (old new : Store) → IsLeft old new → IsClosed new.nodes new.bound
closed_left old new l = subst (λ (ns : List TyNode). IsClosed ns new.bound) (sym l.nodes) (subst (λ (m : Bound). IsClosed old.nodes m) (sym l.bound) l.ready.closed)

ready_left : (old new : Store) → IsLeft old new → IsReady new
ready_left old new l = record {
  closed = closed_left old new l;
  mark_within = omega (arith, l.mark);
  within = λ u x p. absurd (let q : None ≡ Some x = sym (l.none u) ∙ p in cc);
  own = λ u x p. absurd (let q : None ≡ Some x = sym (l.none u) ∙ p in cc);
}

any_kept : (old new : Store) → Keeps old new → (o : Option TyId) (w : Option Tree) → ShowsAny old o w → ShowsAny new o w
any_kept old new f None w k = k
any_kept old new f (Some x) w k = (k.0, k.1, f x k.0 k.2)

bool_cases : (b : Bool) → (b ≡ true) ⊎ (b ≡ false)
bool_cases true = inl refl
bool_cases false = inr refl

-- what a solver shows behind an item: what was there before, and the types of the item's unknowns
record Shifts (old middle new : Store) (a : Assignment) : Type 0 where
  keeps : Keeps old new
  shows : (u : Unknown) (x : TyId) → middle.ids u ≡ Some x → Shows new x (a u)

schemes_behind : (old middle closed new : Store) (binders : List ℕ) (c : Context) (a : Assignment) → Shifts old middle new a → ((b : ℕ) → is_among binders b ≡ true → (x : TyId) × (middle.ids (Binder b) ≡ Some x) × (closed.schemes b ≡ Some x)) → ((b : ℕ) → is_among binders b ≡ false → closed.schemes b ≡ old.schemes b) → ((b : ℕ) → new.schemes b ≡ closed.schemes b) → ((b : ℕ) → ShowsAny old (old.schemes b) (c.scheme b)) → (b : ℕ) → ShowsAny new (new.schemes b) ((behind c a binders).scheme b)
schemes_behind old middle closed new binders c a s named others same k b = by (bool_cases (is_among binders b))
  where
    by : (is_among binders b ≡ true) ⊎ (is_among binders b ≡ false) → ShowsAny new (new.schemes b) (cond (is_among binders b) (Some (a (Binder b))) (c.scheme b))
    by (inl h) =
        let n = named b h in
        subst (λ (o : Option TyId). ShowsAny new o (cond (is_among binders b) (Some (a (Binder b))) (c.scheme b))) (sym (same b ∙ n.2))
        (a (Binder b), ap (λ (v : Bool). cond v (Some (a (Binder b))) (c.scheme b)) h, s.shows (Binder b) n.0 n.1)
    by (inr h) =
        subst (λ (o : Option TyId). ShowsAny new o (cond (is_among binders b) (Some (a (Binder b))) (c.scheme b))) (sym (same b ∙ others b h))
        (subst (λ (v : Bool). ShowsAny new (old.schemes b) (cond v (Some (a (Binder b))) (c.scheme b))) (sym h) (any_kept old new s.keeps (old.schemes b) (c.scheme b) (k b)))

read_behind : (old middle closed new : Store) (decls : List DeclInfo) (binders : List ℕ) (c : Context) (a : Assignment) → IsRead old decls c → IsLeft middle new → Shifts old middle new a → new.operations ≡ old.operations → ((n : ℕ) → new.declared n ≡ old.declared n) → ((b : ℕ) → is_among binders b ≡ true → (x : TyId) × (middle.ids (Binder b) ≡ Some x) × (closed.schemes b ≡ Some x)) → ((b : ℕ) → is_among binders b ≡ false → closed.schemes b ≡ old.schemes b) → ((b : ℕ) → new.schemes b ≡ closed.schemes b) → IsRead new decls (behind c a binders)
read_behind old middle closed new decls binders c a k l s operations declared named others same = record {
  ready = ready_left middle new l;
  decls_are = k.decls_are;
  declared = λ x y p. s.keeps y (c.declared x) (k.declared x y (sym (declared x.0) ∙ p));
  schemes = schemes_behind old middle closed new binders c a s named others same k.schemes;
  operations = λ op x p. s.keeps x (c.operation op) (k.operations op x (ap (λ (xs : List TyId). slice_get xs (op_place op)) (sym operations) ∙ p));
  closed_links = λ x y h p. (let n = link-number new.nodes new.bound x y p in let w = (closed_left middle new l).targets_in n.0 y n.2 in omega (arith, w, l.mark));
  closed_parts = λ x p n i h e q. (let w = (closed_left middle new l).parts_in x n i p e q in omega (arith, w, l.mark));
}

-- ---- one item more

-- what an item leaves, with the types that its unknowns have
record Left (mid new : Store) (decls : List DeclInfo) (c : Context) (item : ItemSteps) (found more : Found) : Type 0 where
  types : Assignment
  shown : IsShown mid types
  principal : IsPrincipal (pairs c item.steps) types
  small : IsSmall item.steps types
  keeps : Keeps mid new
  read : IsRead new decls (behind c types item.binders)
  noted : (n : ℕ) (o : Option Tree) → ShowsAny new (get nat_eq found.nodes n) o → ShowsAny new (get nat_eq more.nodes n) (later item.steps types n o)

nodes_left : (mid middle new : Store) (steps : List Step) (a : Assignment) (old more : ℕ → Option TyId) → Shifts mid middle new a → ((u : Unknown) (x : TyId) → mid.ids u ≡ Some x → middle.ids u ≡ Some x) → Notes mid steps old more → (n : ℕ) (o : Option Tree) → ShowsAny new (old n) o → ShowsAny new (more n) (later steps a n o)
nodes_left mid middle new steps a old more s ids notes n o k = by (bool_cases (has_node steps n))
  where
    by : (has_node steps n ≡ true) ⊎ (has_node steps n ≡ false) → ShowsAny new (more n) (later steps a n o)
    by (inl h) =
        let w = notes.theirs n h in
        subst (λ (p : Option TyId). ShowsAny new p (later steps a n o)) (sym w.2)
        (a (Node n), ap (λ (v : Bool). cond v (Some (a (Node n))) o) h, s.shows (Node n) w.0 (ids (Node n) w.0 w.1))
    by (inr h) =
        subst (λ (p : Option TyId). ShowsAny new p (later steps a n o)) (sym (notes.others n h))
        (subst (λ (v : Bool). ShowsAny new (old n) (cond v (Some (a (Node n))) o)) (sym h) k)

left : (mid new : Store) (decls : List DeclInfo) (c : Context) (item : ItemSteps) (found more : Found) → IsSound mid.nodes mid.bound → IsSound new.nodes new.bound → Checked mid decls c item.steps → Leaves mid new item.steps item.binders found more → Left mid new decls c item found more
left mid new decls c item found more sound sound' checked l = record {
  types = a;
  shown = shows;
  principal = principal mid (pairs c item.steps) a ready sound checked.knows.agrees shows;
  small = checked.small a shows;
  keeps = shifts.keeps;
  read = read_behind mid middle l.closed new decls item.binders c a checked.knows.read is_left shifts (l.forgets.operations ∙ closes.operations ∙ closes.grows.names.operations) (λ n. l.forgets.declared n ∙ closes.declared n ∙ closes.grows.names.declared n) closes.named closes.others l.forgets.schemes;
  noted = nodes_left mid middle new item.steps a (get nat_eq found.nodes) (get nat_eq more.nodes) shifts closes.grows.ids l.noted;
}
  where
    closes : Closes mid l.closed item.binders
    closes = l.closes

    middle : Store
    middle = closes.middle

    ready : IsReady mid
    ready = checked.knows.read.ready

    is_left : IsLeft middle new
    is_left = record {
      ready = closes.grows.ready ready;
      nodes = l.forgets.nodes ∙ closes.nodes;
      bound = l.forgets.bound ∙ closes.bound;
      none = l.forgets.none;
      mark = l.forgets.mark ∙ ap length (sym l.forgets.nodes);
    }

    sound_middle : IsSound middle.nodes middle.bound
    sound_middle = subst (λ (ns : List TyNode). IsSound ns middle.bound) is_left.nodes (subst (λ (m : Bound). IsSound new.nodes m) is_left.bound sound')

    chosen : (a : Assignment) × IsShown middle a
    chosen = shown middle is_left.ready sound_middle

    a : Assignment
    a = chosen.0

    shows : IsShown mid a
    shows = shown_grows mid middle a ready closes.grows chosen.1

    shifts : Shifts mid middle new a
    shifts = record {
      keeps = λ x w k. shows_left middle new is_left x w (omega (arith, k.before, closes.grows.names.mark, is_left.ready.mark_within)) (stands_grow mid middle (longer mid middle closes.grows) ready.closed x w k.stands);
      shows = λ u x p. shows_left middle new is_left x (a u) (is_left.ready.within u x p) (chosen.1 u x p);
    }

pub behind_next : (old mid new : Store) (decls : List DeclInfo) (c : Context) (items : List ItemSteps) (types : List Assignment) (item : ItemSteps) (found more : Found) → IsSound mid.nodes mid.bound → IsSound new.nodes new.bound → Behind old decls c items types found → Keeps old mid → Checked mid decls (behind_all c types items) item.steps → Leaves mid new item.steps item.binders found more → SomeBehind new decls c (items ++ item ∷ []) more
behind_next old mid new decls c items types item found more sound sound' k keeps checked leaves = (
  types ++ l.types ∷ [],
  record {
    typed = record {
      typed = typed_more c types items l.types item typed l.principal;
      small = small_more types items l.types item k.typed.small l.small;
    };
    read = subst (λ (e : Context). IsRead new decls e) (sym (behind_more c types items l.types item typed)) l.read;
    forgotten = leaves.forgets.none;
    nodes = λ n. subst (λ (o : Option Tree). ShowsAny new (get nat_eq more.nodes n) o) (sym (noted_more c types items l.types item n typed)) (l.noted n (noted types items n) (any_kept old new kept (get nat_eq found.nodes n) (noted types items n) (k.nodes n)));
    compared = compared_more mid types items l.types item found.bad more.bad (typed_length c types items typed) l.shown k.compared leaves.compared;
  },
)
  where
    typed : IsTyped c types items
    typed = k.typed.typed

    l : Left mid new decls (behind_all c types items) item found more
    l = left mid new decls (behind_all c types items) item found more sound sound' checked leaves

    kept : Keeps old new
    kept x w h = l.keeps x w (keeps x w h)

-- the steps and names of an item as they were given
pub behind_item : (old mid new : Store) (decls : List DeclInfo) (item : ItemSteps) (steps others : List Step) (binders : List ℕ) (found more : Found) → steps ≡ item.steps → others ≡ item.steps → binders ≡ item.binders → IsSound mid.nodes mid.bound → IsSound new.nodes new.bound → ((e : Context) → IsRead old decls e → HasNoIds old → Checked mid decls e steps) → ((e : Context) → IsRead old decls e → HasNoIds old → Keeps old mid) → Leaves mid new others binders found more → (c : Context) (items : List ItemSteps) (types : List Assignment) → Behind old decls c items types found → SomeBehind new decls c (items ++ item ∷ []) more
behind_item old mid new decls item steps others binders found more is is' names sound sound' checked keeps leaves c items types k =
    let e : Context = behind_all c types items in
    behind_next old mid new decls c items types item found more sound sound' k (keeps e k.read k.forgotten)
    (subst (λ (ss : List Step). Checked mid decls e ss) is (checked e k.read k.forgotten))
    (subst (λ (ss : List Step). Leaves mid new ss item.binders found more) is' (subst (λ (bs : List ℕ). Leaves mid new others bs found more) names leaves))

pub fault_item : (old : Store) (decls : List DeclInfo) (item : ItemSteps) (steps : List Step) (found : Found) (e : InferErr) → steps ≡ item.steps → ((b : Context) → IsRead old decls b → HasNoIds old → IsItemFault b steps e) → (c : Context) (items : List ItemSteps) (types : List Assignment) → Behind old decls c items types found → IsItemFault (behind_all c types items) item.steps e
fault_item old decls item steps found e is fault c items types k =
    subst (λ (ss : List Step). IsItemFault (behind_all c types items) ss e) is (fault (behind_all c types items) k.read k.forgotten)
