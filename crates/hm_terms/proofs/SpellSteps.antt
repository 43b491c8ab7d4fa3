-- What one step more of a loop, or one call more, makes of a term.
use Rattle.std.proofs.Common.{◌≡◌, ℕ, zero, suc, ◌+◌, ◌-◌, ◌<◌, ◌≤◌, ◌⊎◌, List, [], ◌∷◌, ◌++◌, length, take, drop, Option, Some, None, get_or, refl, sym, ap, ◌∙◌, subst, inl, inr, arith, add-one, length-append}
use Rattle.std.specs.Prelude.{Result, Ok, Err, OnOk, IfOk}
use Rattle.std.specs.List.{slice_get}
use Rattle.std.proofs.lemmas.List.{drop_all}
use Rattle.std.proofs.lemmas.Option.{slice_get_read}
use Rattle.ml_types.specs.declared.node.TyId.{TyId}
use Rattle.ml_types.specs.declared.node.TyNode.{TyNode}
use Rattle.ml_types.specs.declared.node.TyNode.TheVariants.{Con, Tuple, Arrow}
use Rattle.ml_types.specs.Types.{Head, TupleHead, ConHead, ArrowHead, head_of}
use Rattle.ml_types.specs.declared.declared.ArgInfo.{ArgInfo}
use Rattle.ml_types.specs.declared.declared.DeclInfo.{DeclInfo}
use Rattle.ml_typing.specs.declared.equation.Unknown.{Unknown}
use Rattle.ml_typing.specs.declared.equation.Unknown.TheVariants.{Binder, Fresh}
use Rattle.ml_typing.specs.declared.equation.Term.{Term}
use Rattle.ml_typing.specs.declared.equation.Term.TheVariants as v
use Rattle.ml_typing.specs.Typing.{alias_of}
use Rattle.hm_unify.specs.Solutions.{node_at}
use Rattle.hm_unify.proofs.Growth.{at_push}
use Rattle.hm_terms.specs.Stores.{Store, AddsNode, Knows, IsReady, Grows}
use Rattle.hm_terms.specs.Slots.{at_fresh_of, at_arguments, IsCopy, MakesCopy}
use Rattle.hm_terms.specs.Spelling.{IsAtFresh, IsTop, AreFresh, IsMade, AreAtFresh, IsProduct, IsWhole, IsNamed, Arrows, no_arrow, arrow_from, Spells, is_unknown, is_named, is_tuple, is_function, SpellAll}
use Rattle.hm_terms.proofs.Growth.{grows_same, grows_then}
use Rattle.hm_terms.proofs.Holding.{grows_node, grows_unknown, added_at}
use Rattle.hm_terms.proofs.Walking.{take_suc, mapped, ty_at}
use Rattle.hm_terms.proofs.Spelling.{fresh_grow, all_fresh_grow, arrows_grow, spells_grow, spell_all_grow, spell_push}

-- an unknown, known or new
pub unknown_there : (old new : Store) (u : Unknown) (x : TyId) → Knows old new u x → Grows old new × (new.ids u ≡ Some x)
unknown_there old new u x (inl k) = subst (λ (s : Store). Grows old s × (s.ids u ≡ Some x)) (sym k.1) (grows_same old, k.0)
unknown_there old new u x (inr a) = (grows_unknown old new u x a, a.there)

-- a node more
pub node_there : (old new : Store) (n : TyNode) (h : Head) (x : TyId) → AddsNode old new n x → head_of n ≡ Some h → Grows old new × (node_at new.nodes x ≡ Some n)
node_there old new n h x a e = (grows_node old new n h x a e, added_at old new n x a)

pub take_more : {A : Type 0} (xs : List A) (n : ℕ) (x : A) → slice_get xs n ≡ Some x → take (n + 1) xs ≡ take n xs ++ x ∷ []
take_more xs n x e = rw add-one (take_suc xs n x e)

-- one fresh type more
pub fresh_next : (first old new : Store) (node count : ℕ) (xs ys : List TyId) (x : TyId) → Grows first old × AreFresh old node count xs → Knows old new (Fresh node count) x → ys ≡ xs ++ x ∷ [] → Grows first new × AreFresh new node (count + 1) ys
fresh_next first old new node count xs ys x k n grown =
    (grows_then first old new k.0 one.0, subst (λ (zs : List TyId). AreFresh new node (count + 1) zs) (sym grown) (record { count_is = count_is; fresh = λ i y e. by i y (at_push xs x y i e) }))
  where
    one : Grows old new × (new.ids (Fresh node count) ≡ Some x)
    one = unknown_there old new (Fresh node count) x n

    count_is : length (xs ++ x ∷ []) ≡ count + 1
    count_is = length-append xs (x ∷ []) ∙ ap (λ (i : ℕ). i + 1) k.1.count_is

    by : (i : ℕ) (y : TyId) → (slice_get xs i ≡ Some y) ⊎ ((i ≡ length xs) × (x ≡ y)) → new.ids (Fresh node i) ≡ Some y
    by i y (inl e) = one.0.ids (Fresh node i) y (k.1.fresh i y e)
    by i y (inr e) = ap (λ (j : ℕ). new.ids (Fresh node j)) (e.0 ∙ k.1.count_is) ∙ one.1 ∙ ap Some e.1

all_fresh_push : (s : Store) (node : ℕ) (args : List ArgInfo) (xs : List TyId) (a : ArgInfo) (x : TyId) → AreAtFresh s node args xs → IsAtFresh s node (s.declared a.ty.0) x → AreAtFresh s node (args ++ a ∷ []) (xs ++ x ∷ [])
all_fresh_push s node [] [] a x k one = (one, tt)
all_fresh_push s node [] (y ∷ ys) a x k one = absurd k
all_fresh_push s node (b ∷ bs) [] a x k one = absurd k
all_fresh_push s node (b ∷ bs) (y ∷ ys) a x k one = (k.0, all_fresh_push s node bs ys a x k.1 one)

-- one field more
pub field_next : (first old new : Store) (args : List ArgInfo) (n node : ℕ) (ty x : TyId) (xs ys : List TyId) → IsReady first → ty_at args n ty → Grows first old × AreAtFresh old node (take n args) xs → (IsReady old → Grows old new × IsAtFresh new node (new.declared ty.0) x) → ys ≡ xs ++ x ∷ [] → Grows first new × AreAtFresh new node (take (n + 1) args) ys
field_next first old new args n node ty x xs ys r at k makes grown =
    let found = mapped (λ (a : ArgInfo). a.ty) (slice_get args n) ty (sym at) in
    let ready = k.0.ready r in
    let one = makes ready in
    let here : IsAtFresh new node (new.declared found.0.ty.0) x = subst (λ (z : TyId). IsAtFresh new node (new.declared z.0) x) (sym found.2) one.1 in
    let all = all_fresh_push new node (take n args) xs found.0 x (all_fresh_grow old new ready one.0 node (take n args) xs k.1) here in (
      grows_then first old new k.0 one.0,
      subst (λ (zs : List TyId). AreAtFresh new node (take (n + 1) args) zs) (sym grown)
          (subst (λ (bs : List ArgInfo). AreAtFresh new node bs (xs ++ x ∷ [])) (sym (take_more args n found.0 found.1)) all),
    )

pub whole_makes : (old mid new : Store) (node : ℕ) (args : List ArgInfo) (xs : List TyId) (x : TyId) → IsReady old → Grows old mid × AreAtFresh mid node args xs → Grows mid new × IsProduct new xs x → Grows old new × IsWhole new node args x
whole_makes old mid new node args xs x r k p =
    (grows_then old mid new k.0 p.0, record { parts = xs; are_copies = all_fresh_grow mid new (k.0.ready r) p.0 node args xs k.1; product_is = p.1 })

-- a copy of what stands under a name, by the id that the solver has for it
pub copy_makes : (old new : Store) (node : ℕ) (o : Option TyId) (y x : TyId) → o ≡ Some y → MakesCopy old new (at_fresh_of node) y x → Grows old new × IsAtFresh new node o x
copy_makes old new node o y x e k = (k.grows, (y, e, k.copy))

pub declared_makes : (old new : Store) (node : ℕ) (ty y x : TyId) → old.declared ty.0 ≡ Some y → MakesCopy old new (at_fresh_of node) y x → Grows old new × IsAtFresh new node (new.declared ty.0) x
declared_makes old new node ty y x e k = copy_makes old new node (new.declared ty.0) y x (k.grows.names.declared ty.0 ∙ e) k

pub scheme_makes : (old new : Store) (b node : ℕ) (y x : TyId) → old.schemes b ≡ Some y → MakesCopy old new (at_fresh_of node) y x → Grows old new × IsTop new b node x
scheme_makes old new b node y x e k = (k.grows, inr (y, k.grows.names.schemes b ∙ e, k.copy))

pub binder_makes : (old new : Store) (b node : ℕ) (x : TyId) → old.schemes b ≡ None → Knows old new (Binder b) x → Grows old new × IsTop new b node x
binder_makes old new b node x e k =
    let one = unknown_there old new (Binder b) x k in
    (one.0, inl (one.0.names.schemes b ∙ e, one.1))

pub made_makes : (old mid new : Store) (d node count : ℕ) (xs : List TyId) (x : TyId) → Grows old mid × AreFresh mid node count xs → AddsNode mid new (Con d xs) x → Grows old new × IsMade new d node count x
made_makes old mid new d node count xs x k a =
    let one = node_there mid new (Con d xs) (ConHead d (length xs)) x a refl in
    (grows_then old mid new k.0 one.0, record { arguments = xs; are_fresh = fresh_grow mid new one.0 node count xs k.1; node_is = one.1 })

-- one arrow more
pub arrows_next : (a b c : Store) (k m n : ℕ) (ps : List TyId) (last to from x : TyId) (done : ℕ) → Grows a b × Arrows b k (drop (length ps - done) ps) last m to → done < length ps → slice_get ps (length ps - (done + 1)) ≡ Some from → AddsNode b c (Arrow m from to) x → n ≡ m + 1 → Grows a c × Arrows c k (drop (length ps - (done + 1)) ps) last n x
arrows_next a b c k m n ps last to from x done h lt at adds next = by (length ps - (done + 1)) (omega arith) at
  where
    drop_zero : (xs : List TyId) → drop 0 xs ≡ xs
    drop_zero [] = refl
    drop_zero (y ∷ ys) = refl

    dropped : (xs : List TyId) (i : ℕ) → slice_get xs i ≡ Some from → drop i xs ≡ from ∷ drop (suc i) xs
    dropped [] i e = absurd (let q : None ≡ Some from = e in cc)
    dropped (y ∷ ys) zero e = let q : y ≡ from = cc in ap (λ (z : TyId). z ∷ ys) q ∙ ap (λ (zs : List TyId). from ∷ zs) (sym (drop_zero ys))
    dropped (y ∷ ys) (suc i) e = dropped ys i e

    by : (i : ℕ) → length ps - done ≡ suc i → slice_get ps i ≡ Some from → Grows a c × Arrows c k (drop i ps) last n x
    by i e p =
        let one = node_there b c (Arrow m from to) ArrowHead x adds refl in
        let rest : Arrows b k (drop (suc i) ps) last m to = subst (λ (j : ℕ). Arrows b k (drop j ps) last m to) e h.1 in
        let whole : Arrows c k (from ∷ drop (suc i) ps) last (m + 1) x = arrow_from k m from (drop (suc i) ps) last to x (arrows_grow b c one.0 k (drop (suc i) ps) last m to rest) one.1 in (
          grows_then a b c h.0 one.0,
          subst (λ (j : ℕ). Arrows c k (drop i ps) last j x) (sym next)
              (subst (λ (zs : List TyId). Arrows c k zs last (m + 1) x) (sym (dropped ps i p)) whole),
        )

pub arrows_first : (s : Store) (k : ℕ) (ps : List TyId) (last : TyId) → Grows s s × Arrows s k (drop (length ps - 0) ps) last k last
arrows_first s k ps last =
    let e : length ps ≤ length ps - 0 = omega arith in
    (grows_same s, subst (λ (zs : List TyId). Arrows s k zs last k last) (sym (drop_all (length ps - 0) ps e)) (no_arrow k last))

pub arrows_last : (a b : Store) (k m : ℕ) (ps : List TyId) (last x : TyId) (done : ℕ) → length ps ≤ done → Grows a b × Arrows b k (drop (length ps - done) ps) last m x → Grows a b × Arrows b k ps last m x
arrows_last a b k m ps last x done h g =
    let e : length ps - done ≡ 0 = omega arith in
    (g.0, subst (λ (zs : List TyId). Arrows b k zs last m x) (ap (λ (i : ℕ). drop i ps) e ∙ drop_zero ps) g.1)
  where
    drop_zero : (xs : List TyId) → drop 0 xs ≡ xs
    drop_zero [] = refl
    drop_zero (y ∷ ys) = refl

-- one term more
pub spell_next : (first old new : Store) (decls : List DeclInfo) (k m n : ℕ) (ts : List Term) (i : ℕ) (t : Term) (x : TyId) (xs ys : List TyId) → i < length ts → t ≡ get_or ts i t → IsReady first → Grows first old × SpellAll old decls k (take i ts) m xs → (IsReady old → Grows old new × Spells new decls m t n x) → ys ≡ xs ++ x ∷ [] → Grows first new × SpellAll new decls k (take (i + 1) ts) n ys
spell_next first old new decls k m n ts i t x xs ys lt is r h makes grown =
    let ready = h.0.ready r in
    let one = makes ready in
    let all = spell_push new decls k (take i ts) m xs n t x (spell_all_grow old new ready one.0 decls k (take i ts) m xs h.1) one.1 in (
      grows_then first old new h.0 one.0,
      subst (λ (zs : List TyId). SpellAll new decls k (take (i + 1) ts) n zs) (sym grown)
          (subst (λ (us : List Term). SpellAll new decls k us n (xs ++ x ∷ [])) (sym (take_more ts i t (slice_get_read ts (length ts) i t refl lt is))) all),
    )

-- a form of term that makes no arrow
pub no_slot : (s : Store) (decls : List DeclInfo) (k m : ℕ) (t : Term) (x : TyId) → m ≡ k → Spells s decls k t k x → Spells s decls k t m x
no_slot s decls k m t x e h = subst (λ (i : ℕ). Spells s decls k t i x) (sym e) h

pub unknown_spells : (old new : Store) (decls : List DeclInfo) (k m : ℕ) (t : Term) (u : Unknown) (x : TyId) → t ≡ v.Of u → m ≡ k → Knows old new u x → Grows old new × Spells new decls k t m x
unknown_spells old new decls k m t u x e same n =
    let one = unknown_there old new u x n in
    (one.0, no_slot new decls k m t x same (is_unknown k t x u e one.1))

pub named_spells : (old mid new : Store) (decls : List DeclInfo) (k m n : ℕ) (t : Term) (d : ℕ) (args slice : List Term) (xs : List TyId) (x : TyId) → t ≡ v.Con d args → slice ≡ args → IsReady old → Grows old mid × SpellAll mid decls k slice m xs → n ≡ m → (IsReady mid → Grows mid new × IsNamed new d (alias_of (slice_get decls d)) xs x) → Grows old new × Spells new decls k t n x
named_spells old mid new decls k m n t d args slice xs x e same r all slots makes =
    let ready = all.0.ready r in
    let one = makes ready in
    let terms = subst (λ (ts : List Term). SpellAll new decls k ts m xs) same (spell_all_grow mid new ready one.0 decls k slice m xs all.1) in
    (grows_then old mid new all.0 one.0, subst (λ (i : ℕ). Spells new decls k t i x) (sym slots) (is_named k m t x d args xs e terms one.1))

pub tuple_spells : (old mid new : Store) (decls : List DeclInfo) (k m n : ℕ) (t : Term) (parts slice : List Term) (xs : List TyId) (x : TyId) → t ≡ v.Tuple parts → slice ≡ parts → IsReady old → Grows old mid × SpellAll mid decls k slice m xs → n ≡ m → AddsNode mid new (Tuple xs) x → Grows old new × Spells new decls k t n x
tuple_spells old mid new decls k m n t parts slice xs x e same r all slots a =
    let ready = all.0.ready r in
    let one = node_there mid new (Tuple xs) (TupleHead (length xs)) x a refl in
    let terms = subst (λ (ts : List Term). SpellAll new decls k ts m xs) same (spell_all_grow mid new ready one.0 decls k slice m xs all.1) in
    (grows_then old mid new all.0 one.0, subst (λ (i : ℕ). Spells new decls k t i x) (sym slots) (is_tuple k m t x parts xs e terms one.1))

pub function_spells : (old mid last new : Store) (decls : List DeclInfo) (k l m n : ℕ) (t result inner : Term) (params slice : List Term) (xs ys : List TyId) (to x : TyId) → t ≡ v.Function params result → slice ≡ params → inner ≡ result → ys ≡ xs → IsReady old → Grows old mid × SpellAll mid decls k slice l xs → (IsReady mid → Grows mid last × Spells last decls l inner m to) → Grows last new × Arrows new m ys to n x → Grows old new × Spells new decls k t n x
function_spells old mid last new decls k l m n t result inner params slice xs ys to x e same within list r all makes arrows =
    let mid_ready = all.0.ready r in
    let one = makes mid_ready in
    let end_ready = one.0.ready mid_ready in
    let later = grows_then mid last new one.0 arrows.0 in
    let terms = subst (λ (ts : List Term). SpellAll new decls k ts l xs) same (spell_all_grow mid new mid_ready later decls k slice l xs all.1) in
    let to_result = subst (λ (u : Term). Spells new decls l u m to) within (spells_grow last new end_ready arrows.0 decls l inner m to one.1) in
    let from_params = subst (λ (zs : List TyId). Arrows new m zs to n x) list arrows.1 in
    (grows_then old mid new all.0 later, is_function k l m n t x params result xs to e terms to_result from_params)

-- a product of other than one type
pub product_makes : (old new : Store) (xs : List TyId) (x : TyId) → (length xs ≡ 1 → ⊥) → AddsNode old new (Tuple xs) x → Grows old new × IsProduct new xs x
product_makes old new xs x several a =
    let one = node_there old new (Tuple xs) (TupleHead (length xs)) x a refl in
    (one.0, inr (several, one.1))

pub plain_makes : (old new : Store) (d : ℕ) (o : Option TyId) (xs : List TyId) (x : TyId) → o ≡ None → AddsNode old new (Con d xs) x → Grows old new × IsNamed new d o xs x
plain_makes old new d o xs x e a =
    subst (λ (z : Option TyId). Grows old new × IsNamed new d z xs x) (sym e) (node_there old new (Con d xs) (ConHead d (length xs)) x a refl)

pub expanded_makes : (old new : Store) (d : ℕ) (o : Option TyId) (body y : TyId) (xs slice : List TyId) (x : TyId) → o ≡ Some body → old.declared body.0 ≡ Some y → slice ≡ xs → MakesCopy old new (at_arguments slice) y x → Grows old new × IsNamed new d o xs x
expanded_makes old new d o body y xs slice x e is same m =
    let copy = subst (λ (zs : List TyId). IsCopy new (at_arguments zs) y x) same m.copy in
    subst (λ (z : Option TyId). Grows old new × IsNamed new d z xs x) (sym e) (m.grows, (y, m.grows.names.declared body.0 ∙ is, copy))

-- no fresh type yet
pub fresh_first : (s : Store) (node : ℕ) (xs : List TyId) → xs ≡ [] → Grows s s × AreFresh s node 0 xs
fresh_first s node xs e = (grows_same s, subst (λ (zs : List TyId). AreFresh s node 0 zs) (sym e) (record { count_is = refl; fresh = λ i x p. absurd (let q : None ≡ Some x = p in cc) }))

-- what follows from two facts about a value
pub ok_then : {A E : Type 0} (r : Result A E) (S : Type 0) (P Q : A → Type 0) → ((x : A) → S → P x → Q x) → OnOk r S → IfOk r P → IfOk r Q
ok_then (Ok x) S P Q f s p = f x s p
ok_then (Err e) S P Q f s p = p
