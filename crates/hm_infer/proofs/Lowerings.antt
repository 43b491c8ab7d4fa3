-- The ids of pairs, as loops make them.
use Rattle.std.proofs.Common.{◌≡◌, ℕ, zero, suc, ◌+◌, ◌<◌, ◌≤◌, List, [], ◌∷◌, ◌++◌, map, take, length, Some, None, get_or, refl, sym, ap, ◌∙◌, subst, inl, inr, add-one, append_assoc}
use Rattle.std.specs.List.{slice_get}
use Rattle.std.proofs.lemmas.List.{append-nil, map-append}
use Rattle.std.proofs.lemmas.Option.{slice_get_read}
use Rattle.ml_types.specs.declared.node.TyId.{TyId}
use Rattle.ml_types.specs.declared.declared.DeclInfo.{DeclInfo}
use Rattle.ml_typing.specs.declared.equation.Unknown.{Unknown}
use Rattle.ml_typing.specs.declared.equation.Equation.{Equation}
use Rattle.ml_typing.specs.Terms.{Context, Is, shape_of}
use Rattle.ml_typing.specs.Typing.{Pair, pair_of}
use Rattle.hm_unify.specs.Solutions.{Pairs}
use Rattle.hm_terms.specs.Stores.{Store, Knows, Grows}
use Rattle.hm_terms.specs.Shapes.{Lowers}
use Rattle.hm_terms.specs.Contexts.{IsRead}
use Rattle.hm_terms.proofs.Growth.{grows_same, grows_then}
use Rattle.hm_terms.proofs.Holding.{grows_unknown, holds_grows, knows_lowers}
use Rattle.hm_terms.proofs.Contexts.{read_grows}
use Rattle.hm_terms.proofs.Walking.{take_all}
use Rattle.hm_infer.specs.Running.{HoldPairs, LowersPairs}
use Rattle.hm_infer.proofs.Agreements.{hold_pairs_grow}

pub knows_grows : (old new : Store) (u : Unknown) (id : TyId) → Knows old new u id → Grows old new
knows_grows old new u id (inl k) = subst (λ (s : Store). Grows old s) (sym k.1) (grows_same old)
knows_grows old new u id (inr a) = grows_unknown old new u id a

-- the two types of an equation
pub pair_lowers : (old mid new : Store) (decls : List DeclInfo) (c : Context) (e : Equation) (x y : TyId) → IsRead old decls c → Knows old mid e.left x → ((b : Context) → IsRead mid decls b → Lowers mid new (shape_of b e.right) y) → LowersPairs old new (pair_of c e ∷ []) ((x, y) ∷ [])
pair_lowers old mid new decls c e x y k knows lowers =
    let left = knows_lowers old mid e.left x k.ready knows in
    let right = lowers c (read_grows old mid decls c k left.grows) in
    record {
      grows = grows_then old mid new left.grows right.grows;
      hold = (holds_grows mid new (left.grows.ready k.ready) right.grows (Is e.left) x left.holds, right.holds, tt);
    }

hold_push : (s : Store) (ps : List Pair) (ids : Pairs) (p : Pair) (x : TyId × TyId) → HoldPairs s ps ids → HoldPairs s (p ∷ []) (x ∷ []) → HoldPairs s (ps ++ p ∷ []) (ids ++ x ∷ [])
hold_push s [] [] p x k one = one
hold_push s [] (y ∷ ids) p x k one = absurd k
hold_push s (q ∷ ps) [] p x k one = absurd k
hold_push s (q ∷ ps) (y ∷ ids) p x k one = (k.0, k.1, hold_push s ps ids p x k.2 one)

take_suc : {A : Type 0} (xs : List A) (n : ℕ) (x : A) → slice_get xs n ≡ Some x → take (suc n) xs ≡ take n xs ++ x ∷ []
take_suc [] n x e = absurd (let q : None ≡ Some x = e in cc)
take_suc (y ∷ xs) zero x e = let q : y ≡ x = cc in ap (λ z. z ∷ []) q
take_suc (y ∷ xs) (suc n) x e = ap (λ zs. y ∷ zs) (take_suc xs n x e)

map_take : (f : Equation → Pair) (xs : List Equation) (n : ℕ) (x : Equation) → slice_get xs n ≡ Some x → map f (take (n + 1) xs) ≡ map f (take n xs) ++ f x ∷ []
map_take f xs n x e = rw add-one (ap (map f) (take_suc xs n x e) ∙ map-append f (take n xs) (x ∷ []))

-- no equation yet
pub push_none : (s : Store) (c : Context) (before : List Pair) (es : List Equation) (ids : Pairs) → HoldPairs s before ids → LowersPairs s s (before ++ map (pair_of c) (take 0 es)) ids
push_none s c before es ids h = record { grows = grows_same s; hold = subst (λ (ps : List Pair). HoldPairs s ps ids) (sym (append-nil before)) h }

-- one equation more
pub push_next : (first old new : Store) (decls : List DeclInfo) (c : Context) (before : List Pair) (es : List Equation) (n : ℕ) (e : Equation) (x : TyId × TyId) (ids more : Pairs) → n < length es → e ≡ get_or es n e → IsRead first decls c → LowersPairs first old (before ++ map (pair_of c) (take n es)) ids → ((b : Context) → IsRead old decls b → LowersPairs old new (pair_of b e ∷ []) (x ∷ [])) → more ≡ ids ++ x ∷ [] → LowersPairs first new (before ++ map (pair_of c) (take (n + 1) es)) more
push_next first old new decls c before es n e x ids more lt is k l one grown =
    let next = one c (read_grows first old decls c k l.grows) in
    let ps = before ++ map (pair_of c) (take n es) in
    let held : HoldPairs new (ps ++ pair_of c e ∷ []) (ids ++ x ∷ []) = hold_push new ps ids (pair_of c e) x (hold_pairs_grow old new (l.grows.ready k.ready) next.grows ps ids l.hold) next.hold in
    let same : before ++ map (pair_of c) (take (n + 1) es) ≡ ps ++ pair_of c e ∷ [] =
    ap (λ (qs : List Pair). before ++ qs) (map_take (pair_of c) es n e (slice_get_read es (length es) n e refl lt is)) ∙ sym (append_assoc before (map (pair_of c) (take n es)) (pair_of c e ∷ [])) in
    record {
      grows = grows_then first old new l.grows next.grows;
      hold = subst (λ (is : Pairs). HoldPairs new (before ++ map (pair_of c) (take (n + 1) es)) is) (sym grown)
          (subst (λ (qs : List Pair). HoldPairs new qs (ids ++ x ∷ [])) (sym same) held);
    }

-- all equations
pub push_all : (first old : Store) (c : Context) (before : List Pair) (es : List Equation) (n : ℕ) (ids : Pairs) → length es ≤ n → LowersPairs first old (before ++ map (pair_of c) (take n es)) ids → LowersPairs first old (before ++ map (pair_of c) es) ids
push_all first old c before es n ids h l =
    subst (λ (qs : List Equation). LowersPairs first old (before ++ map (pair_of c) qs) ids) (take_all es n h) l

-- the pairs of a step, from none
pub pairs_then : (old mid new : Store) (decls : List DeclInfo) (c : Context) (slice es : List Equation) (none ids : Pairs) → IsRead old decls c → Grows old mid → ((b : Context) (before : List Pair) → IsRead mid decls b → HoldPairs mid before none → LowersPairs mid new (before ++ map (pair_of b) slice) ids) → slice ≡ es → none ≡ [] → LowersPairs old new (map (pair_of c) es) ids
pairs_then old mid new decls c slice es none ids k g lowers same empty =
    let l = lowers c [] (read_grows old mid decls c k g) (subst (λ (is : Pairs). HoldPairs mid [] is) (sym empty) tt) in
    let r : LowersPairs old new (map (pair_of c) slice) ids = record { grows = grows_then old mid new g l.grows; hold = l.hold } in
    subst (λ (qs : List Equation). LowersPairs old new (map (pair_of c) qs) ids) same r
