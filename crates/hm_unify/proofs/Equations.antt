-- Lists of equations and lists of parts.
use Rattle.std.proofs.Common.{◌≡◌, ℕ, zero, suc, ◌+◌, ◌<◌, ◌≤◌, List, [], ◌∷◌, ◌++◌, length, take, Some, None, refl, sym, ap, ◌∙◌, subst, inl, inr, arith, add-one}
use Rattle.std.specs.List.{slice_get}
use Rattle.ml_types.specs.declared.node.TyId.{TyId}
use Rattle.ml_types.specs.Types.{Tree, Trees, Nil, Cons, trees}
use Rattle.hm_unify.specs.Solutions.{Pairs, Equates, IsIdOf}
use Rattle.hm_unify.specs.Closing.{PairsWithin}

pub Equates-front : (d : TyId → Tree) (ps qs : Pairs) → Equates d (ps ++ qs) → Equates d ps
Equates-front d [] qs h = tt
Equates-front d (p ∷ ps) qs h = (h.0, Equates-front d ps qs h.1)

pub Equates-back : (d : TyId → Tree) (ps qs : Pairs) → Equates d (ps ++ qs) → Equates d qs
Equates-back d [] qs h = h
Equates-back d (p ∷ ps) qs h = Equates-back d ps qs h.1

pub Equates-append : (d : TyId → Tree) (ps qs : Pairs) → Equates d ps → Equates d qs → Equates d (ps ++ qs)
Equates-append d [] qs h k = k
Equates-append d (p ∷ ps) qs h k = (h.0, Equates-append d ps qs h.1 k)

pub Equates-take : (d : TyId → Tree) (ps : Pairs) (k : ℕ) → Equates d ps → Equates d (take k ps)
Equates-take d [] zero h = tt
Equates-take d [] (suc k) h = tt
Equates-take d (p ∷ ps) zero h = tt
Equates-take d (p ∷ ps) (suc k) h = (h.0, Equates-take d ps k h.1)

pub Equates-less : (d : TyId → Tree) (ps : Pairs) (k m : ℕ) → k ≤ m → Equates d (take m ps) → Equates d (take k ps)
Equates-less d [] zero m l h = tt
Equates-less d [] (suc k) m l h = tt
Equates-less d (p ∷ ps) zero m l h = tt
Equates-less d (p ∷ ps) (suc k) zero l h = absurd (omega arith)
Equates-less d (p ∷ ps) (suc k) (suc m) l h = (h.0, Equates-less d ps k m (omega arith) h.1)

pub IsIdOf-front : (ps qs : Pairs) (x : TyId) → IsIdOf ps x → IsIdOf (ps ++ qs) x
IsIdOf-front [] qs x h = absurd h
IsIdOf-front (p ∷ ps) qs x (inl e) = inl e
IsIdOf-front (p ∷ ps) qs x (inr (inl e)) = inr (inl e)
IsIdOf-front (p ∷ ps) qs x (inr (inr h)) = inr (inr (IsIdOf-front ps qs x h))

pub IsIdOf-back : (ps qs : Pairs) (x : TyId) → IsIdOf qs x → IsIdOf (ps ++ qs) x
IsIdOf-back [] qs x h = h
IsIdOf-back (p ∷ ps) qs x h = inr (inr (IsIdOf-back ps qs x h))

pub PairsWithin-front : (n : ℕ) (ps qs : Pairs) → PairsWithin n (ps ++ qs) → PairsWithin n ps
PairsWithin-front n [] qs h = tt
PairsWithin-front n (p ∷ ps) qs h = (h.0, h.1, PairsWithin-front n ps qs h.2)

pub PairsWithin-back : (n : ℕ) (ps qs : Pairs) → PairsWithin n (ps ++ qs) → PairsWithin n qs
PairsWithin-back n [] qs h = h
PairsWithin-back n (p ∷ ps) qs h = PairsWithin-back n ps qs h.2

pub PairsWithin-append : (n : ℕ) (ps qs : Pairs) → PairsWithin n ps → PairsWithin n qs → PairsWithin n (ps ++ qs)
PairsWithin-append n [] qs h k = k
PairsWithin-append n (p ∷ ps) qs h k = (h.0, h.1, PairsWithin-append n ps qs h.2 k)

pub PairsWithin-take : (n : ℕ) (ps : Pairs) (k : ℕ) → PairsWithin n ps → PairsWithin n (take k ps)
PairsWithin-take n [] zero h = tt
PairsWithin-take n [] (suc k) h = tt
PairsWithin-take n (p ∷ ps) zero h = tt
PairsWithin-take n (p ∷ ps) (suc k) h = (h.0, h.1, PairsWithin-take n ps k h.2)

-- a tree more at the end
unfoldable pub snoc : Trees → Tree → Trees
snoc Nil t = Cons t Nil
snoc (Cons u us) t = Cons u (snoc us t)

pub trees-snoc : (d : TyId → Tree) (xs : List TyId) (x : TyId) → trees d (xs ++ x ∷ []) ≡ snoc (trees d xs) (d x)
unfolding snoc
trees-snoc d [] x = refl
trees-snoc d (y ∷ xs) x = ap (Cons (d y)) (trees-snoc d xs x)

-- equal lists of trees, place by place
pub trees-at : (d : TyId → Tree) (xs ys : List TyId) (i : ℕ) (x y : TyId) → trees d xs ≡ trees d ys → slice_get xs i ≡ Some x → slice_get ys i ≡ Some y → d x ≡ d y
trees-at d [] ys i x y e p q = absurd cc
trees-at d (v ∷ xs) [] i x y e p q = absurd cc
trees-at d (v ∷ xs) (w ∷ ys) zero x y e p q = let a : d v ≡ d w = cc in let b : v ≡ x = cc in let c : w ≡ y = cc in sym (ap d b) ∙ a ∙ ap d c
trees-at d (v ∷ xs) (w ∷ ys) (suc i) x y e p q = let a : trees d xs ≡ trees d ys = cc in trees-at d xs ys i x y a p q

take-suc' : {A : Type 0} (xs : List A) (i : ℕ) (x : A) → slice_get xs i ≡ Some x → take (suc i) xs ≡ take i xs ++ x ∷ []
take-suc' [] i x h = absurd cc
take-suc' (y ∷ xs) zero x h = let e : y ≡ x = cc in ap (λ v. v ∷ []) e
take-suc' (y ∷ xs) (suc i) x h = ap (λ l. y ∷ l) (take-suc' xs i x h)

pub take-next : {A : Type 0} (xs : List A) (i : ℕ) (x : A) → slice_get xs i ≡ Some x → take (i + 1) xs ≡ take i xs ++ x ∷ []
take-next xs i x h = rw add-one (take-suc' xs i x h)

pub take-end : {A : Type 0} (xs : List A) (i : ℕ) → slice_get xs i ≡ None → take i xs ≡ xs
take-end [] zero h = refl
take-end [] (suc i) h = refl
take-end (y ∷ xs) zero h = absurd cc
take-end (y ∷ xs) (suc i) h = ap (λ l. y ∷ l) (take-end xs i h)

pub trees-next : (d : TyId → Tree) (xs ys : List TyId) (i : ℕ) (x y : TyId) → slice_get xs i ≡ Some x → slice_get ys i ≡ Some y → trees d (take i xs) ≡ trees d (take i ys) → d x ≡ d y → trees d (take (i + 1) xs) ≡ trees d (take (i + 1) ys)
trees-next d xs ys i x y p q h e =
    ap (trees d) (take-next xs i x p) ∙ trees-snoc d (take i xs) x ∙ ap (λ ts. snoc ts (d x)) h ∙ ap (snoc (trees d (take i ys))) e ∙ sym (trees-snoc d (take i ys) y) ∙ sym (ap (trees d) (take-next ys i y q))

pub empty_from : {A : Type 0} (xs : List A) → length xs ≡ 0 → xs ≡ []
empty_from [] h = refl
empty_from (x ∷ xs) h = absurd (omega arith)

pub PairsWithin-at : (n : ℕ) (ps : Pairs) (i : ℕ) (p : TyId × TyId) → PairsWithin n ps → slice_get ps i ≡ Some p → (p.0.0 < n) × (p.1.0 < n)
PairsWithin-at n [] i p w h = absurd cc
PairsWithin-at n (q ∷ ps) zero p w h = let e : q ≡ p = cc in subst (λ (v : TyId × TyId). (v.0.0 < n) × (v.1.0 < n)) e (w.0, w.1)
PairsWithin-at n (q ∷ ps) (suc i) p w h = PairsWithin-at n ps i p w.2 h

pub Equates-at : (d : TyId → Tree) (ps : Pairs) (i : ℕ) (p : TyId × TyId) → Equates d ps → slice_get ps i ≡ Some p → d p.0 ≡ d p.1
Equates-at d [] i p e h = absurd cc
Equates-at d (q ∷ ps) zero p e h = let g : q ≡ p = cc in subst (λ (v : TyId × TyId). d v.0 ≡ d v.1) g e.0
Equates-at d (q ∷ ps) (suc i) p e h = Equates-at d ps i p e.1 h

pub IsIdOf-at : (ps : Pairs) (i : ℕ) (p : TyId × TyId) → slice_get ps i ≡ Some p → IsIdOf ps p.0
IsIdOf-at [] i p h = absurd cc
IsIdOf-at (q ∷ ps) zero p h = let g : q ≡ p = cc in inl (sym (ap (λ (v : TyId × TyId). v.0) g))
IsIdOf-at (q ∷ ps) (suc i) p h = inr (inr (IsIdOf-at ps i p h))
