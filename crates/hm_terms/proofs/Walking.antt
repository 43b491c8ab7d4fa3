-- Loops over lists of types: what is ready of a list, and what is still to come.
use Rattle.std.proofs.Common.{◌≡◌, ℕ, zero, suc, ◌+◌, ◌-◌, ◌<◌, ◌≤◌, List, [], ◌∷◌, ◌++◌, map, take, drop, length, Option, Some, None, get_or, refl, sym, ap, ◌∙◌, subst, arith, add-one}
use Rattle.std.specs.List.{slice_get}
use Rattle.std.specs.Option.{option_map}
use Rattle.std.proofs.lemmas.List.{map-append, drop_all}
use Rattle.ml_types.specs.declared.node.TyId.{TyId}
use Rattle.ml_types.specs.declared.node.TyNode.TheVariants.{Arrow}
use Rattle.ml_types.specs.declared.declared.ArgInfo.{ArgInfo}
use Rattle.ml_types.specs.declared.declared.DeclInfo.{DeclInfo}
use Rattle.ml_typing.specs.Terms.{Shape, at_fresh, function, Context, shape_of}
use Rattle.ml_typing.specs.declared.equation.Term.{Term}
use Rattle.hm_terms.specs.Stores.{Store, AddsNode, IsReady}
use Rattle.hm_terms.specs.Shapes.{Holds, HoldAll, Lowers, LowersAll}
use Rattle.hm_terms.specs.Contexts.{IsRead}
use Rattle.hm_terms.proofs.Holding.{holds_grows, hold_length}
use Rattle.hm_terms.proofs.Building.{lowers_more, lowers_then, arrow_lowers}
use Rattle.hm_terms.proofs.Contexts.{read_grows}

pub take_suc : {A : Type 0} (xs : List A) (n : ℕ) (x : A) → slice_get xs n ≡ Some x → take (suc n) xs ≡ take n xs ++ x ∷ []
take_suc [] n x e = absurd (let q : None ≡ Some x = e in cc)
take_suc (y ∷ xs) zero x e = let q : y ≡ x = cc in ap (λ z. z ∷ []) q
take_suc (y ∷ xs) (suc n) x e = ap (λ zs. y ∷ zs) (take_suc xs n x e)

-- the shapes of one element more
pub map_take : {A : Type 0} (f : A → Shape) (xs : List A) (n : ℕ) (x : A) → slice_get xs n ≡ Some x → map f (take (n + 1) xs) ≡ map f (take n xs) ++ f x ∷ []
map_take f xs n x e = rw add-one (ap (map f) (take_suc xs n x e) ∙ map-append f (take n xs) (x ∷ []))

pub take_all : {A : Type 0} (xs : List A) (n : ℕ) → length xs ≤ n → take n xs ≡ xs
take_all [] zero h = refl
take_all [] (suc n) h = refl
take_all (x ∷ xs) zero h = absurd (omega arith)
take_all (x ∷ xs) (suc n) h = ap (λ zs. x ∷ zs) (take_all xs n (omega arith))

pub mapped : {A B : Type 0} (f : A → B) (o : Option A) (y : B) → option_map f o ≡ Some y → (x : A) × (o ≡ Some x) × (f x ≡ y)
mapped f None y e = absurd (let q : None ≡ Some y = e in cc)
mapped f (Some x) y e = (x, refl, cc)

abbrev pub ty_at : List ArgInfo → ℕ → TyId → Type 0
ty_at args n ty = Some ty ≡ option_map (λ (a : ArgInfo). a.ty) (slice_get args n)

-- one field more
pub argument_next : (first old new : Store) (decls : List DeclInfo) (c : Context) (args : List ArgInfo) (n node : ℕ) (ty x : TyId) (xs ys : List TyId) → IsRead first decls c → ty_at args n ty → (IsRead old decls c → Lowers old new (at_fresh node (c.declared ty)) x) → LowersAll first old (map (λ (a : ArgInfo). at_fresh node (c.declared a.ty)) (take n args)) xs → ys ≡ xs ++ x ∷ [] → LowersAll first new (map (λ (a : ArgInfo). at_fresh node (c.declared a.ty)) (take (n + 1) args)) ys
argument_next first old new decls c args n node ty x xs ys k at lowers l grown =
    let found = mapped (λ (a : ArgInfo). a.ty) (slice_get args n) ty (sym at) in
    let one = lowers (read_grows first old decls c k l.grows) in
    lowers_more first old new (map (λ (a : ArgInfo). at_fresh node (c.declared a.ty)) (take n args)) _ xs ys (at_fresh node (c.declared found.0.ty)) x k.ready l
    (subst (λ (z : TyId). Lowers old new (at_fresh node (c.declared z)) x) (sym found.2) one)
    (map_take (λ (a : ArgInfo). at_fresh node (c.declared a.ty)) args n found.0 found.1) grown

drop_zero : (hs : List Shape) → drop 0 hs ≡ hs
drop_zero [] = refl
drop_zero (h ∷ hs) = refl

part_at : (s : Store) (hs : List Shape) (xs : List TyId) (k : ℕ) (x : TyId) → HoldAll s hs xs → slice_get xs k ≡ Some x → (h : Shape) × Holds s h x × (drop k hs ≡ h ∷ drop (suc k) hs)
part_at s [] [] k x a e = absurd (let q : None ≡ Some x = e in cc)
part_at s [] (y ∷ xs) k x a e = absurd a
part_at s (h ∷ hs) [] k x a e = absurd a
part_at s (h ∷ hs) (y ∷ xs) zero x a e = let q : y ≡ x = cc in (h, subst (Holds s h) q a.0, ap (λ zs. h ∷ zs) (sym (drop_zero hs)))
part_at s (h ∷ hs) (y ∷ xs) (suc k) x a e = part_at s hs xs k x a.1 e

pub function_first : (s : Store) (hs : List Shape) (r : Shape) (xs : List TyId) (to : TyId) → HoldAll s hs xs → Lowers s s r to → Lowers s s (function (drop (length xs - 0) hs) r) to
function_first s hs r xs to k l =
    let e : length hs ≤ length xs - 0 = omega (arith, hold_length s hs xs k) in
    subst (λ (zs : List Shape). Lowers s s (function zs r) to) (sym (drop_all (length xs - 0) hs e)) l

-- one arrow more
pub function_next : (a b c : Store) (hs : List Shape) (r : Shape) (xs : List TyId) (done slot : ℕ) (from to x : TyId) → IsReady a → HoldAll a hs xs → Lowers a b (function (drop (length xs - done) hs) r) to → done < length xs → slice_get xs (length xs - (done + 1)) ≡ Some from → AddsNode b c (Arrow slot from to) x → Lowers a c (function (drop (length xs - (done + 1)) hs) r) x
function_next a b c hs r xs done slot from to x ready k l lt at adds = by (length xs - (done + 1)) (omega arith) at
  where
    by : (n : ℕ) → length xs - done ≡ suc n → slice_get xs n ≡ Some from → Lowers a c (function (drop n hs) r) x
    by n e p =
        let part = part_at a hs xs n from k p in
        let rest : Shape = function (drop (suc n) hs) r in
        let to_rest : Holds b rest to = subst (λ (i : ℕ). Holds b (function (drop i hs) r) to) e l.holds in
        let from_part = holds_grows a b ready l.grows part.0 from part.1 in
        subst (λ (zs : List Shape). Lowers a c (function zs r) x) (sym part.2)
        (lowers_then a b c (function (part.0 ∷ drop (suc n) hs) r) x l.grows
        (arrow_lowers b c slot part.0 rest from to x (l.grows.ready ready) from_part to_rest adds))

pub function_last : (a b : Store) (hs : List Shape) (r : Shape) (xs : List TyId) (done : ℕ) (x : TyId) → length xs ≤ done → Lowers a b (function (drop (length xs - done) hs) r) x → Lowers a b (function hs r) x
function_last a b hs r xs done x h l =
    let e : length xs - done ≡ 0 = omega arith in
    subst (λ (zs : List Shape). Lowers a b (function zs r) x) (ap (λ n. drop n hs) e ∙ drop_zero hs) l

-- a term by its layer
pub term_lowers : (old new : Store) (c : Context) (t u : Term) (h : Shape) (x : TyId) → t ≡ u → shape_of c u ≡ h → Lowers old new h x → Lowers old new (shape_of c t) x
term_lowers old new c t u h x e law l = subst (λ (g : Shape). Lowers old new g x) (sym (ap (shape_of c) e ∙ law)) l

pub one_item : (xs : List TyId) (d : TyId) → length xs ≡ 1 → xs ≡ get_or xs 0 d ∷ []
one_item [] d e = absurd (omega arith)
one_item (x ∷ []) d e = refl
one_item (x ∷ y ∷ xs) d e = absurd (omega arith)
