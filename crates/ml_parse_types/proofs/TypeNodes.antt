-- The nodes that the readers of types make are those that the grammar names.
use Rattle.std.proofs.Common.{◌≡◌, ◌≢◌, ◌<◌, ◌≤◌, ◌+◌, ℕ, suc, Bool, true, false, List, [], ◌∷◌, ◌++◌, length, drop, refl, sym, ap, ◌∙◌, arith}
use Rattle.std.specs.Prelude.{Some, None}
use Rattle.ml_lexer.specs.declared.token.Token.{Token}
use Rattle.ml_tree.specs.declared.types.TyExpr.{TyExpr}
use Rattle.ml_tree.specs.declared.types.TyKind.TheVariants.{Tuple}
use Rattle.ml_cursor.specs.Fronts.{front}
use Rattle.ml_cursor.specs.Places.{first_span, extent}
use Rattle.ml_parse_types.specs.Looks.{is_name}
use Rattle.ml_parse_types.specs.Types.{read, a_type, applied, product, group, arguments_by, postfix}

pub a_postfix : (ts r us : List Token) (t u : TyExpr) (d e : ℕ) → u ≡ applied (extent ts us) (first_span r) (t ∷ []) → us ≡ drop 1 r → e ≡ d + 1 → read u e us ≡ postfix ts (read t d r)
a_postfix ts r us t u d e f g h =
    let deeper : e ≡ suc d = omega (arith, h) in
    ap (λ (x : TyExpr). read x e us) f ∙
    (ap (λ (x : ℕ). read (applied (extent ts us) (first_span r) (t ∷ [])) x us) deeper ∙
    ap (λ (x : List Token). read (applied (extent ts x) (first_span r) (t ∷ [])) (suc d) x) g)

-- a list of one part that was popped
only_one : {A : Type 0} (xs rest : List A) (a : A) → length xs ≡ 1 → xs ≡ rest ++ a ∷ [] → xs ≡ a ∷ []
only_one xs [] a n e = e
only_one xs (b ∷ []) a n e = absurd (omega (arith, n, ap length e))
only_one xs (b ∷ c ∷ rest) a n e = absurd (omega (arith, n, ap length e))

pub group_one : (ts r : List Token) (xs rest : List TyExpr) (a : TyExpr) (d e : ℕ) → length xs ≡ 1 → xs ≡ rest ++ a ∷ [] → e ≡ d + 1 → group ts (read xs d r) ≡ Some (read a e r)
group_one ts r xs rest a d e n f h =
    let deeper : suc d ≡ e = omega (arith, h) in
    ap (λ (x : List TyExpr). group ts (read x d r)) (only_one xs rest a n f) ∙ ap (λ (x : ℕ). Some (read a x r)) deeper

pub group_unnamed : (ts r : List Token) (xs : List TyExpr) (d : ℕ) (k : Bool) → length xs ≢ 1 → k ≡ is_name (front r) → k ≡ false → group ts (read xs d r) ≡ None
group_unnamed ts r [] d k n f g = ap (arguments_by ts (read [] d r)) (sym f ∙ g)
group_unnamed ts r (a ∷ []) d k n f g = absurd (n refl)
group_unnamed ts r (a ∷ b ∷ xs) d k n f g = ap (arguments_by ts (read (a ∷ b ∷ xs) d r)) (sym f ∙ g)

several : (ts r us : List Token) (xs : List TyExpr) (t : TyExpr) (d e : ℕ) → us ≡ drop 1 r → t ≡ applied (extent ts us) (first_span r) xs → e ≡ d + 1 → arguments_by ts (read xs d r) true ≡ Some (read t e us)
several ts r us xs t d e f g h =
    let deeper : suc d ≡ e = omega (arith, h) in
    ap (λ (x : List Token). Some (read (applied (extent ts x) (first_span r) xs) (suc d) x)) (sym f) ∙
    (ap (λ (x : ℕ). Some (read (applied (extent ts us) (first_span r) xs) x us)) deeper ∙
    ap (λ (x : TyExpr). Some (read x e us)) (sym g))

pub group_several : (ts r us : List Token) (xs : List TyExpr) (t : TyExpr) (d e : ℕ) (k : Bool) → length xs ≢ 1 → k ≡ is_name (front r) → k ≡ true → us ≡ drop 1 r → t ≡ applied (extent ts us) (first_span r) xs → e ≡ d + 1 → group ts (read xs d r) ≡ Some (read t e us)
group_several ts r us [] t d e k n f g h i j = ap (arguments_by ts (read [] d r)) (sym f ∙ g) ∙ several ts r us [] t d e h i j
group_several ts r us (a ∷ []) t d e k n f g h i j = absurd (n refl)
group_several ts r us (a ∷ b ∷ xs) t d e k n f g h i j = ap (arguments_by ts (read (a ∷ b ∷ xs) d r)) (sym f ∙ g) ∙ several ts r us (a ∷ b ∷ xs) t d e h i j

pub product_one : (ts r : List Token) (xs rest : List TyExpr) (a : TyExpr) (d : ℕ) → length xs ≡ 1 → xs ≡ rest ++ a ∷ [] → product ts (read xs d r) ≡ read a d r
product_one ts r xs rest a d n f = ap (λ (x : List TyExpr). product ts (read x d r)) (only_one xs rest a n f)

tuple : (ts r : List Token) (xs : List TyExpr) (t : TyExpr) (d e : ℕ) → t ≡ a_type (extent ts r) (Tuple xs) → e ≡ d + 1 → read (a_type (extent ts r) (Tuple xs)) (suc d) r ≡ read t e r
tuple ts r xs t d e f h =
    let deeper : suc d ≡ e = omega (arith, h) in
    ap (λ (x : TyExpr). read x (suc d) r) (sym f) ∙ ap (λ (x : ℕ). read t x r) deeper

pub product_several : (ts r : List Token) (xs : List TyExpr) (t : TyExpr) (d e : ℕ) → length xs ≢ 1 → t ≡ a_type (extent ts r) (Tuple xs) → e ≡ d + 1 → product ts (read xs d r) ≡ read t e r
product_several ts r [] t d e n f h = tuple ts r [] t d e f h
product_several ts r (a ∷ []) t d e n f h = absurd (n refl)
product_several ts r (a ∷ b ∷ xs) t d e n f h = tuple ts r (a ∷ b ∷ xs) t d e f h

pub product_deep : (ts r : List Token) (xs : List TyExpr) (d left : ℕ) → length xs ≢ 1 → left ≤ d → left < (product ts (read xs d r)).depth
product_deep ts r [] d left n h = omega (arith, h)
product_deep ts r (a ∷ []) d left n h = absurd (n refl)
product_deep ts r (a ∷ b ∷ xs) d left n h = omega (arith, h)
