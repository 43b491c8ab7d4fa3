-- The first of several violations.
use Rattle.std.proofs.Common.{◌≡◌, ℕ, ◌+◌, ◌<◌, ◌≤◌, ◌⊎◌, inl, inr, List, [], ◌∷◌, ◌++◌, Option, Some, None, length, take, get_or, refl, sym, ap, ◌∙◌, subst, arith, IfSome, IfNone}
use Rattle.oxml_base.specs.declared.refusal.Refusal.{Refusal}
use Rattle.oxml_base.specs.Rules.{rule_number}
use Rattle.ml_decls.specs.Lists.{IsIn}
use Rattle.ml_tree.specs.declared.program.Item.{Item}
use Rattle.ml_tree.specs.declared.reference.TyRef.{TyRef}
use Rattle.ml_decls.specs.Offences.{ComesBefore, NoneOrFirst}
use Rattle.ml_decls.specs.Verdicts.{IsAllOf}
use Rattle.ml_decls.proofs.Infos.{taken_more, taken_all}
use Rattle.ml_decls.proofs.Members.{in_either, in_left, in_right}

-- the first of those so far
abbrev pub IsLeast : List Refusal → Option Refusal → Type 0
IsLeast list None = list ≡ []
IsLeast list (Some first) = IsIn first list × ((other : Refusal) → IsIn other list → ComesBefore other first → ⊥)

-- the order by three numbers
transitive : (a b c d e f g h i : ℕ) → (a < d) ⊎ ((a ≡ d) × ((b < e) ⊎ ((b ≡ e) × (c < f)))) → (d < g) ⊎ ((d ≡ g) × ((e < h) ⊎ ((e ≡ h) × (f < i)))) → (a < g) ⊎ ((a ≡ g) × ((b < h) ⊎ ((b ≡ h) × (c < i))))
transitive a b c d e f g h i (inl p) (inl q) = inl (omega arith)
transitive a b c d e f g h i (inl p) (inr q) = let u : d ≡ g = q.0 in inl (omega arith)
transitive a b c d e f g h i (inr p) (inl q) = let u : a ≡ d = p.0 in inl (omega arith)
transitive a b c d e f g h i (inr p) (inr q) = by_second p.1 q.1
  where
    firsts : a ≡ g
    firsts = let u : a ≡ d = p.0 in let v : d ≡ g = q.0 in omega arith

    by_second : (b < e) ⊎ ((b ≡ e) × (c < f)) → (e < h) ⊎ ((e ≡ h) × (f < i)) → (a < g) ⊎ ((a ≡ g) × ((b < h) ⊎ ((b ≡ h) × (c < i))))
    by_second (inl r) (inl s) = inr (firsts, inl (omega arith))
    by_second (inl r) (inr s) = let v : e ≡ h = s.0 in inr (firsts, inl (omega arith))
    by_second (inr r) (inl s) = let v : b ≡ e = r.0 in inr (firsts, inl (omega arith))
    by_second (inr r) (inr s) = let v : b ≡ e = r.0 in let w : e ≡ h = s.0 in let x : c < f = r.1 in let y : f < i = s.1 in inr (firsts, inr (omega arith, omega arith))

comes_before_both : (x y z : Refusal) → ComesBefore x y → ComesBefore y z → ComesBefore x z
comes_before_both x y z p q = transitive x.span.start (rule_number x.rule) x.span.end y.span.start (rule_number y.rule) y.span.end z.span.start (rule_number z.rule) z.span.end p q

not_before_itself : (x : Refusal) → ComesBefore x x → ⊥
not_before_itself x (inl p) = omega arith
not_before_itself x (inr p) = by_second p.1
  where
    by_second : (rule_number x.rule < rule_number x.rule) ⊎ ((rule_number x.rule ≡ rule_number x.rule) × (x.span.end < x.span.end)) → ⊥
    by_second (inl q) = omega arith
    by_second (inr q) = let s : x.span.end < x.span.end = q.1 in omega arith

-- one more violation, where there was none
pub least_one : (list more : List Refusal) (r : Refusal) → list ≡ [] → more ≡ list ++ r ∷ [] → IsLeast more (Some r)
least_one list more r e m = subst (λ (z : List Refusal). IsLeast z (Some r)) (sym is) (inl refl, only)
  where
    is : more ≡ r ∷ []
    is = m ∙ ap (λ (z : List Refusal). z ++ r ∷ []) e

    only : (other : Refusal) → IsIn other (r ∷ []) → ComesBefore other r → ⊥
    only other (inl q) b = not_before_itself r (subst (λ (z : Refusal). ComesBefore z r) q b)
    only other (inr q) b = q

-- one more, where there was a first
pub least_more : (list more : List Refusal) (first r chosen : Refusal) → IsLeast list (Some first) → more ≡ list ++ r ∷ [] → ((chosen ≡ r) × ComesBefore r first) ⊎ ((chosen ≡ first) × (ComesBefore r first → ⊥)) → IsLeast more (Some chosen)
least_more list more first r chosen l m (inl c) = subst (λ (z : Refusal). IsLeast more (Some z)) (sym c.0) (subst (λ (z : List Refusal). IsLeast z (Some r)) (sym m) (in_right r list (r ∷ []) (inl refl), none))
  where
    none : (other : Refusal) → IsIn other (list ++ r ∷ []) → ComesBefore other r → ⊥
    none other h b = by_side (in_either other list (r ∷ []) h)
      where
        by_side : IsIn other list ⊎ IsIn other (r ∷ []) → ⊥
        by_side (inl u) = l.1 other u (comes_before_both other r first b c.1)
        by_side (inr (inl e)) = not_before_itself r (subst (λ (z : Refusal). ComesBefore z r) e b)
        by_side (inr (inr e)) = e
least_more list more first r chosen l m (inr c) = subst (λ (z : Refusal). IsLeast more (Some z)) (sym c.0) (subst (λ (z : List Refusal). IsLeast z (Some first)) (sym m) (in_left first list (r ∷ []) l.0, none))
  where
    none : (other : Refusal) → IsIn other (list ++ r ∷ []) → ComesBefore other first → ⊥
    none other h b = by_side (in_either other list (r ∷ []) h)
      where
        by_side : IsIn other list ⊎ IsIn other (r ∷ []) → ⊥
        by_side (inl u) = l.1 other u b
        by_side (inr (inl e)) = c.1 (subst (λ (z : Refusal). ComesBefore z first) e b)
        by_side (inr (inr e)) = e

-- what the first of all violations is
pub none_or_first : (text : List ℕ) (types : List (ℕ × TyRef)) (items : List Item) (list : List Refusal) (o : Option Refusal) → IsAllOf text types items list → IfNone o (list ≡ []) → IfSome o (λ first. IsIn first list) → IfSome o (λ first. (other : Refusal) → IsIn other list → ComesBefore other first → ⊥) → NoneOrFirst text types items o
none_or_first text types items list None a none s l = λ r h. subst (λ (z : List Refusal). IsIn r z) none (a.complete r h)
none_or_first text types items list (Some first) a none s l = record { offends = a.sound first s; least = λ other h. l other (a.complete other h) }

-- ---- a loop over violations

pub least_next : (list : List Refusal) (i : ℕ) (first : Option Refusal) (more chosen : Refusal) → i < length list → more ≡ get_or list i more → IsLeast (take i list) first → IfNone first (chosen ≡ more) → IfSome first (λ one. ((chosen ≡ more) × ComesBefore more one) ⊎ ((chosen ≡ one) × (ComesBefore more one → ⊥))) → IsLeast (take (i + 1) list) (Some chosen)
least_next list i None more chosen h is l none some = subst (λ (z : Refusal). IsLeast (take (i + 1) list) (Some z)) (sym none) (least_one (take i list) (take (i + 1) list) more l (sym (taken_more list i more h is)))
least_next list i (Some first) more chosen h is l none some = least_more (take i list) (take (i + 1) list) first more chosen l (sym (taken_more list i more h is)) some

pub least_all : (list : List Refusal) (i : ℕ) (o : Option Refusal) → length list ≤ i → IsLeast (take i list) o → IsLeast list o
least_all list i o h l = subst (λ (z : List Refusal). IsLeast z o) (taken_all list i h) l

pub least_none : (list : List Refusal) (o : Option Refusal) → IsLeast list o → IfNone o (list ≡ [])
least_none list None l = l
least_none list (Some first) l = tt

pub least_found : (list : List Refusal) (o : Option Refusal) → IsLeast list o → IfSome o (λ first. IsIn first list)
least_found list None l = tt
least_found list (Some first) l = l.0

pub least_least : (list : List Refusal) (o : Option Refusal) → IsLeast list o → IfSome o (λ first. (other : Refusal) → IsIn other list → ComesBefore other first → ⊥)
least_least list None l = tt
least_least list (Some first) l = l.1
