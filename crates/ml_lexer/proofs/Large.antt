-- A value past 63 bits stays so, whatever digits follow.
use Rattle.std.proofs.Common.{◌≡◌, ℕ, ◌+◌, ◌*◌, ◌^◌, ◌<◌, ◌≤◌, true, false, cond, eqb, ltb, List, [], ◌∷◌, length, get_or, drop, Option, Some, None, refl, sym, subst, arith, IfSome}
use Rattle.std.specs.Option.{option_and_then}
use Rattle.std.specs.Char.{digit_value}
use Rattle.std.proofs.lemmas.Bool.Decides.{nat_tests}
use Rattle.std.proofs.lemmas.List.{drop_more}
use Rattle.std.proofs.Math.Nat.{mul-le-mul_left}
use Rattle.ml_lexer.specs.Numbers.{with_digit, with_mark, digits, small}

grows : (v base d : ℕ) → 2 ≤ base → v ≤ v * base + d
grows v base d h = omega (arith, mul-le-mul_left v h)

with_digit-grows : (base v c : ℕ) → 2 ≤ base → IfSome (with_digit base v c) (λ w. v ≤ w)
with_digit-grows base v c h =
    elim (ltb (digit_value c) base) as (λ b. IfSome (cond b (Some (v * base + digit_value c)) None) (λ w. v ≤ w)) [ true ↦ grows v base (digit_value c) h | false ↦ tt ]

with_mark-grows : (base v c : ℕ) → 2 ≤ base → IfSome (with_mark base v c) (λ w. v ≤ w)
with_mark-grows base v c h =
    elim (eqb c 95) as (λ b. IfSome (cond b (Some v) (with_digit base v c)) (λ w. v ≤ w)) [ true ↦ omega arith | false ↦ with_digit-grows base v c h ]

small-large : (v : ℕ) → 2 ^ 63 ≤ v → small (Some v) ≡ None
small-large v h = grind (arith, nat_tests)

pub small-some : (o : Option ℕ) (v : ℕ) → small o ≡ Some v → o ≡ Some v
small-some None v e = cc
small-some (Some w) v e =
    elim (ltb w (2 ^ 63)) as (λ b. cond b (Some w) None ≡ Some v → ◌≡◌ {A = Option ℕ} (Some w) (Some v)) [ true ↦ λ h. h | false ↦ λ h. cc ] e

large_step : (base v : ℕ) (cs : List ℕ) (o : Option ℕ) → ((w : ℕ) → 2 ^ 63 ≤ w → small (digits base w cs) ≡ None) → IfSome o (λ w. 2 ^ 63 ≤ w) → small (option_and_then (λ w. digits base w cs) o) ≡ None
large_step base v cs None f h = refl
large_step base v cs (Some w) f h = f w h

raised : (o : Option ℕ) (v : ℕ) → 2 ^ 63 ≤ v → IfSome o (λ w. v ≤ w) → IfSome o (λ w. 2 ^ 63 ≤ w)
raised None v h k = tt
raised (Some w) v h k = omega arith

pub digits-large : (base v : ℕ) (cs : List ℕ) → 2 ≤ base → 2 ^ 63 ≤ v → small (digits base v cs) ≡ None
unfolding digits
digits-large base v [] b h = small-large v h
digits-large base v (c ∷ cs) b h =
    large_step base v cs (with_mark base v c) (λ w k. digits-large base w cs b k) (raised (with_mark base v c) v h (with_mark-grows base v c b))

none_step : (base : ℕ) (cs : List ℕ) (o : Option ℕ) → 2 ≤ base → small o ≡ None → small (option_and_then (λ w. digits base w cs) o) ≡ None
none_step base cs None b h = refl
none_step base cs (Some w) b h = digits-large base w cs b (grind (arith, nat_tests))

pub digits-none : (base v c : ℕ) (cs : List ℕ) → 2 ≤ base → with_mark base v c ≡ with_digit base v c → small (with_digit base v c) ≡ None → small (digits base v (c ∷ cs)) ≡ None
unfolding digits
digits-none base v c cs b e h = none_step base cs (with_mark base v c) b (subst (λ (o : Option ℕ). small o ≡ None) (sym e) h)

mark-other : (base v c : ℕ) → (c ≡ 95 → ⊥) → with_mark base v c ≡ with_digit base v c
mark-other base v c h = grind (arith, nat_tests)

-- the digits from a place on have no value of 63 bits where the first one makes it too large
pub digits-none_at : (base v : ℕ) (run : List ℕ) (i : ℕ) → 2 ≤ base → i < length run → (get_or run i 0 ≡ 95 → ⊥) → None ≡ small (with_digit base v (get_or run i 0)) → small (digits base v (drop i run)) ≡ None
digits-none_at base v run i b l n h =
    let c = get_or run i 0 in
    rw (drop_more run i 0 l) (digits-none base v c (drop (i + 1) run) b (mark-other base v c n) (sym h))
