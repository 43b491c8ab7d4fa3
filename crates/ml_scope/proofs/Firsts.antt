-- The first violation that a walk along the journal comes to is the first of all.
use Rattle.std.proofs.Common.{◌≡◌, ℕ, List, [], ◌∷◌, Some, None, Bool, true, false, ◌&&◌, ◌||◌, ◌==◌, nat_lt, inl, inr, refl, sym, ap, subst, arith, if◌then◌else◌}
use Rattle.std.proofs.lemmas.Bool.Decides.{nat_tests}
use Rattle.std.proofs.lemmas.Bool.{cases_Bool}
use Rattle.oxml_base.specs.declared.refusal.Refusal.{Refusal}
use Rattle.oxml_base.specs.Rules.{rule_number}
use Rattle.ml_scope.specs.declared.found.Found.TheVariants.{Names, NamesType, Variable, Anew, Lists, Offends, Itself, Opens, Closes}
use Rattle.ml_scope.specs.Journal.{Journal}
use Rattle.ml_scope.specs.Readings.{offences, comes_before, IsFirst, earlier, earliest}

abbrev before : ℕ → ℕ → ℕ → ℕ → ℕ → ℕ → Bool
before s r e s' r' e' = nat_lt s s' || ((s == s') && (nat_lt r r' || ((r == r') && nat_lt e e')))

before_itself : (s r e : ℕ) → before s r e s r e ≡ false
before_itself s r e = grind (arith, nat_tests)

before_either : (s r e s' r' e' s'' r'' e'' : ℕ) → before s r e s'' r'' e'' ≡ true → before s' r' e' s'' r'' e'' ≡ false → before s r e s' r' e' ≡ true
before_either s r e s' r' e' s'' r'' e'' h h' = grind (arith, nat_tests)

before_not_back : (s r e s' r' e' : ℕ) → before s r e s' r' e' ≡ true → before s' r' e' s r e ≡ false
before_not_back s r e s' r' e' h = grind (arith, nat_tests)

itself : (a : Refusal) → comes_before a a ≡ false
itself a = before_itself a.span.start (rule_number a.rule) a.span.end

either : (x a r : Refusal) → comes_before x r ≡ true → comes_before a r ≡ false → comes_before x a ≡ true
either x a r h h' = before_either x.span.start (rule_number x.rule) x.span.end a.span.start (rule_number a.rule) a.span.end r.span.start (rule_number r.rule) r.span.end h h'

not_back : (x a : Refusal) → comes_before x a ≡ true → comes_before a x ≡ false
not_back x a h = before_not_back x.span.start (rule_number x.rule) x.span.end a.span.start (rule_number a.rule) a.span.end h

-- what is not after the earlier of two is after neither
later : (x a r : Refusal) → comes_before x a ≡ false → comes_before a r ≡ false → comes_before x r ≡ false
later x a r h h' = elim (cases_Bool (comes_before x r)) [ inl t ↦ (let u = either x a r t h' in let no' : ⊥ = cc in absurd no') | inr f ↦ f ]

with_one : (x a r : Refusal) (os : List Refusal) → IsFirst r (earlier (Some a) x ∷ os) → IsFirst r (a ∷ x ∷ os)
with_one x a r os h = elim (cases_Bool (comes_before x a)) [
  | inl t ↦ (
      let is : earlier (Some a) x ≡ x = (let f : Bool → Refusal = λ b. if b then x else a in ap f t) in
      let g : IsFirst r (x ∷ os) = subst (λ y. IsFirst r (y ∷ os)) is h in
      record { among = inr g.among; first = (later a x r (not_back x a t) g.first.0, g.first) })
  | inr f ↦ (
      let is : earlier (Some a) x ≡ a = (let g : Bool → Refusal = λ b. if b then x else a in ap g f) in
      let g : IsFirst r (a ∷ os) = subst (λ y. IsFirst r (y ∷ os)) is h in
      record { among = elim g.among [ inl e ↦ inl e | inr m ↦ inr (inr m) ]; first = (g.first.0, (later x a r f g.first.0, g.first.1)) })
]

first_from : (js : Journal) (a r : Refusal) → earliest (Some a) js ≡ Some r → IsFirst r (a ∷ offences js)
first_from [] a r e = (let same : r ≡ a = cc in record { among = inl same; first = (subst (λ y. comes_before a y ≡ false) (sym same) (itself a), tt) })
first_from (Offends x ∷ js) a r e = with_one x a r (offences js) (first_from js (earlier (Some a) x) r e)
first_from (Names n t ∷ js) a r e = first_from js a r e
first_from (NamesType n d ∷ js) a r e = first_from js a r e
first_from (Variable n s ∷ js) a r e = first_from js a r e
first_from (Anew ∷ js) a r e = first_from js a r e
first_from (Lists s ∷ js) a r e = first_from js a r e
first_from (Itself n ∷ js) a r e = first_from js a r e
first_from (Opens n ∷ js) a r e = first_from js a r e
first_from (Closes ∷ js) a r e = first_from js a r e

pub first_is : (js : Journal) (r : Refusal) → earliest None js ≡ Some r → IsFirst r (offences js)
first_is [] r e = absurd cc
first_is (Offends x ∷ js) r e = first_from js x r e
first_is (Names n t ∷ js) r e = first_is js r e
first_is (NamesType n d ∷ js) r e = first_is js r e
first_is (Variable n s ∷ js) r e = first_is js r e
first_is (Anew ∷ js) r e = first_is js r e
first_is (Lists s ∷ js) r e = first_is js r e
first_is (Itself n ∷ js) r e = first_is js r e
first_is (Opens n ∷ js) r e = first_is js r e
first_is (Closes ∷ js) r e = first_is js r e

some_stays : (js : Journal) (a : Refusal) → earliest (Some a) js ≡ None → ⊥
some_stays [] a e = cc
some_stays (Offends x ∷ js) a e = some_stays js (earlier (Some a) x) e
some_stays (Names n t ∷ js) a e = some_stays js a e
some_stays (NamesType n d ∷ js) a e = some_stays js a e
some_stays (Variable n s ∷ js) a e = some_stays js a e
some_stays (Anew ∷ js) a e = some_stays js a e
some_stays (Lists s ∷ js) a e = some_stays js a e
some_stays (Itself n ∷ js) a e = some_stays js a e
some_stays (Opens n ∷ js) a e = some_stays js a e
some_stays (Closes ∷ js) a e = some_stays js a e

pub none_is : (js : Journal) → earliest None js ≡ None → offences js ≡ []
none_is [] e = refl
none_is (Offends x ∷ js) e = absurd (some_stays js x e)
none_is (Names n t ∷ js) e = none_is js e
none_is (NamesType n d ∷ js) e = none_is js e
none_is (Variable n s ∷ js) e = none_is js e
none_is (Anew ∷ js) e = none_is js e
none_is (Lists s ∷ js) e = none_is js e
none_is (Itself n ∷ js) e = none_is js e
none_is (Opens n ∷ js) e = none_is js e
none_is (Closes ∷ js) e = none_is js e
