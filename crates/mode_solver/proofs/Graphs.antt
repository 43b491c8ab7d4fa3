-- One more form keeps what the lists of implications and of forbidden bits say.
use Rattle.std.proofs.Common.{◌≡◌, ℕ, ◌+◌, ◌<◌, ◌≤◌, inl, inr, List, [], ◌∷◌, ◌++◌, length, Option, Some, None, slice_get, slice_set, sym, ap, ◌∙◌, arith}
use Rattle.std.proofs.lemmas.List.{length_push}
use Rattle.std.proofs.lemmas.Option.{slice_get_within}
use Rattle.std.proofs.lemmas.Bool.{cases_eq}
use Rattle.mode_lattice.specs.declared.clause.Bit.{Bit}
use Rattle.mode_lattice.specs.declared.clause.Form.{Form}
use Rattle.mode_lattice.specs.declared.clause.Form.TheVariants.{Imply, Forbid}
use Rattle.mode_solver.specs.Graph.{entry, IsGraph, IsMarked}
use Rattle.mode_lattice.proofs.Lists.{slice_get-push_at, slice_get-append_left, slice_get-push_cases}
use Rattle.mode_solver.proofs.Lists.{entry-push_left, entry-push_at, entry-set_same, entry-set_other, same_bit}

-- The next form is an implication: the first one of its bit is this, and each other one is as before.
imply-first_is : (seen : List Form) (first next : List (Option ℕ)) (a b : Bit) → IsGraph seen first next → a.0 < length first → (c : Bit) (j : ℕ) → entry (slice_set first a.0 (Some (length seen))) c.0 ≡ Some j → (d : Bit) × (slice_get (seen ++ Imply a b ∷ []) j ≡ Some (Imply c d))
imply-first_is seen first next a b g within c j e =
    elim (cases_eq c.0 a.0) [
      | inl same ↦
          let here : entry (slice_set first a.0 (Some (length seen))) a.0 ≡ Some (length seen) = entry-set_same first a.0 (Some (length seen)) within in
          let last : slice_get (seen ++ Imply a b ∷ []) (length seen) ≡ Some (Imply a b) = slice_get-push_at seen (Imply a b) in
          let bit : c ≡ a = same_bit c a same in
          (b, cc)
      | inr other ↦
          let old : entry (slice_set first a.0 (Some (length seen))) c.0 ≡ entry first c.0 = entry-set_other first a.0 c.0 (Some (length seen)) other in
          let r : (d : Bit) × (slice_get seen j ≡ Some (Imply c d)) = g.first_is c j cc in
          (r.0, slice_get-append_left seen _ j _ r.1)
    ]

imply-first_all : (seen : List Form) (first next : List (Option ℕ)) (a b : Bit) → IsGraph seen first next → a.0 < length first → (c d : Bit) (j : ℕ) → slice_get (seen ++ Imply a b ∷ []) j ≡ Some (Imply c d) → (m : ℕ) × (entry (slice_set first a.0 (Some (length seen))) c.0 ≡ Some m) × (j ≤ m)
imply-first_all seen first next a b g within c d j e =
    let here : entry (slice_set first a.0 (Some (length seen))) a.0 ≡ Some (length seen) = entry-set_same first a.0 (Some (length seen)) within in
    elim (slice_get-push_cases seen (Imply a b) j (Imply c d) e) [
      | inl old ↦
          elim (cases_eq c.0 a.0) [
            | inl same ↦
                let bit : c ≡ a = same_bit c a same in
                let below : j < length seen = slice_get_within seen j _ old in
                (length seen, cc, omega arith)
            | inr other ↦
                let kept : entry (slice_set first a.0 (Some (length seen))) c.0 ≡ entry first c.0 = entry-set_other first a.0 c.0 (Some (length seen)) other in
                let r : (m : ℕ) × (entry first c.0 ≡ Some m) × (j ≤ m) = g.first_all c d j old in
                (r.0, kept ∙ r.1, r.2)
          ]
      | inr new ↦
          let form : Imply a b ≡ Imply c d = new.1 in
          let bit : c ≡ a = cc in
          (length seen, cc, omega (arith, new.0))
    ]

imply-next_is : (seen : List Form) (first next : List (Option ℕ)) (a b : Bit) → IsGraph seen first next → a.0 < length first → (c d : Bit) (j m : ℕ) → slice_get (seen ++ Imply a b ∷ []) j ≡ Some (Imply c d) → entry (next ++ entry first a.0 ∷ []) j ≡ Some m → (m < j) × ((f : Bit) × (slice_get (seen ++ Imply a b ∷ []) m ≡ Some (Imply c f)))
imply-next_is seen first next a b g within c d j m e h =
    elim (slice_get-push_cases seen (Imply a b) j (Imply c d) e) [
      | inl old ↦
          let below : j < length seen = slice_get_within seen j _ old in
          let kept : entry (next ++ entry first a.0 ∷ []) j ≡ entry next j = entry-push_left next _ j (omega (arith, g.count)) in
          let r : (m < j) × ((f : Bit) × (slice_get seen m ≡ Some (Imply c f))) = g.next_is c d j m old cc in
          (r.0, (r.1.0, slice_get-append_left seen _ m _ r.1.1))
      | inr new ↦
          let form : Imply a b ≡ Imply c d = new.1 in
          let bit : a ≡ c = cc in
          let here : entry (next ++ entry first a.0 ∷ []) j ≡ entry first a.0 = entry-push_at next _ j (new.0 ∙ sym g.count) in
          let r : (f : Bit) × (slice_get seen m ≡ Some (Imply a f)) = g.first_is a m cc in
          let below : m < length seen = slice_get_within seen m _ r.1 in
          let at : slice_get (seen ++ Imply a b ∷ []) m ≡ Some (Imply a r.0) = slice_get-append_left seen _ m _ r.1 in
          (omega (arith, new.0), (r.0, cc))
    ]

imply-next_all : (seen : List Form) (first next : List (Option ℕ)) (a b : Bit) → IsGraph seen first next → a.0 < length first → (c d f : Bit) (j m : ℕ) → slice_get (seen ++ Imply a b ∷ []) m ≡ Some (Imply c f) → slice_get (seen ++ Imply a b ∷ []) j ≡ Some (Imply c d) → j < m → (l : ℕ) × (entry (next ++ entry first a.0 ∷ []) m ≡ Some l) × (j ≤ l)
imply-next_all seen first next a b g within c d f j m e h lt =
    elim (slice_get-push_cases seen (Imply a b) j (Imply c d) h) [
      | inr last ↦
          let end' : m < length (seen ++ Imply a b ∷ []) = slice_get_within (seen ++ Imply a b ∷ []) m _ e in
          absurd (omega (arith, last.0, length_push seen (Imply a b)))
      | inl early ↦
          elim (slice_get-push_cases seen (Imply a b) m (Imply c f) e) [
            | inl old ↦
                let below : m < length seen = slice_get_within seen m _ old in
                let kept : entry (next ++ entry first a.0 ∷ []) m ≡ entry next m = entry-push_left next _ m (omega (arith, g.count)) in
                let r : (l : ℕ) × (entry next m ≡ Some l) × (j ≤ l) = g.next_all c d f j m old early lt in
                (r.0, kept ∙ r.1, r.2)
            | inr new ↦
                let form : Imply a b ≡ Imply c f = new.1 in
                let bit : c ≡ a = cc in
                let here : entry (next ++ entry first a.0 ∷ []) m ≡ entry first a.0 = entry-push_at next _ m (new.0 ∙ sym g.count) in
                let r : (l : ℕ) × (entry first c.0 ≡ Some l) × (j ≤ l) = g.first_all c d j early in
                (r.0, cc, r.2)
          ]
    ]

pub IsGraph-imply : (seen : List Form) (first next : List (Option ℕ)) (a b : Bit) → IsGraph seen first next → a.0 < length first → IsGraph (seen ++ Imply a b ∷ []) (slice_set first a.0 (Some (length seen))) (next ++ entry first a.0 ∷ [])
IsGraph-imply seen first next a b g within = record {
  count = length_push next (entry first a.0) ∙ (ap (λ n. n + 1) g.count ∙ sym (length_push seen (Imply a b)));
  first_is = imply-first_is seen first next a b g within;
  next_is = imply-next_is seen first next a b g within;
  first_all = imply-first_all seen first next a b g within;
  next_all = imply-next_all seen first next a b g within;
}

-- The next form is no implication.
pub IsGraph-other : (seen : List Form) (first next : List (Option ℕ)) (new : Form) → IsGraph seen first next → ((a b : Bit) → new ≡ Imply a b → ⊥) → IsGraph (seen ++ new ∷ []) first (next ++ None ∷ [])
IsGraph-other seen first next new g other = record {
  count = length_push next None ∙ (ap (λ n. n + 1) g.count ∙ sym (length_push seen new));
  first_is = λ a j e. let r : (b : Bit) × (slice_get seen j ≡ Some (Imply a b)) = g.first_is a j e in (r.0, slice_get-append_left seen _ j _ r.1);
  next_is = λ a b j m e h. elim (slice_get-push_cases seen new j (Imply a b) e) [
    | inl old ↦
        let below : j < length seen = slice_get_within seen j _ old in
        let kept : entry (next ++ None ∷ []) j ≡ entry next j = entry-push_left next _ j (omega (arith, g.count)) in
        let r : (m < j) × ((c : Bit) × (slice_get seen m ≡ Some (Imply a c))) = g.next_is a b j m old (sym kept ∙ h) in
        (r.0, (r.1.0, slice_get-append_left seen _ m _ r.1.1))
    | inr last ↦ absurd (other a b last.1)
  ];
  first_all = λ a b j e. elim (slice_get-push_cases seen new j (Imply a b) e) [ inl old ↦ g.first_all a b j old | inr last ↦ absurd (other a b last.1) ];
  next_all = λ a b c j m e h lt. elim (slice_get-push_cases seen new m (Imply a c) e) [
    | inr last ↦ absurd (other a c last.1)
    | inl old ↦ elim (slice_get-push_cases seen new j (Imply a b) h) [
      | inr last ↦ absurd (other a b last.1)
      | inl early ↦
          let below : m < length seen = slice_get_within seen m _ old in
          let kept : entry (next ++ None ∷ []) m ≡ entry next m = entry-push_left next _ m (omega (arith, g.count)) in
          let r : (l : ℕ) × (entry next m ≡ Some l) × (j ≤ l) = g.next_all a b c j m old early lt in
          (r.0, kept ∙ r.1, r.2)
    ]
  ];
}

-- The next form forbids a bit.
pub IsMarked-forbid : (seen : List Form) (forbidden : List (Option ℕ)) (b : Bit) → IsMarked seen forbidden → b.0 < length forbidden → IsMarked (seen ++ Forbid b ∷ []) (slice_set forbidden b.0 (Some (length seen)))
IsMarked-forbid seen forbidden b m within =
    let here : entry (slice_set forbidden b.0 (Some (length seen))) b.0 ≡ Some (length seen) = entry-set_same forbidden b.0 (Some (length seen)) within in
    let last : slice_get (seen ++ Forbid b ∷ []) (length seen) ≡ Some (Forbid b) = slice_get-push_at seen (Forbid b) in
    record {
      is = λ c j e. elim (cases_eq c.0 b.0) [
        | inl same ↦ let bit : c ≡ b = same_bit c b same in cc
        | inr other ↦
            let old : entry (slice_set forbidden b.0 (Some (length seen))) c.0 ≡ entry forbidden c.0 = entry-set_other forbidden b.0 c.0 (Some (length seen)) other in
            slice_get-append_left seen _ j _ (m.is c j (sym old ∙ e))
      ];
      all = λ c j e. elim (cases_eq c.0 b.0) [
        | inl same ↦ (length seen, cc)
        | inr other ↦
            let kept : entry (slice_set forbidden b.0 (Some (length seen))) c.0 ≡ entry forbidden c.0 = entry-set_other forbidden b.0 c.0 (Some (length seen)) other in
            elim (slice_get-push_cases seen (Forbid b) j (Forbid c) e) [
              | inl old ↦ let r : (n : ℕ) × (entry forbidden c.0 ≡ Some n) = m.all c j old in (r.0, kept ∙ r.1)
              | inr new ↦ let form : Forbid b ≡ Forbid c = new.1 in let bit : c ≡ b = cc in absurd (other (ap (λ (x : Bit). x.0) bit))
            ]
      ];
    }

-- The next form forbids none.
pub IsMarked-other : (seen : List Form) (forbidden : List (Option ℕ)) (new : Form) → IsMarked seen forbidden → ((b : Bit) → new ≡ Forbid b → ⊥) → IsMarked (seen ++ new ∷ []) forbidden
IsMarked-other seen forbidden new m other = record {
  is = λ b j e. slice_get-append_left seen _ j _ (m.is b j e);
  all = λ b j e. elim (slice_get-push_cases seen new j (Forbid b) e) [ inl old ↦ m.all b j old | inr last ↦ absurd (other b last.1) ];
}
