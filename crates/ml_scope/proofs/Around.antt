-- The functions around a use, walked from the innermost on.
use Rattle.std.proofs.Common.{◌≡◌, ℕ, suc, ◌+◌, ◌<◌, ◌≤◌, List, [], ◌∷◌, ◌++◌, Bool, true, false, ◌&&◌, not, nat_lt, if◌then◌else◌, refl, sym, ap, ◌∙◌, subst, arith, take, drop, reverse, length, map, slice_index_or, length-append}
use Rattle.std.specs.List.{list_any}
use Rattle.std.proofs.lemmas.List.{reverse-append, drop_all}
use Rattle.std.proofs.Math.Seq.{take-suc}
use Rattle.ml_tree.specs.declared.reference.Ref.TheVariants as r
use Rattle.ml_scope.specs.declared.found.Found.{Found}
use Rattle.ml_scope.specs.declared.found.Found.TheVariants.{Names, NamesType, Variable, Anew, Lists, Offends, Itself, Opens, Closes}
use Rattle.ml_scope.specs.Journal.{Journal, each}
use Rattle.ml_scope.specs.Captures.{same_pair, Captured}
use Rattle.ml_scope.specs.CaptureWalk.{outward, step}

-- the innermost of the first functions
innermost : (around : List ℕ) (at : ℕ) → at < length around → reverse (take (at + 1) around) ≡ slice_index_or around at 0 ∷ reverse (take at around)
innermost around at h = let e : at + 1 ≡ suc at = omega arith in rw (e, take-suc around at 0 h) (reverse-append (take at around) (slice_index_or around at 0 ∷ []))

pub outward_step : (around : List ℕ) (at : ℕ) (binder : ℕ) (captures : List (ℕ × ℕ)) → at < length around → outward (reverse (take (at + 1) around)) binder captures ≡ (if nat_lt binder (slice_index_or around at 0) && not (list_any (same_pair (slice_index_or around at 0, binder)) captures) then outward (reverse (take at around)) binder (captures ++ (slice_index_or around at 0, binder) ∷ []) else captures)
outward_step around at binder captures h = ap (λ fs. outward fs binder captures) (innermost around at h)

pub outward_none : (around : List ℕ) (binder : ℕ) (captures : List (ℕ × ℕ)) → outward (reverse (take 0 around)) binder captures ≡ captures
outward_none around binder captures = refl

outward_grows : (around : List ℕ) (binder : ℕ) (captures : List (ℕ × ℕ)) → length captures ≤ length (outward around binder captures)
outward_grows [] binder captures = omega arith
outward_grows (f ∷ fs) binder captures = picked (nat_lt binder f && not (list_any (same_pair (f, binder)) captures)) (outward_grows fs binder (captures ++ (f, binder) ∷ []))
  where
    picked : (b : Bool) → length (captures ++ (f, binder) ∷ []) ≤ length (outward fs binder (captures ++ (f, binder) ∷ [])) → length captures ≤ length (if b then outward fs binder (captures ++ (f, binder) ∷ []) else captures)
    picked true h = omega (arith, h, length-append {A = ℕ × ℕ})
    picked false h = omega arith

capture_grows : (found : Found) (c : Captured) → length c.captures ≤ length (step found c).captures
capture_grows (Itself n) c = omega arith
capture_grows (Opens n) c = omega arith
capture_grows Closes c = omega arith
capture_grows (Names n (r.Local b)) c = outward_grows c.around b c.captures
capture_grows (Names n (r.Top b)) c = omega arith
capture_grows (Names n (r.Operation o)) c = omega arith
capture_grows (Names n (r.Con d p)) c = omega arith
capture_grows (Names n (r.Field d p)) c = omega arith
capture_grows (Names n (r.Decl d)) c = omega arith
capture_grows (NamesType n d) c = omega arith
capture_grows (Variable n s) c = omega arith
capture_grows Anew c = omega arith
capture_grows (Lists s) c = omega arith
capture_grows (Offends x) c = omega arith

captures_grow : (js : Journal) (c : Captured) → length c.captures ≤ length (each (map step js) c).captures
captures_grow [] c = omega arith
captures_grow (f ∷ js) c = omega (arith, capture_grows f c, captures_grow js (step f c))

-- what is captured so far is among all that is
pub many_so_far : (js rest : Journal) (c start : Captured) → each (map step rest) c ≡ each (map step js) start → 100000 < length c.captures → 100000 < length (each (map step js) start).captures
many_so_far js rest c start e h = let g = captures_grow rest c in subst (λ (d : Captured). 100000 < length d.captures) e (omega (arith, g, h))

pub few_at_end : (js : Journal) (k : ℕ) (c start : Captured) → length js ≤ k → each (map step (drop k js)) c ≡ each (map step js) start → length c.captures ≤ 100000 → length (each (map step js) start).captures ≤ 100000
few_at_end js k c start h e few =
    let all : c ≡ each (map step js) start = ap (λ (rest : Journal). each (map step rest) c) (sym (drop_all k js h)) ∙ e in
    subst (λ (d : Captured). length d.captures ≤ 100000) all few

pub opened : (around : List ℕ) (number : ℕ) → reverse (around ++ number ∷ []) ≡ number ∷ reverse around
opened around number = reverse-append around (number ∷ [])

pub closed : (old new : List ℕ) (number : ℕ) → old ≡ new ++ number ∷ [] → reverse new ≡ drop 1 (reverse old)
closed old new number e = sym (ap (λ xs. drop 1 (reverse xs)) e ∙ ap (drop 1) (reverse-append new (number ∷ [])))
