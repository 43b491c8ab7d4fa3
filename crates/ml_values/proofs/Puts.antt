-- A loop that tells each byte of a text.
use Rattle.std.proofs.Common.{◌≡◌, ℕ, ◌+◌, ◌<◌, ◌≤◌, List, [], ◌∷◌, ◌++◌, length, get_or, drop, refl, sym, ap, ◌∙◌, add-one, drop-cons}
use Rattle.std.proofs.lemmas.List.{append_assoc, append-nil, drop_all}
use Rattle.ml_meaning.specs.declared.event.Event.{Event}
use Rattle.ml_meaning.specs.declared.event.Event.TheVariants.{Put}
use Rattle.ml_values.specs.Telling.{puts}

-- what is told, and what the bytes from this index on tell, is what was told before and what all tell
pub record Puts (channel : ℕ) (bytes : List ℕ) (i : ℕ) (before now : List Event) : Type 0 where
  pub so_far : now ++ puts channel (drop i bytes) ≡ before ++ puts channel bytes

pub puts_start : (channel : ℕ) (bytes : List ℕ) (before : List Event) → Puts channel bytes 0 before before
puts_start channel bytes before = record { so_far = refl }

drop_here : (bytes : List ℕ) (i : ℕ) → i < length bytes → drop i bytes ≡ get_or bytes i 0 ∷ drop (i + 1) bytes
drop_here bytes i lt = rw add-one (drop-cons bytes i 0 lt)

pub puts_step : (channel : ℕ) (bytes : List ℕ) (i : ℕ) (before now after : List Event) → i < length bytes → after ≡ now ++ Put channel (get_or bytes i 0) ∷ [] → Puts channel bytes i before now → Puts channel bytes (i + 1) before after
puts_step channel bytes i before now after lt e g = record {
  so_far =
      ap (λ es. es ++ puts channel (drop (i + 1) bytes)) e
      ∙ (append_assoc now (Put channel (get_or bytes i 0) ∷ []) (puts channel (drop (i + 1) bytes))
      ∙ (ap (λ bs. now ++ puts channel bs) (sym (drop_here bytes i lt)) ∙ g.so_far));
}

pub puts_end : (channel : ℕ) (bytes : List ℕ) (i : ℕ) (before now : List Event) → length bytes ≤ i → Puts channel bytes i before now → now ≡ before ++ puts channel bytes
puts_end channel bytes i before now le g =
    sym (append-nil now) ∙ (ap (λ bs. now ++ puts channel bs) (sym (drop_all i bytes le)) ∙ g.so_far)
