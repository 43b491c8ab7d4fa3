-- Names that are taken, by the marks of a round.
use Rattle.std.specs.Prelude.{◌≡◌, ◌≤◌, ◌<◌, ◌==◌, ℕ, List, ◌∷◌, ◌++◌, length, get_or}
use Rattle.std.specs.List.{list_any}
use Rattle.ml_meaning.specs.Captures.{free}
use Rattle.ml_functions.specs.declared.marks.Marks.{Marks}

-- no mark is of a later round
pub record Fresh (m : Marks) : Type 0 where
  pub below : (k : ℕ) → k < length m.marks.items → get_or m.marks.items k 0 ≤ m.round

-- a name with a mark is taken where it is in this list
pub record Takes (m : Marks) (taken : List ℕ) : Type 0 where
  pub by : (k : ℕ) → k < length m.marks.items → (get_or m.marks.items k 0 == m.round) ≡ list_any (λ n. n == k) taken

-- from some marks to others and from some names found to others, the name being added where it was not taken
pub record Adds (old new : Marks) (name : ℕ) (before after : List ℕ) : Type 0 where
  pub by : (taken rest : List ℕ) → Takes old taken → (more : List ℕ) × (Takes new more) × (before ++ free taken (name ∷ rest) ≡ after ++ free more rest)
