-- Lists of pairs in the order of their numbers.
use Rattle.std.specs.Prelude.{◌≡◌, ◌<◌, ℕ, List, Some, slice_get}

-- the numbers rise
abbrev pub Rises : {A : Type 0} → List (ℕ × A) → Type 0
Rises {A} xs = (i j : ℕ) (p q : ℕ × A) → i < j → slice_get xs i ≡ Some p → slice_get xs j ≡ Some q → p.0 < q.0

-- the pair of this number and this value is in the list
abbrev pub Has : {A : Type 0} → List (ℕ × A) → ℕ → A → Type 0
Has xs n a = (k : ℕ) × (slice_get xs k ≡ Some (n, a))
