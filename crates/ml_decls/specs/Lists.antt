-- What stands in a list.
use Rattle.std.specs.Prelude.{◌≡◌, ◌⊎◌, ℕ, List, [], ◌∷◌, Option, Some, None, cond, nat_eq}

-- a is an item of a list
abbrev pub IsIn : {A : Type 0} → A → List A → Type 0
IsIn a [] = ⊥
IsIn a (x ∷ xs) = (a ≡ x) ⊎ IsIn a xs

-- what stands at a number in a list of pairs
abbrev pub find : {A : Type 0} → List (ℕ × A) → ℕ → Option A
find [] n = None
find (p ∷ ps) n = cond (nat_eq p.0 n) (Some p.1) (find ps n)
