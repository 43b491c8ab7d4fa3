-- Steps that hand out numbers: from the next numbers to a value and the numbers behind it.
use Rattle.std.specs.Prelude.{ℕ, ◌+◌, List, [], ◌∷◌, Option, Some, None}
use Rattle.ml_numbers.specs.declared.next.Next.{Next}

abbrev pub Step : Type 0 → Type 0
Step A = Next → A × Next

abbrev pub done : {A : Type 0} → A → Step A
done x n = (x, n)

infixl 30 ◌>>=◌
-- one step, and the next with its value
abbrev pub ◌>>=◌ : {A B : Type 0} → Step A → (A → Step B) → Step B
(m >>= f) n = f (m n).0 (m n).1

-- the number of a node
abbrev pub node : Step ℕ
node n = (n.nodes, record { nodes = n.nodes + 1; types = n.types })

-- the number of a type expression
abbrev pub of_type : Step ℕ
of_type n = (n.types, record { nodes = n.nodes; types = n.types + 1 })

abbrev pub one : {A B : Type 0} → Step A → (A → B) → Step B
one a f = a >>= λ x. done (f x)

abbrev pub two : {A B C : Type 0} → Step A → Step B → (A → B → C) → Step C
two a b f = a >>= λ x. b >>= λ y. done (f x y)

abbrev pub three : {A B C D : Type 0} → Step A → Step B → Step C → (A → B → C → D) → Step D
three a b c f = a >>= λ x. b >>= λ y. c >>= λ z. done (f x y z)

-- a list of steps, the first one first
abbrev pub each : {A : Type 0} → List (Step A) → Step (List A)
each [] = done []
each (m ∷ ms) = two m (each ms) ◌∷◌

abbrev pub perhaps : {A : Type 0} → Option (Step A) → Step (Option A)
perhaps None = done None
perhaps (Some m) = one m Some
