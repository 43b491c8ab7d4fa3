-- The captures of functions, as a journal has them: a function captures each local name, once, that it uses and that is bound outside it.
use Rattle.std.specs.Prelude.{ℕ, ◌+◌, ◌≤◌, List, [], ◌∷◌, ◌++◌, map, drop, Option, Some, None, Bool, ◌&&◌, if◌then◌else◌, nat_lt, nat_eq}
use Rattle.std.specs.Option.{unwrap_or}
use Rattle.std.specs.List.{list_any}
use Rattle.ml_tree.specs.declared.reference.Ref.TheVariants as r
use Rattle.ml_scope.specs.declared.found.Found.{Found}
use Rattle.ml_scope.specs.declared.found.Found.TheVariants.{Names, Itself, Opens, Closes}
use Rattle.ml_scope.specs.Journal.{Journal, each}

abbrev pub same_pair : ℕ × ℕ → ℕ × ℕ → Bool
same_pair p q = nat_eq p.0 q.0 && nat_eq p.1 q.1

-- a pair is put down once
abbrev pub once : ℕ × ℕ → List (ℕ × ℕ) → List (ℕ × ℕ)
once pair captures = if list_any (same_pair pair) captures then captures else captures ++ pair ∷ []

-- a use of a local name: each function around it that the name is bound outside of captures the name. What is bound outside a function has a number below the function's
abbrev pub used : List ℕ → ℕ → List (ℕ × ℕ) → List (ℕ × ℕ)
used [] binder captures = captures
used (function ∷ around) binder captures = used around binder (if nat_lt binder function then once (function, binder) captures else captures)

-- the functions around, the innermost first; the binder that names the next; and each function with each local name that it captures
pub record Captured : Type 0 where
  pub around : List ℕ
  pub itself : Option ℕ
  pub captures : List (ℕ × ℕ)

-- a recursive function goes by the number of the binder that names it, so that it does not capture itself
abbrev pub with_capture : Found → Captured → Captured
with_capture (Itself node) c = record { around = c.around; itself = Some node; captures = c.captures }
with_capture (Opens node) c = record { around = unwrap_or c.itself node ∷ c.around; itself = None; captures = c.captures }
with_capture Closes c = record { around = drop 1 c.around; itself = c.itself; captures = c.captures }
with_capture (Names node (r.Local binder)) c = record { around = c.around; itself = c.itself; captures = used c.around binder c.captures }
with_capture _ c = c

abbrev pub captures : Journal → List (ℕ × ℕ)
captures js = (each (map with_capture js) (record { around = []; itself = None; captures = [] })).captures

-- ---- the functions begin in the order of their numbers

abbrev pub open_number : Found → List ℕ
open_number (Itself node) = node ∷ []
open_number (Opens node) = node ∷ []
open_number _ = []

abbrev pub opened : Journal → List ℕ
opened [] = []
opened (found ∷ js) = open_number found ++ opened js

abbrev pub RiseFrom : ℕ → List ℕ → Type 0
RiseFrom low [] = Unit {0}
RiseFrom low (n ∷ ns) = (low ≤ n) × RiseFrom (n + 1) ns

pub record OpensRise (js : Journal) : Type 0 where
  pub rise : RiseFrom 0 (opened js)
