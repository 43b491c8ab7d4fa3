-- Loops that match one pattern after the other.
use Rattle.std.proofs.Common.{◌≡◌, ℕ, List, Option, map, drop}
use Rattle.ml_meaning.specs.Names.{References}
use Rattle.ml_meaning.specs.Patterns as p
use Rattle.ml_meaning.specs.Values.{Value}
use Rattle.ml_tree.specs.declared.pattern.FieldPat.{FieldPat}
use Rattle.ml_matching.specs.Fitting.{onto, field_meaning}

-- what all patterns find in the whole, on the names from before, is what those from this index on
-- find in the rest, on the names that were found so far
pub record Walks {A S : Type 0} (walk : List A → S → Option p.Env) (xs : List A) (whole : S) (i : ℕ) (rest : S) (before now : p.Env) : Type 0 where
  pub so_far : onto before (walk xs whole) ≡ onto now (walk (drop i xs) rest)

-- patterns beside a list of values
abbrev pub along : {A : Type 0} → (A → p.Fits) → List A → List Value → Option p.Env
along f xs vs = p.all_fit (map f xs) vs

-- patterns beside the elements of a list of the program
abbrev pub down : {A : Type 0} → (A → p.Fits) → List A → Value → Option p.Env
down f xs v = p.list_fits (map f xs) v

-- the fields of a record pattern
abbrev pub by_name : References → List FieldPat → List Value → Option p.Env
by_name refs fs vs = p.record_fits refs (map (field_meaning refs) fs) vs
