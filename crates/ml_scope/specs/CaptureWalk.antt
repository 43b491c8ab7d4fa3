-- How a walk along a journal counts captures: it goes outward from a use, and stops at the function in which the name is bound, or at one that has captured the name before.
use Rattle.std.specs.Prelude.{ℕ, List, [], ◌∷◌, ◌++◌, map, drop, Some, None, ◌&&◌, not, if◌then◌else◌, nat_lt}
use Rattle.std.specs.Option.{unwrap_or}
use Rattle.std.specs.List.{list_any}
use Rattle.ml_tree.specs.declared.reference.Ref.TheVariants as r
use Rattle.ml_scope.specs.declared.found.Found.{Found}
use Rattle.ml_scope.specs.declared.found.Found.TheVariants.{Names, Itself, Opens, Closes}
use Rattle.ml_scope.specs.Journal.{Journal, each}
use Rattle.ml_scope.specs.Captures.{same_pair, Captured}

abbrev pub outward : List ℕ → ℕ → List (ℕ × ℕ) → List (ℕ × ℕ)
outward [] binder captures = captures
outward (function ∷ around) binder captures = if nat_lt binder function && not (list_any (same_pair (function, binder)) captures) then outward around binder (captures ++ (function, binder) ∷ []) else captures

abbrev pub step : Found → Captured → Captured
step (Itself node) c = record { around = c.around; itself = Some node; captures = c.captures }
step (Opens node) c = record { around = unwrap_or c.itself node ∷ c.around; itself = None; captures = c.captures }
step Closes c = record { around = drop 1 c.around; itself = c.itself; captures = c.captures }
step (Names node (r.Local binder)) c = record { around = c.around; itself = c.itself; captures = outward c.around binder c.captures }
step _ c = c

abbrev pub walked : Journal → List (ℕ × ℕ)
walked js = (each (map step js) (record { around = []; itself = None; captures = [] })).captures
