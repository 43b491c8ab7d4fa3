-- The local names that some nodes use and that have their binders elsewhere.
use Rattle.std.specs.Prelude.{ℕ, List, [], Option, Some, nat_eq, map, if◌then◌else◌}
use Rattle.std.specs.Map.{lookup}
use Rattle.std.specs.List.{list_any}
use Rattle.indexmap.specs.IndexSet.{insert_key}
use Rattle.ml_tree.specs.declared.reference.Ref.{Ref}
use Rattle.ml_tree.specs.declared.reference.Ref.TheVariants.{Local}
use Rattle.ml_scope.specs.Journal.{each}

-- what a node names
abbrev pub target_at : List (ℕ × Ref) → ℕ → Option Ref
target_at refs node = lookup (nat_eq node) refs

-- a local name that is bound at none of the nodes, once
abbrev pub with_free : List ℕ → Option Ref → List ℕ → List ℕ
with_free nodes (Some (Local binder)) names = if list_any (nat_eq binder) nodes then names else insert_key nat_eq names binder
with_free nodes _ names = names

abbrev pub free_at : List (ℕ × Ref) → List ℕ → ℕ → List ℕ → List ℕ
free_at refs nodes node names = with_free nodes (target_at refs node) names

-- those of the nodes, in the order of first use
abbrev pub free_names : List (ℕ × Ref) → List ℕ → List ℕ
free_names refs nodes = each (map (free_at refs nodes) nodes) []
