use Rattle.std.proofs.Common.{◌≡◌, ℕ, ◌<◌, take, Some}
use Rattle.std.specs.List.{slice_get}
use Rattle.ml_types.specs.declared.node.TyId.{TyId}
use Rattle.ml_types.specs.Types.{Tree, trees, parts_of}
use Rattle.hm_unify.specs.Solutions.{Equates}
use Rattle.hm_unify.specs.Closing.{PairsWithin}
use Rattle.hm_unify.proofs.closure.push_parts.Given as goal

abbrev pub invariant-loop-at : goal.invariant-loop-at
invariant-loop-at l = record {
  old : (d : TyId → Tree) → Equates d l.todo.items → Equates d l.initial.todo.items;
  parts : (d : TyId → Tree) → Equates d l.todo.items → trees d (take l.at (parts_of l.left)) ≡ trees d (take l.at (parts_of l.right));
  new : (d : TyId → Tree) → Equates d l.initial.todo.items → trees d (parts_of l.left) ≡ trees d (parts_of l.right) → Equates d l.todo.items;
  within : (n : ℕ) → ((i : ℕ) (p : TyId) → slice_get (parts_of l.left) i ≡ Some p → p.0 < n) → ((i : ℕ) (p : TyId) → slice_get (parts_of l.right) i ≡ Some p → p.0 < n) → PairsWithin n l.initial.todo.items → PairsWithin n l.todo.items;
}
