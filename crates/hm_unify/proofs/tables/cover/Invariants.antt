use Rattle.std.proofs.Common.{◌≡◌, ℕ, ◌≤◌, length, None, get_or}
use Rattle.hm_unify.proofs.tables.cover.Given as goal

abbrev pub invariant-loop-at : goal.invariant-loop-at
invariant-loop-at l = record {
  same : (n : ℕ) → get_or l.bound.items n None ≡ get_or l.initial.bound.items n None;
  longer : length l.initial.bound.items ≤ length l.bound.items;
  reached : length l.bound.items ≡ l._at;
}
