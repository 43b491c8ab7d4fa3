use Rattle.std.proofs.Common.{ℕ, Option, List, sym, ◌∙◌, subst}
use Rattle.mode_solver.specs.Reaching.{IsOn}
use Rattle.mode_solver.proofs.Searches.{blocked_then}
use Rattle.mode_solver.proofs.search.Search.propagate.Goals as goal

pub returns-clause-blocked : goal.returns-clause-blocked
returns-clause-blocked c = blocked_then c.propagate.result c.propagate.ensures.reach c.propagate.ensures.count c.propagate.ensures.blocked (λ b reach count on.
    let P : List (Option ℕ) → Type 0 = λ list. IsOn list b in
    record {
      marked = c.requires.search.marked;
      reach = reach;
      on = on.0;
      forbids = subst P c.as_slice.ensures.value on.1;
      forbidden_count = c.requires.search.forbidden_count ∙ sym count;
    })
