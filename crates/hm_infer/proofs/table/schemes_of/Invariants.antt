use Rattle.std.proofs.Common.{ℕ, ◌≤◌, Option}
use Rattle.ml_types.specs.Types.{Tree}
use Rattle.hm_terms.specs.Stores.{store}
use Rattle.hm_terms.specs.Contexts.{ShowsAny}
use Rattle.hm_infer.specs.Tables.{Collects}
use Rattle.hm_infer.proofs.table.schemes_of.Given as goal

abbrev pub invariant-loop-number : goal.invariant-loop-number
invariant-loop-number l = record { collected : (named : ℕ → Option Tree) → ((b : ℕ) → ShowsAny (store l.solver) ((store l.solver).schemes b) (named b)) → Collects (store l.solver).nodes (store l.solver).bound named l.number l.schemes; below : l.number ≤ l.count }
