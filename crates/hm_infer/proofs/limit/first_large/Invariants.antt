use Rattle.std.proofs.Common.{◌≤◌, length}
use Rattle.ml_typing.specs.Terms.{Context}
use Rattle.hm_terms.specs.Stores.{store}
use Rattle.hm_terms.specs.Contexts.{IsRead}
use Rattle.hm_infer.specs.Sizes.{MakesLarge}
use Rattle.hm_infer.proofs.Narrowing.{Searching}
use Rattle.hm_infer.proofs.limit.first_large.Given as goal

abbrev pub invariant-loop-run : goal.invariant-loop-run
invariant-loop-run l = record {
  within : l.high ≤ length l.steps;
  searching : (c : Context) → IsRead (store l.initial.solver) l.d.types c → MakesLarge c l.steps → Searching (store l.solver) l.d.types c l.steps l.low l.high;
}
