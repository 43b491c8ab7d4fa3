use Rattle.std.proofs.Common.{◌≡◌, ℕ, nat_eq}
use Rattle.std.specs.HashMap.{get}
use Rattle.ml_typing.specs.Terms.{Shape}
use Rattle.hm_terms.specs.Stores.{store, IsReady, Grows}
use Rattle.hm_terms.specs.Shapes.{Puts}
use Rattle.hm_terms.specs.Copies.{Copied}
use Rattle.hm_terms.specs.Slots.{places, StepKeeps, none_copied}
use Rattle.hm_terms.proofs.instances.instance.Given as goal

abbrev pub invariant-loop-step : goal.invariant-loop-step
invariant-loop-step l = record {
  copied : (f : ℕ → Shape) → IsReady (store l.initial.solver) → Puts (store l.initial.solver) l.put f → Grows (store l.initial.solver) (store l.solver) × Copied (store l.initial.solver) (store l.solver) f (get nat_eq l.copies);
  keeps : IsReady (store l.initial.solver) → StepKeeps (store l.initial.solver) (store l.solver) (places l.put) none_copied (get nat_eq l.copies);
  slots : l.solver.slots ≡ l.initial.solver.slots;
}
