use Rattle.std.proofs.Common.{◌≡◌, ◌↔◌, ◌∙◌, ℕ, List, true, Some, slice_get, subst}
use Rattle.graph_cycles.specs.Paths.{Path}
use Rattle.ml_decls.proofs.cycles.report_cycles.Goals as goal

pub returns : goal.returns
returns c = record {
  marks = c.in_ok-marks.marks.items;
  exact = subst (λ (g : List (List ℕ)). (v : ℕ) → (slice_get c.in_ok-marks.marks.items v ≡ Some true) ↔ Path g v v) (c.as_slice.ensures ∙ c.in_ok-graph.ensures) c.in_ok-marks.ensures;
  added = rw c.as_slice-2.ensures.value at c.in_ok-report_marked.ensures;
}
