use Rattle.std.proofs.Common.{slice_get, sym, ap, ◌∙◌}
use Rattle.hm_steps.proofs.RowParts.{value_from, value_none}
use Rattle.hm_steps.proofs.bind_rows.value_span.Goals as goal

pub returns-in-Some : goal.returns-in-Some
returns-in-Some c = λ names. value_from names _ _ _ (ap (λ z. slice_get z 0) (sym c.as_slice.ensures) ∙ sym c.in-Some.ensures)

pub returns-in-None : goal.returns-in-None
returns-in-None c = λ names. value_none names _ _ (ap (λ z. slice_get z 0) (sym c.as_slice.ensures) ∙ sym c.in-None.ensures)
