use Rattle.std.proofs.Common.{[], ◌∷◌, refl, ap, ◌∙◌}
use Rattle.hm_steps.proofs.RowParts.{if_ok_each, first_then, term_is, function_is}
use Rattle.hm_steps.proofs.matches.function_row.Goals as goal

pub returns : goal.returns
returns c = if_ok_each _ (λ es names h.
    first_then _ es _ _ _ _ c.in_ok-own.ensures (term_is _ _ _ _ (function_is _ _ _ _ (c.in_ok-params.ensures ∙ ap (λ z. z ∷ []) c.fresh.ensures) (c.in_ok-new.ensures ∙ c.fresh-2.ensures))) (h names) refl) c.arms_are.ensures
