use Rattle.std.proofs.Common.{ap, ◌∙◌}
use Rattle.std.specs.List.{slice_get}
use Rattle.hm_unify.proofs.Growth.{IsSound-new}
use Rattle.hm_unify.proofs.bindings.Bindings.new.Goals as goal

pub invariant_of-result : goal.invariant_of-result
invariant_of-result c =
    IsSound-new c.args.t.nodes c.in_ok-bound.bound.items c.requires c.in_ok-bound.ensures.free (λ i m n h v. c.in_ok-bound.ensures.covers i m n (ap (λ s. slice_get s i) c.as_slice.ensures ∙ h) v)
