use Rattle.std.proofs.Common.{refl}
use Rattle.graph_cycles.proofs.Certificates.{all_marked}
use Rattle.graph_cycles.proofs.cycles.on_cycles.Goals as goal

pub returns-then-is_certified : goal.returns-then-is_certified
returns-then-is_certified c = λ v. (c.in_ok-walk.ensures v, λ p. rw (← c.as_slice-2.ensures.value) (all_marked _ _ v (c.if-is_certified.ensures refl) p))
