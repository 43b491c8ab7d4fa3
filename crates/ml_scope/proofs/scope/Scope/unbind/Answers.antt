use Rattle.std.proofs.Common.{refl, subst}
use Rattle.ml_scope.specs.Chains.{IsChained, look_up}
use Rattle.ml_scope.proofs.Tables.{chained_unbind, in_table}
use Rattle.ml_scope.proofs.scope.Scope.unbind.Goals as goal

pub give_back-requires : goal.give_back-requires
give_back-requires c = in_table (λ key. key.items) c.pop.new.self.items c.self.inside.nearest.entries c.in-Some.field-0.name c.in-Some.field-0 (subst (λ bound. IsChained bound (look_up c.self.inside.nearest.entries (λ key. key.items))) c.in-Some.ensures.items c.self.invariant) refl

pub invariant_of-self-in-Some : goal.invariant_of-self-in-Some
invariant_of-self-in-Some c = rw c.give_back.ensures (chained_unbind (λ key. key.items) c.pop.new.self.items c.self.inside.nearest.entries c.in-Some.field-0.name c.in-Some.field-0 (subst (λ bound. IsChained bound (look_up c.self.inside.nearest.entries (λ key. key.items))) c.in-Some.ensures.items c.self.invariant) refl)
