use Rattle.std.proofs.Common.{◌∙◌, sym, ap}
use Rattle.ml_scope.specs.Chains.{joined, look_up}
use Rattle.ml_scope.proofs.Tables.{chained_bind}
use Rattle.ml_scope.proofs.scope.Scope.bind.Goals as goal

pub invariant_of-self-in-Ok : goal.invariant_of-self-in-Ok
invariant_of-self-in-Ok c = rw (c.in_ok-push.ensures.items, c.in-Ok.ensures.entries) (chained_bind (λ key. key.items) c.self.inside.bound.items c.self.inside.nearest.entries c.in_ok-key.key (record { name = c.in_ok-name.name; meaning = c.args.meaning; hidden = c.nearest-hidden.result }) c.self.invariant (c.in_ok-name.ensures.items ∙ sym c.in_ok-key.ensures.items) (c.nearest-hidden.ensures ∙ ap (λ w. joined (look_up c.self.inside.nearest.entries (λ key. key.items) w)) (sym c.in_ok-key.ensures.items)))
