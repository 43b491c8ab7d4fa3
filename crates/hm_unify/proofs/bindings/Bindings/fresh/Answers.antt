use Rattle.std.proofs.Common.{◌≡◌, length, subst, arith, rules}
use Rattle.hm_unify.specs.States.{State, AddsFresh}
use Rattle.hm_unify.proofs.Results.{IsSound-fresh, AddsFresh-from}
use Rattle.hm_unify.proofs.bindings.Bindings.fresh.Goals as goal

pub invariant_of-self-2 : goal.invariant_of-self-2
invariant_of-self-2 c =
    let n : c.in-Ok.number ≡ length c.self.inside.bound.items = first_of (omega arith, search rules) in
    IsSound-fresh c.self.inside.nodes c.push-2.new.self c.self.inside.bound.items c.push.new.self.items c.in-Ok.number c.self.invariant n c.in_ok-push-2.ensures.ok c.in_ok-push.ensures.items

pub returns-clause-ok : goal.returns-clause-ok
returns-clause-ok c =
    let n : c.in-Ok.number ≡ length c.self.inside.bound.items = first_of (omega arith, search rules) in
    let i : c.in-Ok-try_from.id ≡ length c.self.inside.nodes = first_of (omega arith, search rules) in
    let after : State = record { nodes = c.push-2.new.self; bound = c.push.new.self.items } in
    subst (λ s. AddsFresh s after (record { 0 = c.in-Ok-try_from.id })) c.self.view_is
    (AddsFresh-from c.self.inside.nodes c.push-2.new.self c.self.inside.bound.items c.push.new.self.items c.in-Ok.number c.in-Ok-try_from.id c.self.invariant n c.in_ok-push-2.ensures.ok c.in_ok-push.ensures.items i)
