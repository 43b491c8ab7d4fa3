use Rattle.std.proofs.Common.{length, sym, subst}
use Rattle.hm_unify.specs.States.{IsSound, PartsWithin}
use Rattle.hm_unify.proofs.Growth.{IsSound-push}
use Rattle.hm_unify.proofs.bindings.Bindings.add.Goals as goal

pub invariant_of-self-2 : goal.invariant_of-self-2
invariant_of-self-2 c =
    let parts : PartsWithin (length c.self.inside.nodes) c.args.n = subst (λ s. PartsWithin (length s.nodes) c.args.n) (sym c.self.view_is) c.requires in
    subst (λ v. IsSound v c.cover.new.bound.items) (sym c.in_ok-push.ensures.ok)
    (IsSound-push c.self.inside.nodes c.self.inside.bound.items c.cover.new.bound.items c.args.n c.self.invariant c.in_ok-cover.ensures.same c.in_ok-cover.ensures.longer c.in_ok-cover.ensures.covers parts)
