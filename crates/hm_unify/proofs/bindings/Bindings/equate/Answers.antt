use Rattle.std.proofs.Common.{length, drop, subst, arith, MatchOption}
use Rattle.std.proofs.lemmas.List.{take_at}
use Rattle.hm_unify.specs.Solutions.{Bound, Fits}
use Rattle.hm_unify.specs.States.{State, Equated, Refused}
use Rattle.hm_unify.proofs.Results.{equate-result}
use Rattle.hm_unify.proofs.bindings.Bindings.equate.Goals as goal

pub invariant_of-self : goal.invariant_of-self
invariant_of-self c =
    let fits : Fits c.as_slice.result.now c.as_slice-2.result.now c.args.pairs.now = subst (λ o. MatchOption o (Fits c.as_slice.result.now c.as_slice-2.result.now c.args.pairs.now) (λ e. Refused (record { nodes = c.as_slice.result.now; bound = c.as_slice-2.result.now }) c.args.pairs.now e)) c.in-None.is c.refusal.ensures in
    (equate-result c.self.inside.nodes c.as_slice.result.now c.as_slice-in-None.result.now c.self.inside.bound.items c.as_slice-2.result.now c.deref_mut.result.now c.walk_pairs.new.bound _ c.args.pairs.now c.as_slice.ensures c.as_slice-in-None.ensures c.as_slice-2.ensures.value c.deref_mut.ensures.value (take_at c.walk_pairs.new.bound _ c.self.inside.bound.len (omega arith)) fits c.walk_pairs.ensures.walk c.walk_pairs.ensures.tabled).0

pub returns-in-None-clause-ok : goal.returns-in-None-clause-ok
returns-in-None-clause-ok c =
    let fits : Fits c.as_slice.result.now c.as_slice-2.result.now c.args.pairs.now = subst (λ o. MatchOption o (Fits c.as_slice.result.now c.as_slice-2.result.now c.args.pairs.now) (λ e. Refused (record { nodes = c.as_slice.result.now; bound = c.as_slice-2.result.now }) c.args.pairs.now e)) c.in-None.is c.refusal.ensures in
    let z : Bound = (Rattle.std.specs.Vec.with_items c.self.inside.bound c.walk_pairs.new.bound).items in
    let after : State = record { nodes = c.self.inside.nodes; bound = z } in
    subst (λ s. Equated s after c.args.pairs.now) c.self.view_is
    (equate-result c.self.inside.nodes c.as_slice.result.now c.as_slice-in-None.result.now c.self.inside.bound.items c.as_slice-2.result.now c.deref_mut.result.now c.walk_pairs.new.bound z c.args.pairs.now c.as_slice.ensures c.as_slice-in-None.ensures c.as_slice-2.ensures.value c.deref_mut.ensures.value (take_at c.walk_pairs.new.bound (drop (length c.walk_pairs.new.bound) c.self.inside.bound.items) c.self.inside.bound.len (omega arith)) fits c.walk_pairs.ensures.walk c.walk_pairs.ensures.tabled).1
