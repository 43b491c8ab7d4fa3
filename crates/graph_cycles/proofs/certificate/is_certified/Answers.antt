use Rattle.std.proofs.Common.{◌≡◌, ◌+◌, ◌<◌, ℕ, length, refl, subst, arith, slice_get, Some}
use Rattle.std.proofs.lemmas.Grind.{common_steps}
use Rattle.std.proofs.lemmas.Option.{slice_get_within}
use Rattle.graph_cycles.specs.Groups.{Fits}
use Rattle.graph_cycles.proofs.Certificates.{certified_more}
use Rattle.graph_cycles.proofs.certificate.is_certified.Goals as goal

pub loop-successors-preserved : goal.loop-successors-preserved
loop-successors-preserved c =
    let next : c.in-Some.next ≡ c.loop-successors.from + 1 = grind (arith, common_steps, c.in-Some.ensures) in
    let at : c.loop-successors.from ≡ c.loop-successors.successors-index = c.loop-successors.invariant.place in
    let within : c.loop-successors.successors-index < length c.args.graph.now = c.loop-successors-test.true in
    let list : c.as_slice.result.now ≡ c.successors-item.result = c.as_slice.ensures in
    let here : (k b : ℕ) → slice_get c.successors-item.result k ≡ Some b → b < length c.args.graph.now → Fits c.args.ranks.now c.args.cyclic.now c.loop-successors.successors-index b = λ k b e h. subst (λ (x : ℕ). Fits c.args.ranks.now c.args.cyclic.now x b) at (c.if-not-is_node_certified.ensures refl k b (rw list e) h) in
    record {
      place = omega arith;
      so_far = certified_more c.args.graph.now c.args.ranks.now c.args.cyclic.now c.loop-successors.successors-index _ c.loop-successors.invariant.so_far within c.successors-item.is here;
    }

pub returns : goal.returns
returns c = λ _ a b e h. let within : a < length c.args.graph.now = slice_get_within _ _ _ e.has in c.loop-successors.invariant.so_far a b (omega arith) e h
