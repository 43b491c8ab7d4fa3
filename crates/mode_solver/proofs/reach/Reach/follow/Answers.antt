use Rattle.std.proofs.Common.{◌≡◌, ◌<◌, length, None, Some, subst, arith, Option, ℕ}
use Rattle.std.proofs.lemmas.List.{get_or_read}
use Rattle.std.proofs.lemmas.Option.{slice_get_within}
use Rattle.mode_solver.specs.Graph.{entry}
use Rattle.mode_solver.specs.Reaching.{IsWalk, rank}
use Rattle.mode_solver.proofs.Lists.{entry_within}
use Rattle.mode_solver.proofs.Reaches.{Grows-refl, Grows-trans}
use Rattle.mode_solver.proofs.Walks.{IsWalk-start, IsWalk-next, IsWalk-end, rank-next}
use Rattle.mode_solver.proofs.reach.Reach.follow.Goals as goal

pub loop-edge-init : goal.loop-edge-init
loop-edge-init c =
    let has_place : c.args.bit.0 < length c.args.self.now.place.items = entry_within _ _ _ c.requires.on.1 in
    let within : c.args.bit.0 < length c.args.implications.now.first.items = omega (arith, c.requires.first) in
    let read : c.index-edge.result.now ≡ entry c.args.implications.now.first.items c.args.bit.0 = get_or_read _ _ _ within c.index-edge.ensures None in
    record {
      reach = c.requires.reach;
      grows = Grows-refl _ _;
      walk = rw read (IsWalk-start _ _ _ _ _ c.requires.graph);
    }

pub visit-requires-clause-reach : goal.visit-requires-clause-reach
visit-requires-clause-reach c = c.loop-edge.invariant.reach

pub visit-requires-clause-implies : goal.visit-requires-clause-implies
visit-requires-clause-implies c =
    let form = c.loop-edge.invariant.walk.here _ c.in-Some.is in
    (c.args.bit, form.0, form.1, (c.requires.on.0, c.loop-edge.invariant.grows.on _ _ c.requires.on.1))

pub visit-requires-clause-below : goal.visit-requires-clause-below
visit-requires-clause-below c = rw c.loop-edge.invariant.grows.count c.requires.below

pub visit-requires-clause-few : goal.visit-requires-clause-few
visit-requires-clause-few c = rw c.loop-edge.invariant.grows.count c.requires.few

pub index-edge-requires-in-Some : goal.index-edge-requires-in-Some
index-edge-requires-in-Some c =
    let form = c.loop-edge.invariant.walk.here _ c.in-Some.is in
    let within : c.in-Some.clause < length c.args.seen.now = slice_get_within _ _ _ form.1 in
    omega (arith, c.requires.graph.count)

pub loop-edge-smaller : goal.loop-edge-smaller
loop-edge-smaller c =
    let P : Option ℕ → Type 0 = λ o. IsWalk c.args.seen.now c.loop-edge.self.place.items c.args.bit o in
    let walk = subst P c.in-Some.is c.loop-edge.invariant.walk in
    let form = c.loop-edge.invariant.walk.here _ c.in-Some.is in
    let seen_within : c.in-Some.clause < length c.args.seen.now = slice_get_within _ _ _ form.1 in
    let within : c.in-Some.clause < length c.args.implications.now.next.items = omega (arith, c.requires.graph.count) in
    let read : c.index-edge-in-Some.result.now ≡ entry c.args.implications.now.next.items c.in-Some.clause = get_or_read _ _ _ within c.index-edge-in-Some.ensures None in
    let less : rank (entry c.args.implications.now.next.items c.in-Some.clause) < rank (Some c.in-Some.clause) = rank-next _ _ _ _ _ _ c.requires.graph walk in
    let falls : rank c.index-edge-in-Some.result.now < rank c.loop-edge.edge = rw (read, c.in-Some.is) less in
    falls

pub loop-edge-preserved : goal.loop-edge-preserved
loop-edge-preserved c =
    let P : Option ℕ → Type 0 = λ o. IsWalk c.args.seen.now c.loop-edge.self.place.items c.args.bit o in
    let walk = subst P c.in-Some.is c.loop-edge.invariant.walk in
    let form = c.loop-edge.invariant.walk.here _ c.in-Some.is in
    let seen_within : c.in-Some.clause < length c.args.seen.now = slice_get_within _ _ _ form.1 in
    let within : c.in-Some.clause < length c.args.implications.now.next.items = omega (arith, c.requires.graph.count) in
    let read : c.index-edge-in-Some.result.now ≡ entry c.args.implications.now.next.items c.in-Some.clause = get_or_read _ _ _ within c.index-edge-in-Some.ensures None in
    record {
      reach = c.in_ok-visit.ensures.reach;
      grows = Grows-trans c.loop-edge.invariant.grows c.in_ok-visit.ensures.grows;
      walk = rw read (IsWalk-next _ _ _ _ _ _ _ c.requires.graph c.in_ok-visit.ensures.grows.on c.in_ok-visit.ensures.on walk);
    }

pub returns-clause-reach : goal.returns-clause-reach
returns-clause-reach c = c.loop-edge.invariant.reach

pub returns-clause-grows : goal.returns-clause-grows
returns-clause-grows c = c.loop-edge.invariant.grows

pub returns-clause-implied : goal.returns-clause-implied
returns-clause-implied c = IsWalk-end _ _ _ _ c.in_default.is c.loop-edge.invariant.walk
