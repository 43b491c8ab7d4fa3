use Rattle.std.proofs.Common.{◌<◌, length, sym, refl, ◌∙◌, arith}
use Rattle.std.proofs.lemmas.Option.{slice_get_read}
use Rattle.mode_solver.specs.Graph.{entry}
use Rattle.mode_solver.proofs.Lists.{entry_within, some_of, none_of}
use Rattle.mode_solver.proofs.Reaches.{IsDone-grows, IsDone-one}
use Rattle.mode_solver.proofs.reach.Reach.propagate.Goals as goal

pub bounds-forbidden-bit : goal.bounds-forbidden-bit
bounds-forbidden-bit c =
    let within : c.loop-done.done < length c.loop-done.self.reached.items = omega arith in
    let item = slice_get_read c.loop-done.self.reached.items (length c.loop-done.self.reached.items) c.loop-done.done c.index.result.now refl within c.index.ensures in
    let has_place : c.index.result.now.bit.0 < length c.loop-done.self.place.items = entry_within _ _ _ (c.loop-done.invariant.reach.at _ _ item) in
    omega (arith, c.requires.forbidden, c.loop-done.invariant.count)

pub returns-then-is_some-clause-blocked : goal.returns-then-is_some-clause-blocked
returns-then-is_some-clause-blocked c =
    let within : c.loop-done.done < length c.loop-done.self.reached.items = omega arith in
    let item = slice_get_read c.loop-done.self.reached.items (length c.loop-done.self.reached.items) c.loop-done.done c.index.result.now refl within c.index.ensures in
    ((c.loop-done.done, c.loop-done.invariant.reach.at _ _ item), some_of (entry c.args.forbidden.now c.index.result.now.bit.0) (sym c.if-is_some.ensures))

pub follow-requires-clause-on : goal.follow-requires-clause-on
follow-requires-clause-on c =
    let within : c.loop-done.done < length c.loop-done.self.reached.items = omega arith in
    let item = slice_get_read c.loop-done.self.reached.items (length c.loop-done.self.reached.items) c.loop-done.done c.index.result.now refl within c.index.ensures in
    (c.loop-done.done, c.loop-done.invariant.reach.at _ _ item)

pub loop-done-preserved : goal.loop-done-preserved
loop-done-preserved c =
    let within : c.loop-done.done < length c.loop-done.self.reached.items = omega arith in
    let item = slice_get_read c.loop-done.self.reached.items (length c.loop-done.self.reached.items) c.loop-done.done c.index.result.now refl within c.index.ensures in
    let grows = c.in_ok-follow.ensures.grows in
    let free = none_of (entry c.args.forbidden.now c.index.result.now.bit.0) (sym c.if-is_some.ensures) in
    record {
      reach = c.in_ok-follow.ensures.reach;
      start = omega (arith, grows.longer);
      done = IsDone-one _ _ _ _ _ _ (IsDone-grows _ _ _ _ _ _ _ c.loop-done.invariant.start grows c.loop-done.invariant.done) (grows.kept _ _ item) free c.in_ok-follow.ensures.implied;
      count = grows.count ∙ c.loop-done.invariant.count;
    }
