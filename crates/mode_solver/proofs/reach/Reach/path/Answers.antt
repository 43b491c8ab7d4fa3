use Rattle.std.proofs.Common.{◌≡◌, ◌<◌, ℕ, List, length, Some, Option, slice_get, reverse, sym, refl, subst}
use Rattle.std.proofs.lemmas.Option.{slice_get_within, slice_get_read}
use Rattle.mode_solver.specs.declared.reach.Reached.{Reached}
use Rattle.mode_solver.specs.Forms.{Leads}
use Rattle.mode_solver.specs.Reaching.{Trail, rank}
use Rattle.mode_solver.proofs.Reaches.{cause_within}
use Rattle.mode_solver.proofs.Walks.{Trail-back}
use Rattle.mode_solver.proofs.reach.Reach.path.Goals as goal

pub source-at-requires-clause-within : goal.source-at-requires-clause-within
source-at-requires-clause-within c =
    let P : Option ℕ → Type 0 = λ o. Trail c.args.seen.now c.args.self.now.reached.items o c.loop-at.path.items in
    let trail = subst P c.in-Some.is c.loop-at.invariant in
    let within : c.in-Some.place < length c.args.self.now.reached.items = slice_get_within _ _ _ trail.1 in
    let item = slice_get_read c.args.self.now.reached.items (length c.args.self.now.reached.items) c.in-Some.place c.index.result.now refl within c.index.ensures in
    cause_within _ _ _ _ (c.args.self.now.reached.items) c.requires.reach item

pub loop-at-smaller : goal.loop-at-smaller
loop-at-smaller c =
    let P : Option ℕ → Type 0 = λ o. Trail c.args.seen.now c.args.self.now.reached.items o c.loop-at.path.items in
    let trail = subst P c.in-Some.is c.loop-at.invariant in
    let within : c.in-Some.place < length c.args.self.now.reached.items = slice_get_within _ _ _ trail.1 in
    let item = slice_get_read c.args.self.now.reached.items (length c.args.self.now.reached.items) c.in-Some.place c.index.result.now refl within c.index.ensures in
    let there : slice_get c.args.self.now.reached.items c.in-Some.place ≡ Some trail.0 = trail.1 in
    let e_is : trail.0 ≡ c.index.result.now = cc in
    let Q : Reached → Type 0 = λ e. Leads c.args.seen.now e.bit (reverse c.loop-at.path.items) in
    let back = Trail-back c.args.seen.now c.args.self.now.place.items c.args.self.now.reached.items c.in-Some.place c.index.result.now c.loop-at.path.items c.source-at.result c.requires.reach item (subst Q e_is trail.2) c.source-at.ensures.implies c.source-at.ensures.forces in
    let falls : rank c.source-at.result < rank c.loop-at.at = rw c.in-Some.is back.1 in
    falls

pub loop-at-preserved : goal.loop-at-preserved
loop-at-preserved c =
    let P : Option ℕ → Type 0 = λ o. Trail c.args.seen.now c.args.self.now.reached.items o c.loop-at.path.items in
    let trail = subst P c.in-Some.is c.loop-at.invariant in
    let within : c.in-Some.place < length c.args.self.now.reached.items = slice_get_within _ _ _ trail.1 in
    let item = slice_get_read c.args.self.now.reached.items (length c.args.self.now.reached.items) c.in-Some.place c.index.result.now refl within c.index.ensures in
    let there : slice_get c.args.self.now.reached.items c.in-Some.place ≡ Some trail.0 = trail.1 in
    let e_is : trail.0 ≡ c.index.result.now = cc in
    let Q : Reached → Type 0 = λ e. Leads c.args.seen.now e.bit (reverse c.loop-at.path.items) in
    let back = Trail-back c.args.seen.now c.args.self.now.place.items c.args.self.now.reached.items c.in-Some.place c.index.result.now c.loop-at.path.items c.source-at.result c.requires.reach item (subst Q e_is trail.2) c.source-at.ensures.implies c.source-at.ensures.forces in
    let R : List ℕ → Type 0 = λ path. Trail c.args.seen.now c.args.self.now.reached.items c.source-at.result path in
    subst R (sym c.in_ok-push-2.ensures.items) back.0
