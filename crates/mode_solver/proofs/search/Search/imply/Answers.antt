use Rattle.std.proofs.Common.{◌≡◌, length, List, take, sym, refl, subst, arith}
use Rattle.mode_lattice.specs.declared.clause.Form.{Form}
use Rattle.mode_solver.specs.declared.search.Search.{Search}
use Rattle.mode_solver.specs.Searching.{IsSearch}
use Rattle.mode_solver.proofs.Lists.{split_last, length_before_last}
use Rattle.mode_solver.proofs.Searches.{IsSearch-imply}
use Rattle.mode_solver.proofs.search.Search.imply.Goals as goal

pub add-requires : goal.add-requires
add-requires c =
    let within = (c.requires.below.each _ _ c.requires.last).0 in
    omega (arith, within, c.requires.before.first_count)

pub step-requires-clause-source : goal.step-requires-clause-source
step-requires-clause-source c = (c.requires.below.each _ _ c.requires.last).0

pub step-requires-clause-target : goal.step-requires-clause-target
step-requires-clause-target c = (c.requires.below.each _ _ c.requires.last).1

pub propagate-requires-clause-search : goal.propagate-requires-clause-search
propagate-requires-clause-search c =
    let within = c.requires.below.each _ _ c.requires.last in
    let whole = split_last c.args.seen.now c.args.clause _ c.requires.count c.requires.last in
    let after : Search = record { implications = c.add.new.self; forbidden = c.args.self.now.forbidden; reach = c.step.new.self } in
    let search = IsSearch-imply (take c.args.clause c.args.seen.now) c.args.clause c.args.from c.args.to c.args.self.now after (length_before_last c.args.seen.now c.args.clause c.requires.count) c.requires.before within.0 within.1 c.in_ok-add.ensures.first c.in_ok-add.ensures.next refl c.in_ok-step.ensures.on c.in_ok-step.ensures.off in
    let P : List Form → Type 0 = λ forms. IsSearch forms after (length c.args.self.now.reach.reached.items) in
    let done : length c.args.self.now.reach.reached.items ≡ c.len-done.result = omega arith in
    rw (← done) (subst P (sym whole) search.0)

pub propagate-requires-clause-start : goal.propagate-requires-clause-start
propagate-requires-clause-start c =
    let within = c.requires.below.each _ _ c.requires.last in
    let after : Search = record { implications = c.add.new.self; forbidden = c.args.self.now.forbidden; reach = c.step.new.self } in
    let search = IsSearch-imply (take c.args.clause c.args.seen.now) c.args.clause c.args.from c.args.to c.args.self.now after (length_before_last c.args.seen.now c.args.clause c.requires.count) c.requires.before within.0 within.1 c.in_ok-add.ensures.first c.in_ok-add.ensures.next refl c.in_ok-step.ensures.on c.in_ok-step.ensures.off in
    omega (arith, search.1.longer)

pub propagate-requires-clause-below : goal.propagate-requires-clause-below
propagate-requires-clause-below c =
    let within = c.requires.below.each _ _ c.requires.last in
    let after : Search = record { implications = c.add.new.self; forbidden = c.args.self.now.forbidden; reach = c.step.new.self } in
    let search = IsSearch-imply (take c.args.clause c.args.seen.now) c.args.clause c.args.from c.args.to c.args.self.now after (length_before_last c.args.seen.now c.args.clause c.requires.count) c.requires.before within.0 within.1 c.in_ok-add.ensures.first c.in_ok-add.ensures.next refl c.in_ok-step.ensures.on c.in_ok-step.ensures.off in
    rw search.1.count c.requires.below
