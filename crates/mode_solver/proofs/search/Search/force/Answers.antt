use Rattle.std.proofs.Common.{◌≡◌, length, List, take, sym, refl, subst, arith}
use Rattle.mode_lattice.specs.declared.clause.Form.{Form}
use Rattle.mode_solver.specs.declared.search.Search.{Search}
use Rattle.mode_solver.specs.Searching.{IsSearch}
use Rattle.mode_solver.proofs.Lists.{split_last, length_before_last}
use Rattle.mode_solver.proofs.Searches.{IsSearch-force}
use Rattle.mode_solver.proofs.search.Search.force.Goals as goal

pub mark-requires-clause-within : goal.mark-requires-clause-within
mark-requires-clause-within c = c.requires.below.each _ _ c.requires.last

pub propagate-requires-clause-search : goal.propagate-requires-clause-search
propagate-requires-clause-search c =
    let within = c.requires.below.each _ _ c.requires.last in
    let whole = split_last c.args.seen.now c.args.clause _ c.requires.count c.requires.last in
    let after : Search = record { implications = c.skip.new.self; forbidden = c.args.self.now.forbidden; reach = c.mark.new.self } in
    let search = IsSearch-force (take c.args.clause c.args.seen.now) c.args.clause c.args.bit c.args.self.now after (length_before_last c.args.seen.now c.args.clause c.requires.count) c.requires.before within c.in_ok-skip.ensures.first c.in_ok-skip.ensures.next refl c.in_ok-mark.ensures in
    let P : List Form → Type 0 = λ forms. IsSearch forms after (length c.args.self.now.reach.reached.items) in
    let done : length c.args.self.now.reach.reached.items ≡ c.len-done.result = omega arith in
    rw (← done) (subst P (sym whole) search)
