use Rattle.std.proofs.Common.{◌≡◌, Some, slice_get}
use Rattle.std.proofs.lemmas.Option.{slice_get_within}
use Rattle.std.proofs.lemmas.Result.{on_ok_weaker}
use Rattle.mode_lattice.specs.declared.clause.Bit.{Bit}
use Rattle.mode_lattice.specs.declared.clause.Form.TheVariants.{Imply}
use Rattle.mode_solver.specs.Reaching.{IsOn, Marks}
use Rattle.mode_solver.proofs.Lists.{slice_get-is, not_item}
use Rattle.mode_solver.proofs.Reaches.{IsReach-mark, Cause-imply, Marks-grows, Marks-on}
use Rattle.mode_solver.proofs.reach.Reach.visit.Goals as goal

pub mark-requires-clause-within : goal.mark-requires-clause-within
mark-requires-clause-within c =
    let within = slice_get_within _ _ _ c.requires.implies.2 in
    (c.requires.below.each _ _ (slice_get-is c.args.seen.now c.args.clause _ _ within c.in-Imply.is)).1

pub unreachable-requires : goal.unreachable-requires
unreachable-requires c =
    let zero_bit : Bit = record { 0 = 0 } in
    not_item c.args.seen.now c.args.clause (Imply zero_bit zero_bit) _ (c.in_default.not-Imply c.requires.implies.0 c.requires.implies.1) c.requires.implies.2

pub returns-clause-reach : goal.returns-clause-reach
returns-clause-reach c =
    let within = slice_get_within _ _ _ c.requires.implies.2 in
    let form = slice_get-is c.args.seen.now c.args.clause _ _ within c.in-Imply.is in
    let given = c.requires.implies.2 in
    let source : c.requires.implies.0 ≡ c.in-Imply.field-0 = cc in
    let on : IsOn c.args.self.now.place.items c.in-Imply.field-0 = rw (← source) c.requires.implies.3 in
    let cause = Cause-imply _ _ _ _ _ _ c.requires.reach form on in
    on_ok_weaker _ (λ marks. IsReach-mark _ _ _ _ _ _ _ c.requires.reach (c.requires.below.each _ _ form).1 cause marks) c.mark.ensures

pub returns-clause-grows : goal.returns-clause-grows
returns-clause-grows c = on_ok_weaker _ (λ marks. Marks-grows _ _ _ _ _ _ marks) c.mark.ensures

pub returns-clause-on : goal.returns-clause-on
returns-clause-on c =
    let within = slice_get_within _ _ _ c.requires.implies.2 in
    let form = slice_get-is c.args.seen.now c.args.clause _ _ within c.in-Imply.is in
    let on : Marks c.args.self.now.place.items c.args.self.now.reached.items c.in-Imply.to c.args.clause c.mark.new.self.place.items c.mark.new.self.reached.items → (a b : Bit) → slice_get c.args.seen.now c.args.clause ≡ Some (Imply a b) → IsOn c.mark.new.self.place.items b = λ marks a b h.
    let target : c.in-Imply.to ≡ b = cc in
    rw (← target) (Marks-on _ _ _ _ _ _ (c.requires.below.each _ _ form).1 marks) in
    on_ok_weaker _ on c.mark.ensures
