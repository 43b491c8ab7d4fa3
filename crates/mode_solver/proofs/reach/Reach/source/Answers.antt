use Rattle.std.proofs.Common.{◌≡◌, ◌<◌, length, None, ◌∙◌, ap, refl, arith}
use Rattle.std.proofs.lemmas.List.{get_or_read}
use Rattle.mode_lattice.specs.declared.clause.Bit.{Bit}
use Rattle.mode_lattice.specs.declared.clause.Form.TheVariants.{Imply}
use Rattle.mode_solver.specs.Graph.{entry}
use Rattle.mode_solver.proofs.Lists.{slice_get-is, not_item}
use Rattle.mode_solver.proofs.reach.Reach.source.Goals as goal

pub index-requires : goal.index-requires
index-requires c =
    let within : c.in-Imply.from.0 < length c.args.self.now.place.items = (c.requires.below.each _ _ (slice_get-is c.args.seen.now c.args.clause _ _ c.requires.within c.in-Imply.is)).0 in
    omega arith

pub returns-in-Imply-clause-implies : goal.returns-in-Imply-clause-implies
returns-in-Imply-clause-implies c = λ a b h.
    let form = slice_get-is c.args.seen.now c.args.clause _ _ c.requires.within c.in-Imply.is in
    let within = (c.requires.below.each _ _ form).0 in
    let source : c.in-Imply.from ≡ a = cc in
    let read : c.index.result.now ≡ entry c.args.self.now.place.items c.in-Imply.from.0 = get_or_read _ _ _ within c.index.ensures None in
    read ∙ ap (λ (x : Bit). entry c.args.self.now.place.items x.0) source

pub returns-in-Imply-clause-forces : goal.returns-in-Imply-clause-forces
returns-in-Imply-clause-forces c = λ b h.
    let form = slice_get-is c.args.seen.now c.args.clause _ _ c.requires.within c.in-Imply.is in
    cc

pub returns-in_default : goal.returns-in_default
returns-in_default c =
    let zero_bit : Bit = record { 0 = 0 } in
    record {
      implies = λ a b h. absurd (not_item c.args.seen.now c.args.clause (Imply zero_bit zero_bit) _ (c.in_default.not-Imply a b) h);
      forces = λ b h. refl;
    }
