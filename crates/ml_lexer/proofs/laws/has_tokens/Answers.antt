use Rattle.std.proofs.Common.{Bool, false, [], ◌∷◌, ◌++◌, take, sym, subst, arith}
use Rattle.std.proofs.lemmas.List.{length-take}
use Rattle.ml_lexer.specs.Tokens.{Divides, nothing, token}
use Rattle.ml_lexer.proofs.Divisions.{then_skips, then_takes}
use Rattle.ml_lexer.proofs.laws.has_tokens.Goals as goal

pub pieces-init : goal.pieces-init
pieces-init c = record { so_far = ([], nothing); within = omega (arith, length-take c.args.part.end c.args.text.now) }

pub pieces-preserved-in-Skips : goal.pieces-preserved-in-Skips
pieces-preserved-in-Skips c =
    let found = c.pieces.invariant.so_far in
    record { so_far = (found.0, then_skips found.1 c.in-Skips.ensures.begins); within = c.in-Skips.ensures.within.1 }

pub pieces-preserved : goal.pieces-preserved
pieces-preserved c =
    let found = c.pieces.invariant.so_far in
    let kind = c.in-Takes.kind in
    let ts = found.0 ++ token kind c.pieces.at c.in-Takes.next ∷ [] in
    record {
      so_far = (ts, subst (λ (m : Bool). Divides (take c.args.part.end c.args.text.now) false c.args.part.start ts m c.in-Takes.next) (sym c.is_minus-after_minus.ensures) (then_takes found.1 c.in-Takes.ensures.begins));
      within = c.in-Takes.ensures.within.1;
    }
