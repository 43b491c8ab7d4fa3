use Rattle.std.proofs.Common.{◌-◌, refl, sym, ap, ◌∙◌, arith}
use Rattle.std.proofs.lemmas.Option.{slice_get_read}
use Rattle.ml_meaning.specs.Runs.{after}
use Rattle.ml_values.specs.Shown.{value}
use Rattle.ml_steps.proofs.RunsVisits.{plain}
use Rattle.ml_steps.proofs.Sequences.{chain_last}
use Rattle.ml_steps.proofs.visits.chain.Goals as goal

pub returns-in-Some : goal.returns-in-Some
returns-in-Some c = λ names fields code top append.
    let at = slice_get_read c.args.items.now _ (c.args.left - 1) c.in-Some.e.now refl c.in-Some.ensures.lookup.3.0 c.in-Some.ensures.lookup.1 in
    ap (after c.args.told.now.items)
    (chain_last (plain names fields code top append) c.args.here c.args.node c.args.items.now c.args.left (c.args.left - 1) c.in-Some.e.now (value c.args.tail) (omega (arith, c.if-left-eq0.false)) at
    ∙ sym (c.evaluate_then.ensures (plain names fields code top append)))
