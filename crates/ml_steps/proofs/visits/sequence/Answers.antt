use Rattle.std.proofs.Common.{◌+◌, refl, sym, ◌∙◌, arith}
use Rattle.std.proofs.lemmas.Option.{slice_get_read}
use Rattle.ml_steps.proofs.Sequences.{sequence_more}
use Rattle.ml_steps.proofs.visits.sequence.Goals as goal

pub returns-then-from-items : goal.returns-then-from-items
returns-then-from-items c = λ s.
    let less = c.in-Some.ensures.lookup.3.0 in
    let at = slice_get_read c.args.items.now _ c.args.from c.in-Some.e.now refl less c.in-Some.ensures.lookup.1 in
    c.evaluate_then.ensures s
    ∙ sym (sequence_more s c.args.here c.args.items.now c.args.from (c.args.from + 1) c.in-Some.e.now (omega arith) at (omega (arith, less, c.if-from-items.true)))
