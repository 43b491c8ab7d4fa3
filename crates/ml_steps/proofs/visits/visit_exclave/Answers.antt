use Rattle.std.proofs.Common.{refl}
use Rattle.ml_steps.proofs.Beginnings.{exclave_is}
use Rattle.ml_steps.proofs.RunsVisits.{plain}
use Rattle.ml_steps.proofs.visits.visit_exclave.Goals as goal

pub returns-in_ok-close-in-Last : goal.returns-in_ok-close-in-Last
returns-in_ok-close-in-Last c = λ names fields code top append.
    let s = plain names fields code top append in
    exclave_is s c.args.here c.in-Last.weight c.args.inner.now c.args.told.now.items c.close.new.told.items c.evaluate_then.result
    c.in-Last.is refl c.in_ok-close-in-Last.ensures (c.evaluate_then.ensures s)
