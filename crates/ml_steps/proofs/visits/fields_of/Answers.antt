use Rattle.ml_meaning.specs.declared.event.Event.{Event}
use Rattle.ml_meaning.specs.Programs.{expr_meaning}
use Rattle.ml_steps.proofs.KindRuns.{one_field}
use Rattle.ml_steps.proofs.visits.fields_of.Goals as goal

pub returns-in-None : goal.returns-in-None
returns-in-None c = λ s. one_field s (expr_meaning Event s c.args.arg.now) c.args.count (c.in-None.ensures s)
