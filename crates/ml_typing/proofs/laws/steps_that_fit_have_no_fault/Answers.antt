use Rattle.ml_typing.proofs.Faults.{fit_or_unsolved, fit_or_large}
use Rattle.ml_typing.proofs.laws.steps_that_fit_have_no_fault.Goals as goal

pub returns-clause-unsolved : goal.returns-clause-unsolved
returns-clause-unsolved c = fit_or_unsolved

pub returns-clause-large : goal.returns-clause-large
returns-clause-large c = fit_or_large
