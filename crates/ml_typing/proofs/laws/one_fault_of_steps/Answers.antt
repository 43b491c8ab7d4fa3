use Rattle.ml_typing.proofs.Faults.{unsolved_once, large_once, unsolved_or_large, unsolved_at, large_at}
use Rattle.ml_typing.proofs.laws.one_fault_of_steps.Goals as goal

pub returns-clause-unsolved : goal.returns-clause-unsolved
returns-clause-unsolved c = unsolved_once

pub returns-clause-large : goal.returns-clause-large
returns-clause-large c = large_once

pub returns-clause-either : goal.returns-clause-either
returns-clause-either c = unsolved_or_large

pub returns-clause-unsolved_step : goal.returns-clause-unsolved_step
returns-clause-unsolved_step c = unsolved_at

pub returns-clause-large_step : goal.returns-clause-large_step
returns-clause-large_step c = large_at
