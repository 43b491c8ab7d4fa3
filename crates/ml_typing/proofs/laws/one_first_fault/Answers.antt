use Rattle.ml_typing.proofs.Programs.{first_unsolved_once, first_large_once, first_unsolved_or_large, first_unsolved_item, first_large_item}
use Rattle.ml_typing.proofs.laws.one_first_fault.Goals as goal

pub returns-clause-unsolved : goal.returns-clause-unsolved
returns-clause-unsolved c = first_unsolved_once

pub returns-clause-large : goal.returns-clause-large
returns-clause-large c = first_large_once

pub returns-clause-either : goal.returns-clause-either
returns-clause-either c = first_unsolved_or_large

pub returns-clause-unsolved_item : goal.returns-clause-unsolved_item
returns-clause-unsolved_item c = first_unsolved_item

pub returns-clause-large_item : goal.returns-clause-large_item
returns-clause-large_item c = first_large_item
