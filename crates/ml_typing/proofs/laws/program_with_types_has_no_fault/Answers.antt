use Rattle.ml_typing.proofs.Programs.{typed_or_unsolved, typed_or_large}
use Rattle.ml_typing.proofs.laws.program_with_types_has_no_fault.Goals as goal

pub returns-clause-unsolved : goal.returns-clause-unsolved
returns-clause-unsolved c = typed_or_unsolved

pub returns-clause-large : goal.returns-clause-large
returns-clause-large c = typed_or_large
