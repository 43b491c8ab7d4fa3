use Rattle.ml_typing.proofs.Comparisons.{compare_or_bad, bad_once}
use Rattle.ml_typing.proofs.laws.one_bad_comparison.Goals as goal

pub returns-clause-good : goal.returns-clause-good
returns-clause-good c = compare_or_bad

pub returns-clause-bad : goal.returns-clause-bad
returns-clause-bad c = bad_once
