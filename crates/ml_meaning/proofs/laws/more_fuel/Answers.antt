use Rattle.ml_meaning.proofs.Fuel.{traces_begin, exits_stay}
use Rattle.ml_meaning.proofs.laws.more_fuel.Goals as goal

pub returns-clause-begins : goal.returns-clause-begins
returns-clause-begins c = traces_begin

pub returns-clause-stays : goal.returns-clause-stays
returns-clause-stays c = exits_stay
