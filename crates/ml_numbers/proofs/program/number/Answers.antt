use Rattle.std.proofs.Common.{◌∙◌, ap, subst, sym}
use Rattle.ml_numbers.specs.Bare.{bare}
use Rattle.ml_numbers.specs.Ids.{IsNumbered}
use Rattle.ml_numbers.specs.Numbered.{program}
use Rattle.ml_numbers.proofs.AllStays.{stays}
use Rattle.ml_numbers.proofs.CountsUp.{is_numbered}
use Rattle.ml_numbers.proofs.program.number.Goals as goal

pub returns-clause-counts_up : goal.returns-clause-counts_up
returns-clause-counts_up c = subst IsNumbered (ap program c.in_ok-items.ensures) (is_numbered c.args.items.now)

pub returns-clause-stays : goal.returns-clause-stays
returns-clause-stays c = sym (ap (λ r. bare (program r).items) c.in_ok-items.ensures) ∙ stays c.args.items.now
