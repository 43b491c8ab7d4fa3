use Rattle.std.proofs.Common.{◌≡◌, Some, None, arith}
use Rattle.ml_scope.specs.Readings.{earliest}
use Rattle.ml_scope.specs.Resolving.{found_in}
use Rattle.ml_scope.proofs.Firsts.{first_is}
use Rattle.ml_scope.proofs.scoping.found_names.Goals as goal

pub returns-in-Some-clause-err : goal.returns-in-Some-clause-err
returns-in-Some-clause-err c =
    let found : earliest None (found_in c.args.text.now c.args.items.now) ≡ Some c.in-Some.refusal = grind arith in
    first_is (found_in c.args.text.now c.args.items.now) c.in-Some.refusal found
