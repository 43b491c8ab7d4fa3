use Rattle.std.proofs.Common.{◌≡◌, ◌≤◌, arith, rules}
use Rattle.ml_parse_patterns.proofs.ParamReadings.{no_param_left, wider_param}
use Rattle.ml_parse_patterns.proofs.params.read_param.Goals as goal

pub returns-then-left-eq0-clause-err : goal.returns-then-left-eq0-clause-err
returns-then-left-eq0-clause-err c =
    let none : c.args.left ≡ 0 = search rules in
    (c.refusal_at.ensures, no_param_left _ _ _ none)

pub returns-in-Short-clause-ok : goal.returns-in-Short-clause-ok
returns-in-Short-clause-ok c =
    let some : 1 ≤ c.args.left = omega arith in
    wider_param some (c.read_short.ensures c.args.text.now)
