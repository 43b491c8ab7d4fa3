use Rattle.std.proofs.Common.{◌≡◌, [], ◌∷◌, ◌++◌, max, true, false, drop, arith, rules}
use Rattle.std.proofs.lemmas.Grind.{common_steps}
use Rattle.ml_parse_patterns.specs.Looks.{is_param, param_lead}
use Rattle.ml_parse_patterns.proofs.Relays.{relay}
use Rattle.ml_parse_patterns.proofs.Shorter.{param_shorter}
use Rattle.ml_parse_patterns.proofs.ListReadings.{params_deep, params_end}
use Rattle.ml_parse_patterns.proofs.Exits.{params_begin, params_go_on}
use Rattle.ml_parse_patterns.proofs.params.read_params.Goals as goal

pub params-init : goal.params-init
params-init c = params_begin _ _ _ _ c.new-list.ensures

pub params-smaller : goal.params-smaller
params-smaller c = param_shorter c.in_ok-one.ensures.ok.reads

pub params-preserved : goal.params-preserved
params-preserved c =
    let i : c.push.new.self ≡ c.params.list ++ c.in_ok-one.one.param ∷ [] = first_of (search rules, grind (arith, common_steps)) in
    let d : c.max-deepest.result ≡ max c.params.deepest c.in_ok-one.one.depth = first_of (search rules, grind (arith, common_steps)) in
    let more : is_param (param_lead (drop c.read_param.new.at c.args.tokens.now)) ≡ true = first_of (search rules, grind (arith, common_steps)) in
    params_go_on c.args.text.now _ _ _ _ _ _ _ _ c.in_ok-one.one c.params.invariant c.in_ok-one.ensures.ok more i d

pub returns-in_err-one-clause-err : goal.returns-in_err-one-clause-err
returns-in_err-one-clause-err c = relay _ _ _ (params_deep _ _ _ _ _ _ c.params.invariant) c.in_err-one.ensures.err c.from_residual.ensures.1

pub returns-then-not-begins_param-clause-ok : goal.returns-then-not-begins_param-clause-ok
returns-then-not-begins_param-clause-ok c =
    let i : c.push.new.self ≡ c.params.list ++ c.in_ok-one.one.param ∷ [] = first_of (search rules, grind (arith, common_steps)) in
    let d : c.max-deepest.result ≡ max c.params.deepest c.in_ok-one.one.depth = first_of (search rules, grind (arith, common_steps)) in
    let none : is_param (param_lead (drop c.read_param.new.at c.args.tokens.now)) ≡ false = first_of (search rules, grind (arith, common_steps)) in
    params_end c.args.text.now _ _ _ _ _ _ c.in_ok-one.one _ c.params.invariant c.in_ok-one.ensures.ok none i d
