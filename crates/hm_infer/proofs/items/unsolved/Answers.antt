use Rattle.std.proofs.Common.{rules, refl, subst, List, ap, ◌∙◌, ◌≡◌, ◌+◌, take}
use Rattle.oxml_base.specs.Rules.{rule_number}
use Rattle.ml_typing.specs.declared.equation.Step.{Step}
use Rattle.ml_typing.specs.Typing.{pairs}
use Rattle.ml_typing.specs.Refusals.{IsRuleOf}
use Rattle.hm_infer.proofs.items.unsolved.Goals as goal

pub returns-clause-err : goal.returns-clause-err
returns-clause-err c = λ d read.
    let behind : c.in-Some.behind ≡ c.args.place + 1 = search rules in
    (subst (λ (ss : List Step). IsRuleOf (rule_number c.in_ok-rule.rule) (pairs d ss)) (c.in_ok-behind_steps.ensures ∙ ap (λ n. take n c.args.steps.now) behind) (c.in_ok-rule.ensures d read), refl)
