use Rattle.ml_typing.specs.declared.equation.Term.TheVariants.{Of}
use Rattle.hm_steps.proofs.RowParts.{if_ok_each, arm_equations}
use Rattle.hm_steps.proofs.matches.arm_is.Goals as goal

pub returns : goal.returns
returns c = if_ok_each _ (λ es names h. arm_equations names c.args.one.now (Of c.args.whole) _ _ es (c.in_ok-guarded.ensures names) h) c.part_is.ensures
