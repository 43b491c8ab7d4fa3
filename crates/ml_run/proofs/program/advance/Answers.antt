use Rattle.ml_values.specs.Shown.{names}
use Rattle.ml_steps.specs.Worlds.{setting_of}
use Rattle.ml_run.specs.Whole.{program_setting}
use Rattle.ml_run.proofs.Wholes.{advanced_began, advanced_end, advanced_names}
use Rattle.ml_run.proofs.program.advance.Goals as goal

pub returns-in_err-names-clause-out : goal.returns-in_err-names-clause-out
returns-in_err-names-clause-out c = λ s env is holds.
    advanced_began (setting_of c.world.result) (program_setting s env) (c.world.ensures s env is holds) c.args.fuel c.args.kind.now _ _ c.run_item.ensures.out

pub returns-in_err-set_tops-in-Names-clause-out : goal.returns-in_err-set_tops-in-Names-clause-out
returns-in_err-set_tops-in-Names-clause-out c = λ s env is holds.
    advanced_began (setting_of c.world.result) (program_setting s env) (c.world.ensures s env is holds) c.args.fuel c.args.kind.now _ _ c.in_ok-names.ensures.out

pub returns-in_ok-set_tops-in-Names-clause-ended : goal.returns-in_ok-set_tops-in-Names-clause-ended
returns-in_ok-set_tops-in-Names-clause-ended c = λ s env is holds. (
  names c.in-Names.names,
  (
    advanced_names (setting_of c.world.result) (program_setting s env) (c.world.ensures s env is holds) c.args.fuel c.args.kind.now _ _ c.in_ok-names.field-0 c.in-Names.names c.in_ok-names.ensures.ended c.in-Names.is,
    c.in_ok-set_tops-in-Names.ensures env holds,
  ),
)

pub returns-in_ok-set_tops-in-Names-clause-out : goal.returns-in_ok-set_tops-in-Names-clause-out
returns-in_ok-set_tops-in-Names-clause-out c = λ s env is holds.
    advanced_began (setting_of c.world.result) (program_setting s env) (c.world.ensures s env is holds) c.args.fuel c.args.kind.now _ _ c.in_ok-names.ensures.out

pub returns-in-End-clause-ended : goal.returns-in-End-clause-ended
returns-in-End-clause-ended c = λ s env is holds.
    advanced_end (setting_of c.world.result) (program_setting s env) (c.world.ensures s env is holds) c.args.fuel c.args.kind.now _ _ c.in_ok-names.field-0 c.in-End.ending c.in_ok-names.ensures.ended c.in-End.is

pub returns-in-End-clause-out : goal.returns-in-End-clause-out
returns-in-End-clause-out c = λ s env is holds.
    advanced_began (setting_of c.world.result) (program_setting s env) (c.world.ensures s env is holds) c.args.fuel c.args.kind.now _ _ c.in_ok-names.ensures.out
