use Rattle.ml_values.specs.Shown.{value, values_list}
use Rattle.ml_steps.specs.Worlds.{setting_of}
use Rattle.ml_steps.proofs.Telling.{concat_told, two_values}
use Rattle.ml_steps.proofs.resumes.concatenate.Goals as goal

pub returns : goal.returns
returns c =
    concat_told (setting_of c.args.world) _ _ c.apply_to.result c.args.node c.args.here (value c.args.one) (value c.args.other) (value c.in-Some.function) (values_list c.in_ok-args.args) c.in-Some.ensures
    (two_values c.in_ok-args.args c.in_ok-last.last c.args.one c.args.other c.in_ok-args.ensures c.in_ok-last.ensures) c.apply_to.ensures
