use Rattle.ml_values.specs.Shown.{names, values_list}
use Rattle.ml_steps.specs.Left.{closed_env}
use Rattle.ml_steps.specs.Worlds.{setting_of}
use Rattle.ml_steps.proofs.Called.{no_match}
use Rattle.ml_steps.proofs.Runs.{nexts_as}
use Rattle.ml_steps.proofs.calls.body.Goals as goal

pub returns-in-None : goal.returns-in-None
returns-in-None c =
    let s = setting_of c.args.world in
    nexts_as s c.args.told.now.items c.failed.new.told.items c.failed.result _ _
    (no_match s c.args.function c.in-Single.e c.args.fuel (closed_env s c.args.node c.args.function.own c.args.function.captures.now (values_list c.args.captured)) (names c.in_ok-env.env) (values_list c.args.args) c.in_ok-env-in-Single.field-0
    c.in-Single.is c.in-None.is c.in_ok-env-in-Single.ensures c.in_ok-env.ensures)
    (c.failed.ensures s.names s.fields s.code s.top s.append)
