use Rattle.ml_steps.specs.Worlds.{setting_of}
use Rattle.ml_steps.proofs.Telling.{unbound}
use Rattle.ml_steps.proofs.parts.bind_parts.Goals as goal

pub returns-in-None : goal.returns-in-None
returns-in-None c =
    let s = setting_of c.args.world in
    unbound s _ _ c.failed.result c.args.binds.now c.args.body.now c.args.here _ c.in_ok-env.field-0 c.in_ok-env.ensures c.in-None.is (c.failed.ensures s.names s.fields s.code s.top s.append)
