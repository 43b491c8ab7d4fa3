use Rattle.ml_steps.specs.Worlds.{setting_of}
use Rattle.ml_steps.proofs.Telling.{record_told}
use Rattle.ml_steps.proofs.parts.build_record.Goals as goal

pub returns : goal.returns
returns c =
    let s = setting_of c.args.world in
    record_told s _ _ c.build.result c.args.node c.args.fields.now c.args.here _ _ c.in_ok-parts.ensures (c.build.ensures s.names s.fields s.code s.top s.append)
