use Rattle.ml_values.specs.Shown.{values_list}
use Rattle.ml_steps.specs.Worlds.{setting_of}
use Rattle.ml_run.proofs.Layers.{unfitted}
use Rattle.ml_run.proofs.Runs.{began_stop}
use Rattle.ml_run.proofs.items.match_words.Goals as goal

pub returns-in_ok-no_match-in-None-clause-out : goal.returns-in_ok-no_match-in-None-clause-out
returns-in_ok-no_match-in-None-clause-out c =
    began_stop _ _ _ _ _ c.in_ok-no_match-in-None.ensures.ended (unfitted (setting_of c.args.world) c.args.binds.now (values_list c.args.words) c.in_ok-names.field-0 c.in_ok-names.ensures c.in-None.is)
