use Rattle.ml_meaning.specs.declared.event.Event.{Event}
use Rattle.ml_meaning.specs.Evaluation as m
use Rattle.ml_meaning.specs.Tellings as t
use Rattle.ml_values.specs.declared.value.Code.TheVariants as C
use Rattle.ml_values.specs.declared.value.Word.TheVariants as W
use Rattle.ml_values.specs.declared.value.Words.TheVariants as L
use Rattle.ml_values.specs.Shown.{value}
use Rattle.ml_values.specs.Telling.{mode_of}
use Rattle.ml_steps.specs.Worlds.{setting_of}
use Rattle.ml_steps.proofs.Called.{closing_is}
use Rattle.ml_steps.proofs.Runs.{nexts_as, nexts_since}
use Rattle.ml_steps.proofs.closures.close_over.Goals as goal

pub returns : goal.returns
returns c =
    let s = setting_of c.args.world in
    nexts_as s c.args.told.now.items c.finish.new.told.items c.finish.result _ _
    (closing_is s c.args.node c.args.captures.now c.args.here c.in_ok-words.words c.in_ok-words.ensures)
    (nexts_since s c.args.told.now.items c.tell_made.new.told.items c.finish.new.told.items c.finish.result (m.function_made Event s c.args.node c.args.captures.now)
    (t.finish Event s (mode_of c.args.here.mode) (value (W.Function (C.Source c.args.node) c.in_ok-words.words L.Empty)))
    (c.in_ok-tell_made.ensures s.names s.fields s.code s.top s.append) (c.finish.ensures s.names s.fields s.code s.top s.append))
