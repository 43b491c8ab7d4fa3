use Rattle.std.proofs.Common.{[], ◌∷◌}
use Rattle.ml_meaning.specs.declared.event.Event.{Event}
use Rattle.ml_meaning.specs.declared.event.Event.TheVariants.{Close}
use Rattle.ml_meaning.specs.Tellings.{Setting, finish}
use Rattle.ml_values.specs.Shown.{value}
use Rattle.ml_values.specs.Telling.{mode_of}
use Rattle.ml_steps.specs.Left.{next_run}
use Rattle.ml_steps.proofs.Telling.{told_then}
use Rattle.ml_steps.proofs.resumes.close_borrow.Goals as goal

pub returns : goal.returns
returns c = λ names fields code top append.
    let s : Setting Event = record { told = λ e. e ∷ []; visit = []; names = names; fields = fields; code = code; top = top; append = append } in
    told_then (next_run s) _ _ _ (Close ∷ []) c.finish.result (finish Event s (mode_of c.args.here.mode) (value c.args.word)) c.in_ok-push.ensures.items (c.finish.ensures names fields code top append)
