use Rattle.std.proofs.Common.{[], ◌∷◌, ap}
use Rattle.ml_meaning.specs.declared.event.Event.{Event}
use Rattle.ml_meaning.specs.Tellings.{Setting}
use Rattle.ml_values.specs.Shown.{value}
use Rattle.ml_steps.specs.Left.{next_run, then_run}
use Rattle.ml_steps.proofs.Telling.{told_as}
use Rattle.ml_steps.proofs.resumes.resume_plain.Goals as goal

pub returns-in-Branch : goal.returns-in-Branch
returns-in-Branch c = λ names fields code top append.
    let s : Setting Event = record { told = λ e. e ∷ []; visit = []; names = names; fields = fields; code = code; top = top; append = append } in
    told_as (next_run s) _ _ c.branch-told.result _ _ (ap (λ t. then_run s t c.args.here (value c.args.word)) c.in-Branch.is) (c.branch-told.ensures names fields code top append)

pub returns-in-BoolAnd : goal.returns-in-BoolAnd
returns-in-BoolAnd c = λ names fields code top append.
    let s : Setting Event = record { told = λ e. e ∷ []; visit = []; names = names; fields = fields; code = code; top = top; append = append } in
    told_as (next_run s) _ _ c.decided.result _ _ (ap (λ t. then_run s t c.args.here (value c.args.word)) c.in-BoolAnd.is) (c.decided.ensures names fields code top append)

pub returns-in-BoolOr : goal.returns-in-BoolOr
returns-in-BoolOr c = λ names fields code top append.
    let s : Setting Event = record { told = λ e. e ∷ []; visit = []; names = names; fields = fields; code = code; top = top; append = append } in
    told_as (next_run s) _ _ c.decided-in-BoolOr.result _ _ (ap (λ t. then_run s t c.args.here (value c.args.word)) c.in-BoolOr.is) (c.decided-in-BoolOr.ensures names fields code top append)
