use Rattle.std.proofs.Common.{[], ◌∷◌}
use Rattle.ml_meaning.specs.declared.event.Event.{Event}
use Rattle.ml_meaning.specs.Tellings.{Setting}
use Rattle.ml_steps.proofs.Telling.{project_told}
use Rattle.ml_steps.proofs.resumes.project.Goals as goal

pub returns : goal.returns
returns c = λ names fields code top append.
    let s : Setting Event = record { told = λ e. e ∷ []; visit = []; names = names; fields = fields; code = code; top = top; append = append } in
    project_told s _ _ c.finish.result c.args.here.mode _ _ (c.in_ok-part.ensures names fields code top append) (c.finish.ensures names fields code top append)
