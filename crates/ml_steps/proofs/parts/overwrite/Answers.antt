use Rattle.std.proofs.Common.{[], ◌∷◌}
use Rattle.ml_steps.proofs.Telling.{overwrite_told}
use Rattle.ml_steps.proofs.parts.overwrite.Goals as goal

pub returns : goal.returns
returns c = λ names fields code top append.
    overwrite_told (record { told = λ e. e ∷ []; visit = []; names = names; fields = fields; code = code; top = top; append = append })
    _ _ _ c.finish.result c.args.node c.args.place c.in_ok-words.words c.args.here c.args.parts
    c.in_ok-words.ensures c.in_ok-push.ensures.items (c.finish.ensures names fields code top append)
