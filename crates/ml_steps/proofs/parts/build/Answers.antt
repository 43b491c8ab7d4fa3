use Rattle.std.proofs.Common.{[], ◌∷◌}
use Rattle.ml_steps.proofs.Telling.{build_told}
use Rattle.ml_steps.proofs.parts.build.Goals as goal

pub returns : goal.returns
returns c = λ names fields code top append.
    build_told (record { told = λ e. e ∷ []; visit = []; names = names; fields = fields; code = code; top = top; append = append })
    _ _ _ c.finish.result c.args.node c.args.place c.in_ok-block_words.field-0 c.args.here c.args.parts
    c.in_ok-block_words.ensures c.in_ok-made.ensures (c.finish.ensures names fields code top append)
