use Rattle.ml_values.specs.Givings.{Gives}
use Rattle.ml_values.specs.Shown.{value}
use Rattle.std.proofs.Common.{subst}
use Rattle.ml_values.proofs.Runs.{negated_is, plain}
use Rattle.ml_values.proofs.operations.negated.Goals as goal

pub returns : goal.returns
returns c = λ names fields code top append.
    subst (λ run. Gives c.args.told.now.items c.computed.new.told.items c.computed.result run)
    (negated_is (plain names fields code top append) (value c.args.word)) (c.computed.ensures names fields code top append)
