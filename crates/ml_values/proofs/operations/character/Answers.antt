use Rattle.ml_values.proofs.operations.character.Goals as goal

pub returns-in-None : goal.returns-in-None
returns-in-None c = λ names fields code top append. rw c.in-None.is (c.invalid.ensures names fields code top append)
