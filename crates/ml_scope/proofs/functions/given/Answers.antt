use Rattle.std.proofs.Common.{ap, ◌∙◌, Some}
use Rattle.ml_scope.specs.Expressions.{expr_seen}
use Rattle.ml_scope.proofs.functions.given.Goals as goal

pub returns-in-Some : goal.returns-in-Some
returns-in-Some c = λ k. rw c.in-Some.is (ap Some (c.shape.ensures k ∙ ap (λ q. (expr_seen k q).shape) c.get.ensures))
