use Rattle.std.proofs.Common.{sym, ◌∙◌, rules}
use denote.Enum.Bare.{same_true, true_same}
use Rattle.ml_cursor.specs.contracts.front.Front.{the_type}
use Rattle.ml_cursor.proofs.cursor.stands.Goals as goal

pub returns : goal.returns
returns c = ((λ t. sym c.front_at.ensures ∙ same_true the_type (search rules) _ _ (sym c.eq.ensures ∙ t)), (λ h. c.eq.ensures ∙ true_same the_type _ _ (c.front_at.ensures ∙ h)))
