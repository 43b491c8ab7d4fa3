use Rattle.std.proofs.Common.{◌≡◌, reverse}
use Rattle.ml_cursor.specs.Lets.{behind_bracket}
use Rattle.ml_cursor.proofs.lets.pass_bracket.Given as goal

abbrev pub invariant-loop-closing : goal.invariant-loop-closing
invariant-loop-closing l = behind_bracket (reverse l.closings.items) ≡ behind_bracket (reverse l.fn.closings.items)

abbrev pub decreases-loop-closing : goal.decreases-loop-closing
decreases-loop-closing l = goal.left-loop-closing l
