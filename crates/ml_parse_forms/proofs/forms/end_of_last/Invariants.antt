use Rattle.std.proofs.Common.{◌≡◌, drop}
use Rattle.ml_grammar.specs.Trees.{end_of_arm, end_behind}
use Rattle.ml_parse_forms.proofs.forms.end_of_last.Given as goal

abbrev pub invariant-loop-arm : goal.invariant-loop-arm
invariant-loop-arm l = end_behind end_of_arm l.end (drop l.arm-index l.arms) ≡ end_behind end_of_arm 0 l.arms
