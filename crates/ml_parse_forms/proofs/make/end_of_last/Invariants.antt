use Rattle.std.proofs.Common.{◌≡◌, drop}
use Rattle.ml_grammar.specs.Trees.{end_of, end_behind}
use Rattle.ml_parse_forms.proofs.make.end_of_last.Given as goal

abbrev pub invariant-loop-one : goal.invariant-loop-one
invariant-loop-one l = end_behind end_of l.end (drop l.one-index l.list) ≡ end_behind end_of 0 l.list
