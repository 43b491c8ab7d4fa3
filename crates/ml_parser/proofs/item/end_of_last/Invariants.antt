use Rattle.std.proofs.Common.{◌≡◌, drop}
use Rattle.ml_grammar.specs.Trees.{end_of_bind, end_behind}
use Rattle.ml_parser.proofs.item.end_of_last.Given as goal

abbrev pub invariant-loop-bind : goal.invariant-loop-bind
invariant-loop-bind l = end_behind end_of_bind l.end (drop l.bind-index l.binds) ≡ end_behind end_of_bind 0 l.binds
