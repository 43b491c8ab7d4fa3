use Rattle.std.proofs.Common.{◌≡◌, ◌++◌, drop}
use Rattle.ml_decls.proofs.names.push_spans.Given as goal

abbrev pub invariant-loop-one : goal.invariant-loop-one
invariant-loop-one l = l.names ++ drop l.one-index l.spans ≡ l.initial.names ++ l.spans
