use Rattle.std.proofs.Common.{ℕ}
use Rattle.std.specs.Global.{Vec}
use Rattle.ml_decls.proofs.Seen.{IsSoFar}
use Rattle.ml_decls.proofs.names.report_twice.Given as goal

abbrev pub invariant-loop-name : goal.invariant-loop-name
invariant-loop-name l = IsSoFar l.text (λ (key : Vec ℕ). key.items) l.seen.keys l.names l.name-index l.offences l.initial.offences
