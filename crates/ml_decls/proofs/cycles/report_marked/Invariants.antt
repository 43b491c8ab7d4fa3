use Rattle.ml_decls.proofs.Marks.{IsMarkedSoFar}
use Rattle.ml_decls.proofs.cycles.report_marked.Given as goal

abbrev pub invariant-loop-one : goal.invariant-loop-one
invariant-loop-one l = IsMarkedSoFar l.marks l.outlines l.one-index l.place l.offences l.initial.offences
