use Rattle.std.proofs.Common.{ℕ, not, ap, ◌∙◌}
use Rattle.std.specs.Global.{Vec}
use Rattle.ml_decls.proofs.Seen.{has_inserted, not_not}
use Rattle.ml_decls.proofs.names.note.Goals as goal

pub returns-clause-was : goal.returns-clause-was
returns-clause-was c = ap not c.in_ok-entry.ensures.added ∙ not_not _

pub returns-clause-now : goal.returns-clause-now
returns-clause-now c = λ other. rw c.in_ok-entry.ensures.keys (has_inserted (λ (key : Vec ℕ). key.items) _ _ other)
