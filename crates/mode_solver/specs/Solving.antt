-- Why a list of clauses is refused.
use Rattle.mode_lattice.specs.declared.clause.ClauseList.{ClauseList}
use Rattle.mode_lattice.specs.Clauses.{IsRefused}
use Rattle.mode_solver.specs.declared.error.ModeErr.{ModeErr}
use Rattle.mode_solver.specs.declared.error.ModeErr.TheVariants.{Refused, NoMemory}

-- want of memory has no cause
abbrev pub IsCause : ClauseList → ModeErr → Type 0
IsCause c (Refused k refusal path) = IsRefused c k refusal path
IsCause c NoMemory = Unit {0}
