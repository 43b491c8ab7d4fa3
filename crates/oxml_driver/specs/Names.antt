-- From the program of a source to what its names stand for.
use Rattle.std.specs.Prelude.{◌≡◌, ℕ, ◌<◌, List, [], length}
use Rattle.oxml_base.specs.declared.refusal.Refusal.{Refusal}
use Rattle.ml_tree.specs.declared.program.Program.{Program}
use Rattle.ml_tree.specs.declared.scoped.Scoped.{Scoped}
use Rattle.ml_scope.specs.Captures.{captures}
use Rattle.ml_scope.specs.Readings.{IsFirst, offences}
use Rattle.ml_scope.specs.Resolving.{IsResolved, found_in}
use Rattle.oxml_driver.specs.Source.{IsProgram, program_text}

-- the most captures that the functions of a program have together
abbrev pub most_captures : ℕ
most_captures = 100_000

-- the program of the source, with what its names stand for
pub record IsScoped (source : List ℕ) (scoped : Scoped) : Type 0 where
  pub is_program : IsProgram source scoped.program
  pub resolved : IsResolved (program_text source) scoped.program scoped

-- the source has a program, whose names violate this rule first
pub record IsMisnamed (source : List ℕ) (refusal : Refusal) : Type 0 where
  pub program : Program
  pub is_program : IsProgram source program
  pub first : IsFirst refusal (offences (found_in (program_text source) program.items))

-- the source has a program, whose names violate no rule, and its functions capture too many of them
pub record HasManyCaptures (source : List ℕ) : Type 0 where
  pub program : Program
  pub is_program : IsProgram source program
  pub sound : offences (found_in (program_text source) program.items) ≡ []
  pub many : most_captures < length (captures (found_in (program_text source) program.items))
