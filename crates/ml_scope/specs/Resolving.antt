-- What the answers of `resolve` mean.
use Rattle.std.specs.Prelude.{◌≡◌, ℕ, ◌<◌, ◌≤◌, List, [], length}
use Rattle.oxml_base.specs.declared.refusal.Limit.TheVariants as Limits
use Rattle.ml_tree.specs.declared.program.Program.{Program}
use Rattle.ml_tree.specs.declared.program.Item.{Item}
use Rattle.ml_tree.specs.declared.scoped.Scoped.{Scoped}
use Rattle.ml_scope.specs.declared.scoping.ScopeErr.{ScopeErr}
use Rattle.ml_scope.specs.declared.scoping.ScopeErr.TheVariants.{Refused, Limit as LimitPassed, NoMemory}
use Rattle.ml_scope.specs.declared.scoping.Targets.{Targets}
use Rattle.ml_scope.specs.Journal.{Journal}
use Rattle.ml_scope.specs.Items.{program_look}
use Rattle.ml_scope.specs.Readings.{references, type_references, offences, IsFirst}
use Rattle.ml_scope.specs.Captures.{captures}

-- what is found in a program
abbrev pub found_in : List ℕ → List Item → Journal
found_in text items = (program_look text items).journal

pub record HasNames (text : List ℕ) (items : List Item) (t : Targets) : Type 0 where
  pub refs : t.refs ≡ references (found_in text items)
  pub types : t.types ≡ type_references text (found_in text items)
  pub sound : offences (found_in text items) ≡ []
  pub few : length (captures (found_in text items)) ≤ 100000

-- the program that was handed in, with what its nodes and type expressions name; no rule is violated
pub record IsResolved (text : List ℕ) (p : Program) (s : Scoped) : Type 0 where
  pub program : s.program ≡ p
  pub refs : s.refs ≡ references (found_in text p.items)
  pub types : s.types ≡ type_references text (found_in text p.items)
  pub sound : offences (found_in text p.items) ≡ []
  pub few : length (captures (found_in text p.items)) ≤ 100000

-- refused: the first violation of a rule; the limit: no violation, and too many captures
abbrev pub Explains : List ℕ → List Item → ScopeErr → Type 0
Explains text items (Refused r) = IsFirst r (offences (found_in text items))
Explains text items (LimitPassed l) = (l ≡ Limits.Captures 100001) × (offences (found_in text items) ≡ []) × (100000 < length (captures (found_in text items)))
Explains text items NoMemory = Unit {0}
