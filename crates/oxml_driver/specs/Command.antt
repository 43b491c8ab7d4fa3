-- What the command comes to: each status has its cause, and says what stands behind it.
use Rattle.std.specs.Prelude.{◌≡◌, ◌⊎◌, ℕ, true, Option, Some, List, [], length, ◌≤◌}
use Rattle.oxml_base.specs.declared.outside.ShelfCall.TheVariants.{Load, Save}
use Rattle.oxml_base.specs.Outside.{ShelfView, SinkView, Rose, SameHeld, SameBut, SameFaults, ShelfFails, HoldsMore, GainsPart, Puts}
use Rattle.oxml_base.specs.declared.refusal.Limit.{Limit}
use Rattle.oxml_base.specs.declared.refusal.Refusal.{Refusal}
use Rattle.oxml_base.specs.declared.span.Span.{Span}
use Rattle.oxml_driver.specs.Build.{Compiles, IsRefused, Passes, PrintsTexts, default_sizes, most_bytes}
use Rattle.oxml_driver.specs.Lines.{usage_line, write_fault_line, no_memory_line, read_fault_line, bytes_limit_line, limit_line, refusal_line}
use Rattle.oxml_driver.specs.Types.{UsesApart}
use Rattle.oxml_driver.specs.Words.{IsBuild}

-- what is seen of the outside
pub record World : Type 0 where
  pub shelf : ShelfView
  pub out : SinkView
  pub err : SinkView

-- the words are no command
abbrev pub IsMisread : List (List ℕ) → Type 0
IsMisread words = (file out : List ℕ) → IsBuild words file out → ⊥

-- the source that the words name, as far as the shelf tells it
pub record HasSource (words : List (List ℕ)) (world : World) (file out source : List ℕ) : Type 0 where
  pub words_are : IsBuild words file out
  pub told : world.shelf.tells ≡ true → world.shelf.held file ≡ Some source

-- the source violates this rule, the first in the order of the compiler
pub record IsWrong (words : List (List ℕ)) (world : World) (file out source : List ℕ) (refusal : Refusal) : Type 0 where
  pub has_source : HasSource words world file out source
  pub refused : IsRefused source refusal

-- the name holds too many bytes
pub record IsTooLong (words : List (List ℕ)) (world : World) (file out : List ℕ) : Type 0 where
  pub words_are : IsBuild words file out
  pub holds_more : HoldsMore world.shelf file most_bytes

-- the source, which is not too long, passes this limit at this place
pub record PassesLimit (words : List (List ℕ)) (world : World) (file out source : List ℕ) (passed : Limit) (place : Option Span) : Type 0 where
  pub has_source : HasSource words world file out source
  pub short : length source ≤ most_bytes
  pub passes : Passes source passed place

-- a limit is passed, with this line
pub data IsOver (words : List (List ℕ)) (world : World) (file out : List ℕ) : List ℕ → Type 0 where
  of_bytes : IsTooLong words world file out → IsOver words world file out (bytes_limit_line file)
  of_source : {source : List ℕ} {passed : Limit} {place : Option Span} → PassesLimit words world file out source passed place →
      IsOver words world file out (limit_line file source passed place)

-- ---- the answers

-- status 0: the source is compiled with the default sizes, and OUT holds the executable; nothing else
-- changed, and no call failed
pub record IsBuilt (words : List (List ℕ)) (old new : World) : Type 0 where
  pub file : List ℕ
  pub out_name : List ℕ
  pub source : List ℕ
  pub has_source : HasSource words old file out_name source
  pub bytes : List ℕ
  pub compiles : Compiles source default_sizes bytes
  pub saved : old.shelf.tells ≡ true → new.shelf.held out_name ≡ Some bytes
  pub others : SameBut old.shelf new.shelf out_name
  pub calm : SameFaults old.shelf new.shelf
  pub out : new.out ≡ old.out
  pub err : new.err ≡ old.err

-- a line was put on err, and nothing else changed
pub record Says (old new : World) (line : List ℕ) : Type 0 where
  pub held : SameHeld old.shelf new.shelf
  pub calm : SameFaults old.shelf new.shelf
  pub out : new.out ≡ old.out
  pub err : Puts old.err new.err line

-- status 1: the line names the rule and its place
pub record SaysRule (words : List (List ℕ)) (old new : World) : Type 0 where
  pub file : List ℕ
  pub out_name : List ℕ
  pub source : List ℕ
  pub refusal : Refusal
  pub cause : IsWrong words old file out_name source refusal
  pub says : Says old new (refusal_line file source refusal)

-- status 2
pub record IsUsage (words : List (List ℕ)) (old new : World) : Type 0 where
  pub cause : IsMisread words
  pub says : Says old new usage_line

-- status 3: the shelf failed to load the name that the words give
pub record IsReadFault (words : List (List ℕ)) (old new : World) : Type 0 where
  pub file : List ℕ
  pub out_name : List ℕ
  pub words_are : IsBuild words file out_name
  pub fails : ShelfFails old.shelf new.shelf Load file
  pub held : SameHeld old.shelf new.shelf
  pub out : new.out ≡ old.out
  pub err : GainsPart old.err new.err (read_fault_line file)

-- the line that the call puts where no put fails, or none
abbrev pub IsLine : List (List ℕ) → World → List ℕ → Type 0
IsLine words world line =
    (IsMisread words × (line ≡ usage_line))
    ⊎ (((file out source : List ℕ) × ((refusal : Refusal) × IsWrong words world file out source refusal × (line ≡ refusal_line file source refusal)))
    ⊎ (((file out : List ℕ) × IsOver words world file out line)
    ⊎ (line ≡ [])))

-- first a part of one line, and behind it a part of another
pub record GainsParts (old new : SinkView) (first second : List ℕ) : Type 0 where
  pub between : SinkView
  pub one : GainsPart old between first
  pub two : GainsPart between new second

-- status 4: the shelf failed to save OUT, or err failed to take a line
pub record IsWriteFault (words : List (List ℕ)) (old new : World) : Type 0 where
  pub cause : ((file out : List ℕ) × IsBuild words file out × ShelfFails old.shelf new.shelf Save out) ⊎ Rose old.err.faults new.err.faults
  -- only what OUT holds may have changed
  pub others : (name : List ℕ) → ((file : List ℕ) → IsBuild words file name → ⊥) → new.shelf.held name ≡ old.shelf.held name
  pub out : new.out ≡ old.out
  pub line : List ℕ
  pub is_line : IsLine words old line
  pub err : GainsParts old.err new.err line write_fault_line

-- status 5: the line names the limit
pub record SaysLimit (words : List (List ℕ)) (old new : World) : Type 0 where
  pub file : List ℕ
  pub out_name : List ℕ
  pub line : List ℕ
  pub cause : IsOver words old file out_name line
  pub says : Says old new line

-- status 6, want of memory, is free
pub record IsNoMemory (old new : World) : Type 0 where
  pub held : SameHeld old.shelf new.shelf
  pub out : new.out ≡ old.out
  pub err : GainsPart old.err new.err no_memory_line

-- the command answers a status, each with its cause and with what stands behind it
pub data Answers (words : List (List ℕ)) (old new : World) (status : ℕ) : Type 0 where
  built : status ≡ 0 → IsBuilt words old new → Answers words old new status
  refused : status ≡ 1 → SaysRule words old new → Answers words old new status
  usage : status ≡ 2 → IsUsage words old new → Answers words old new status
  read_fault : status ≡ 3 → IsReadFault words old new → Answers words old new status
  write_fault : status ≡ 4 → IsWriteFault words old new → Answers words old new status
  limit : status ≡ 5 → SaysLimit words old new → Answers words old new status
  no_memory : status ≡ 6 → IsNoMemory old new → Answers words old new status

-- ---- which answer comes where nothing fails

-- no call of the outside failed
pub record NothingFailed (old new : World) : Type 0 where
  pub shelf : Rose old.shelf.faults new.shelf.faults → ⊥
  pub err : Rose old.err.faults new.err.faults → ⊥

-- the words are a build, and the shelf tells the source that they name
pub record TellsSource (words : List (List ℕ)) (world : World) (source : List ℕ) : Type 0 where
  pub file : List ℕ
  pub out_name : List ℕ
  pub words_are : IsBuild words file out_name
  pub tells : world.shelf.tells ≡ true
  pub holds : world.shelf.held file ≡ Some source

-- the words and the source decide the answer, unless memory is wanting
pub record IsDecided (words : List (List ℕ)) (old : World) (status : ℕ) : Type 0 where
  pub accepted : (source : List ℕ) (texts : List (List ℕ)) → TellsSource words old source → UsesApart source → PrintsTexts source texts → (status ≡ 0) ⊎ (status ≡ 6)
  pub refused : (source : List ℕ) (refusal : Refusal) → TellsSource words old source → UsesApart source → IsRefused source refusal → (status ≡ 1) ⊎ (status ≡ 6)
  pub misread : IsMisread words → (status ≡ 2) ⊎ (status ≡ 6)
  pub over : (source : List ℕ) (passed : Limit) (place : Option Span) → TellsSource words old source → UsesApart source → Passes source passed place → (status ≡ 5) ⊎ (status ≡ 6)
