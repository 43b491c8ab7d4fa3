-- What the parts of the command come to.
use Rattle.std.specs.Prelude.{◌≡◌, ℕ, List}
use Rattle.oxml_base.specs.Outside.{ShelfView, SinkView, Rose, GainsPart, Puts}
use Rattle.oxml_driver.specs.Command.{Answers, GainsParts}
use Rattle.oxml_driver.specs.Lines.{write_fault_line, no_memory_line}
use Rattle.oxml_driver.specs.Words.{IsBuild}

-- a line was put and the status stands, or the put failed, or the line could not be made
pub data Said (status answer : ℕ) (old new : SinkView) (line : List ℕ) : Type 0 where
  said : answer ≡ status → Puts old new line → Said status answer old new line
  unsaid : answer ≡ 4 → Rose old.faults new.faults → GainsParts old new line write_fault_line → Said status answer old new line
  not_made : answer ≡ 6 → GainsPart old new no_memory_line → Said status answer old new line

-- a build of this file under this name answers so, whatever the words that say it and the channel out
abbrev pub AnswersBuild : List ℕ → List ℕ → ShelfView → ShelfView → SinkView → SinkView → ℕ → Type 0
AnswersBuild file out_name shelf shelf' err err' status =
    (words : List (List ℕ)) (out : SinkView) → IsBuild words file out_name → Answers words (record { shelf = shelf; out = out; err = err }) (record { shelf = shelf'; out = out; err = err' }) status

-- a last line of a load that failed was tried, or it could not be made
pub data SaidUnread (answer : ℕ) (old new : SinkView) (line : List ℕ) : Type 0 where
  tried : answer ≡ 3 → GainsPart old new line → SaidUnread answer old new line
  not_tried : answer ≡ 6 → GainsPart old new no_memory_line → SaidUnread answer old new line
