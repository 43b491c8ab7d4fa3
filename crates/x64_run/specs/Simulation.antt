-- What a simulation tells of the run of an image.
use Rattle.std.specs.Prelude.{ℕ, ◌≡◌, ◌≢◌, List, ◌++◌, map, ℤ, pos, [], ◌∷◌, Option, Some, None}
use Rattle.x64_table.specs.Machine.{State, answered}
use Rattle.x64_table.specs.Kernel.{Ending, Going, Exited, Faulted, Run, next, put_bytes, taken}
use Rattle.x64_run.specs.declared.put.Put.{Put}
use Rattle.x64_run.specs.declared.put.SimEnd.{SimEnd}
use Rattle.x64_run.specs.declared.put.SimEnd.TheVariants.{Exit, More, Fault}

-- channels and bytes
abbrev pub pairs : List Put → List (ℕ × ℕ)
pairs puts = map (λ p. (p.channel, p.byte)) puts

abbrev pub end_of : Ending → SimEnd
end_of Going = More
end_of (Exited status) = Exit status
end_of (Faulted at) = Fault at

-- a front of what was written was appended
pub record PartlyAppended (before now : List Put) (written : List (ℕ × ℕ)) : Type 0 where
  pub more : List (ℕ × ℕ)
  pub rest : List (ℕ × ℕ)
  pub appended : pairs now ≡ pairs before ++ more
  pub front : written ≡ more ++ rest

-- the answers that are left: the first is used, or past their end all bytes are taken
abbrev pub first_or : ℤ → List ℤ → ℤ
first_or n [] = n
first_or n (m ∷ rest) = m

abbrev pub rest_of : List ℤ → List ℤ
rest_of [] = []
rest_of (m ∷ rest) = rest

abbrev pub served : State → ℕ → ℕ → ℕ → List ℤ → List (ℕ × ℕ)
served s channel at len answers =
    put_bytes s.segments channel at (taken (first_or (pos len) answers) len)

-- a write that was asked is answered
pub record Serves (s : State) (answers : List ℤ) (before : List Put) (t : State) (more : List ℤ) (now : List Put) (channel at len : ℕ) : Type 0 where
  pub state : t ≡ answered s (first_or (pos len) answers)
  pub left : more ≡ rest_of answers
  pub out : pairs now ≡ pairs before ++ served s channel at len answers

abbrev pub ServesPart : State → List ℤ → List Put → List Put → ℕ → ℕ → ℕ → Type 0
ServesPart s answers before now channel at len =
    PartlyAppended before now (served s channel at len answers)

-- a run that goes on stands so
pub record StandsAt (r : Run) (s : State) (rest : List ℤ) (before now : List Put) : Type 0 where
  pub ending : r.ending ≡ Going
  pub state : r.state ≡ s
  pub left : r.left ≡ rest
  pub out : pairs now ≡ pairs before ++ r.out

-- the run has ended, which is told
pub record EndsWith (r : Run) (e : SimEnd) (before now : List Put) : Type 0 where
  pub over : r.ending ≢ Going
  pub told : e ≡ end_of r.ending
  pub out : pairs now ≡ pairs before ++ r.out

-- the run after a step that told this, or nothing where it goes on
abbrev pub StepTold : Run → State → List ℤ → List Put → List Put → Option SimEnd → Type 0
StepTold r s rest before now None = StandsAt r s rest before now
StepTold r s rest before now (Some e) = EndsWith r e before now

-- a run that stands so comes by its next step to what is told
abbrev pub Advances : State → List ℤ → List Put → State → List ℤ → List Put → Option SimEnd → Type 0
Advances s rest old t left new told =
    (r : Run) (before : List Put) → StandsAt r s rest before old → StepTold (next r) t left before new told

-- where memory ran out, a front of what the run has written after its next step was appended
abbrev pub AdvancesPart : State → List ℤ → List Put → List Put → Type 0
AdvancesPart s rest old new =
    (r : Run) (before : List Put) → StandsAt r s rest before old → PartlyAppended before new (next r).out
