-- What is seen of the outside: shelves of named bytes, and sinks that bytes are put into.
use Rattle.std.specs.Prelude.{◌≡◌, ℕ, ◌+◌, ◌-◌, ◌^◌, ◌≤◌, ◌<◌, min, Bool, true, Option, Some, List, ◌++◌, length}
use Rattle.oxml_base.specs.declared.errors.LoadErr.{LoadErr}
use Rattle.oxml_base.specs.declared.errors.LoadErr.TheVariants.{Failed, TooLong, NoMemory}
use Rattle.oxml_base.specs.declared.errors.SaveErr.{SaveErr}
use Rattle.oxml_base.specs.declared.errors.SaveErr.TheVariants as save_err
use Rattle.oxml_base.specs.declared.outside.ShelfCall.{ShelfCall}
use Rattle.oxml_base.specs.declared.outside.ShelfCall.TheVariants.{Load, Save}

-- a call that the outside refused, and the name that it asked for
pub record Fault : Type 0 where
  pub call : ShelfCall
  pub name : List ℕ

-- a shelf: whether it tells what it holds, the bytes that it holds under a name, how many calls the
-- outside refused, counted up to 2 ^ 64 - 1, and the last of these calls
pub record ShelfView : Type 0 where
  pub tells : Bool
  pub held : List ℕ → Option (List ℕ)
  pub faults : ℕ
  pub last_fault : Fault

-- a sink: whether it tells what it took, the bytes that it took, and how many calls the outside
-- refused, counted up to 2 ^ 64 - 1
pub record SinkView : Type 0 where
  pub tells : Bool
  pub written : List ℕ
  pub faults : ℕ

-- a count that stops at 2 ^ 64 - 1 rose
pub record Rose (before now : ℕ) : Type 0 where
  pub grew : min (before + 1) (2 ^ 64 - 1) ≤ now
  pub kept : before ≤ now

-- a shelf holds what it held
pub record SameHeld (old new : ShelfView) : Type 0 where
  pub tells : new.tells ≡ old.tells
  pub held : (name : List ℕ) → new.held name ≡ old.held name

-- no call failed
pub record SameFaults (old new : ShelfView) : Type 0 where
  pub faults : new.faults ≡ old.faults
  pub last_fault : new.last_fault ≡ old.last_fault

-- this call failed
pub record ShelfFails (old new : ShelfView) (call : ShelfCall) (name : List ℕ) : Type 0 where
  pub rose : Rose old.faults new.faults
  pub last_fault : new.last_fault ≡ record { call = call; name = name }

-- all bytes of a name, at most `most` of them, came behind those of the room
pub record Loads (old new : ShelfView) (name : List ℕ) (most : ℕ) (room filled : List ℕ) : Type 0 where
  pub bytes : List ℕ
  pub appended : filled ≡ room ++ bytes
  pub within : length bytes ≤ most
  pub told : old.tells ≡ true → old.held name ≡ Some bytes
  pub calm : SameFaults old new

-- a told name holds more than `most` bytes
pub record HoldsMore (shelf : ShelfView) (name : List ℕ) (most : ℕ) : Type 0 where
  pub told : shelf.tells ≡ true → (bytes : List ℕ) × (shelf.held name ≡ Some bytes) × (most < length bytes)

-- why a name was not loaded
abbrev pub LoadRefused : ShelfView → ShelfView → List ℕ → ℕ → LoadErr → Type 0
LoadRefused old new name most Failed = ShelfFails old new Load name
LoadRefused old new name most TooLong = HoldsMore old name most × SameFaults old new
LoadRefused old new name most NoMemory = SameFaults old new

-- other names hold what they held
pub record SameBut (old new : ShelfView) (name : List ℕ) : Type 0 where
  pub tells : new.tells ≡ old.tells
  pub others : (other : List ℕ) → (other ≡ name → ⊥) → new.held other ≡ old.held other

-- the name holds the bytes
pub record Saves (old new : ShelfView) (name bytes : List ℕ) : Type 0 where
  pub told : old.tells ≡ true → new.held name ≡ Some bytes
  pub calm : SameFaults old new

-- why nothing was saved
abbrev pub SaveRefused : ShelfView → ShelfView → List ℕ → SaveErr → Type 0
SaveRefused old new name save_err.Failed = ShelfFails old new Save name
SaveRefused old new name save_err.NoMemory = SameFaults old new × SameHeld old new

-- a sink took these bytes
pub record Gains (old new : SinkView) (piece : List ℕ) : Type 0 where
  pub tells : new.tells ≡ old.tells
  pub written : old.tells ≡ true → new.written ≡ old.written ++ piece

-- a sink took a first part of these bytes
pub record GainsPart (old new : SinkView) (piece : List ℕ) : Type 0 where
  pub part : List ℕ
  pub rest : List ℕ
  pub split : piece ≡ part ++ rest
  pub gains : Gains old new part

-- a sink took these bytes, and no call failed
pub record Puts (old new : SinkView) (piece : List ℕ) : Type 0 where
  pub gains : Gains old new piece
  pub faults : new.faults ≡ old.faults

-- a put failed, after a first part of its bytes
pub record PutFails (old new : SinkView) (piece : List ℕ) : Type 0 where
  pub gains : GainsPart old new piece
  pub rose : Rose old.faults new.faults
