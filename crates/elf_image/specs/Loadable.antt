-- What each loaded image has.
use Rattle.std.specs.Prelude.{◌≡◌, ℕ, ◌+◌, ◌^◌, ◌≤◌, ◌<◌, List, [], ◌∷◌, length, Any}
use Rattle.x64_table.specs.declared.image.Image.{Image}
use Rattle.x64_table.specs.declared.image.Segment.{Segment}

-- a segment with its limits
pub record IsSegment (s : Segment) : Type 0 where
  pub filled : length s.bytes ≤ s.size
  pub size : s.size ≤ 2 ^ 30
  pub low_flag : 4 ≤ s.flags
  pub high_flag : s.flags ≤ 6
  pub low : s.at + s.size ≤ 2 ^ 47

-- each is a segment, and each begins at or behind the end of the one before it; the first at or behind `end`
abbrev pub AreRising : ℕ → List Segment → Type 0
AreRising end [] = Unit {0}
AreRising end (s ∷ rest) = IsSegment s × (end ≤ s.at) × AreRising (s.at + s.size) rest

-- an executable segment that has this address
pub record CanRun (at : ℕ) (s : Segment) : Type 0 where
  pub executable : s.flags ≡ 5
  pub from : s.at ≤ at
  pub below : at < s.at + s.size

pub record IsLoadable (image : Image) : Type 0 where
  pub rising : AreRising 0 image.segments
  pub few : length image.segments ≤ 8
  pub entry : Any (CanRun image.entry) image.segments
