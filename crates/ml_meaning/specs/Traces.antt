-- What is read off a trace: the bytes that it writes, the words that it makes, how high the local
-- blocks and the calls stand at its end.
use Rattle.std.specs.Prelude.{ℕ, ◌+◌, ◌-◌, Bool, false, List, [], ◌∷◌, Option, Some, None, if◌then◌else◌}
use Rattle.ml_meaning.specs.declared.event.Event.{Event}
use Rattle.ml_meaning.specs.declared.event.Event.TheVariants as event

-- what was written, each byte with its channel
abbrev pub bytes : List Event → List (ℕ × ℕ)
bytes [] = []
bytes (event.Put channel byte ∷ es) = (channel, byte) ∷ bytes es
bytes (_ ∷ es) = bytes es

-- the words of all that was made or overwritten
abbrev pub made_words : List Event → ℕ
made_words [] = 0
made_words (event.Made at words ∷ es) = words + made_words es
made_words (event.Over node words ∷ es) = words + made_words es
made_words (_ ∷ es) = made_words es

-- whether a block is local, by the node where it is made; what no node makes is in the area
abbrev pub is_local : (ℕ → Bool) → Option ℕ → Bool
is_local local None = false
is_local local (Some node) = local node

-- the words of what was made in the area
abbrev pub area_words : (ℕ → Bool) → List Event → ℕ
area_words local [] = 0
area_words local (event.Made at words ∷ es) = (if is_local local at then 0 else words) + area_words local es
area_words local (_ ∷ es) = area_words local es

-- the words of local blocks, and what they were as each open region began, the last first
pub record Height : Type 0 where
  pub words : ℕ
  pub notes : List ℕ

-- a region that ends gives back what was made since it began
abbrev pub returned : ℕ → List ℕ → Height
returned words [] = record { words = words; notes = [] }
returned words (n ∷ ns) = record { words = n; notes = ns }

abbrev pub height_after : (ℕ → Bool) → Height → Event → Height
height_after local h (event.Made at words) = if is_local local at then record { words = h.words + words; notes = h.notes } else h
height_after local h event.Open = record { words = h.words; notes = h.words ∷ h.notes }
height_after local h event.Close = returned h.words h.notes
height_after local h _ = h

abbrev pub height_from : (ℕ → Bool) → Height → List Event → Height
height_from local h [] = h
height_from local h (e ∷ es) = height_from local (height_after local h e) es

abbrev pub local_height : (ℕ → Bool) → List Event → ℕ
local_height local es = (height_from local (record { words = 0; notes = [] }) es).words

-- the words of the call stack that the running calls weigh
abbrev pub weight_after : ℕ → Event → ℕ
weight_after n (event.Enter w) = n + w
weight_after n (event.Leave w) = n - w
weight_after n (event.Tail old new) = n - old + new
weight_after n _ = n

abbrev pub weight_from : ℕ → List Event → ℕ
weight_from n [] = n
weight_from n (e ∷ es) = weight_from (weight_after n e) es

abbrev pub call_weight : List Event → ℕ
call_weight es = weight_from 0 es
