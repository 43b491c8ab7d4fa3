-- The sink that lies in memory, as the outside is seen.
use Rattle.std.specs.Prelude.{◌≡◌, ℕ, ◌+◌, ◌-◌, ◌^◌, ◌<◌, ◌⊎◌, min, Bool, true, List, [], length, take, IsTrue, if◌then◌else◌}
use Rattle.std.specs.List.{list_any}
use Rattle.std.specs.Bool.{nat_eq}
use Rattle.oxml_base.specs.Outside.{SinkView}
use Rattle.oxml_base.specs.declared.mem_sink.MemSink.{MemSink}

abbrev pub sink_view : MemSink → SinkView
sink_view sink = record { tells = true; written = sink.taken.items; faults = sink.faults }

-- the next put is one that is to fail
abbrev pub put_fails : MemSink → Bool
put_fails sink = list_any (λ call. nat_eq call sink.calls) sink.fail.items

-- a new sink has taken nothing
pub record IsNewSink (sink : MemSink) (room : ℕ) (fail : List ℕ) : Type 0 where
  pub taken : sink.taken.items ≡ []
  pub size : sink.room ≡ room
  pub list : sink.fail.items ≡ fail
  pub calls : sink.calls ≡ 0
  pub faults : sink.faults ≡ 0

-- what a put that fails took: nothing where it is on the list, else what fits
abbrev pub part_taken : MemSink → List ℕ → List ℕ
part_taken sink piece = if put_fails sink then [] else take (sink.room - length sink.taken.items) piece

-- a put may fail: it is on the list, or the piece does not fit
abbrev pub MayFailPut : MemSink → List ℕ → Type 0
MayFailPut sink piece = IsTrue (put_fails sink) ⊎ (sink.room < length sink.taken.items + length piece)

-- a put was counted, and the list and the room stay
pub record CountsPut (old new : MemSink) : Type 0 where
  pub calls : new.calls ≡ min (old.calls + 1) (2 ^ 64 - 1)
  pub fail : new.fail ≡ old.fail
  pub room : new.room ≡ old.room
