-- What is fetched where one segment to execute holds the instruction.
use Rattle.std.proofs.Common.{ℕ, ◌-◌, ◌≡◌, Some, List, refl, drop}
use Rattle.std.specs.List.{find}
use Rattle.x64_table.specs.declared.instr.Instr.{Instr}
use Rattle.x64_table.specs.Encoding.{decoded}
use Rattle.x64_table.specs.Machine.{Loaded, is_code, fetched}

-- the segment that holds the place gives the row
pub fetched_in : (segments : List Loaded) (a : ℕ) (s : Loaded) (row : Instr × ℕ) → find (is_code a) segments ≡ Some s → decoded (drop (a - s.at) s.bytes) ≡ Some row → fetched segments a ≡ Some row
unfolding fetched
fetched_in segments a s row found reads = rw (found, reads) refl
