use Rattle.std.proofs.Common.{◌≡◌, false, take}
use Rattle.std.specs.List.{list_any}
use Rattle.elf_image.specs.Load.{can_run}
use Rattle.elf_image.proofs.loader.has_entry.Given as goal

abbrev pub invariant-loop-segment : goal.invariant-loop-segment
invariant-loop-segment l = list_any (can_run l.entry) (take l.segment-index l.segments) ≡ false
