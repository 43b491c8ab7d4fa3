use Rattle.std.proofs.Common.{◌+◌, ◌≤◌, length}
use Rattle.oxml_base.specs.Files.{Grows}
use Rattle.oxml_base.proofs.file_shelf.read_file.Given as goal

-- what came stands behind what the room had, and the rest of `most` is left
abbrev pub invariant-loop : goal.invariant-loop
invariant-loop g l = Grows l.fn.room.items l.room.items × (length l.room.items + l.left ≤ length l.fn.room.items + l.most)
