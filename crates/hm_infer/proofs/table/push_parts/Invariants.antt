use Rattle.std.proofs.Common.{◌≡◌, ◌++◌, reverse, take}
use Rattle.hm_infer.proofs.table.push_parts.Given as goal

abbrev pub invariant-loop-done : goal.invariant-loop-done
invariant-loop-done l = l.stack.items ≡ l.initial.stack.items ++ take l.done (reverse l.parts)
