use Rattle.ml_values.proofs.Puts.{Puts}
use Rattle.ml_values.proofs.told.put_all.Given as goal

abbrev pub invariant-loop-byte : goal.invariant-loop-byte
invariant-loop-byte l = Puts l.channel l.bytes l.byte-index l.initial.told.items l.told.items
