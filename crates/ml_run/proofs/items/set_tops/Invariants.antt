use Rattle.std.proofs.Common.{vec_len}
use Rattle.ml_run.proofs.Tops.{SetBehind}
use Rattle.ml_run.proofs.items.set_tops.Given as goal

abbrev pub invariant-loop-top : goal.invariant-loop-top
invariant-loop-top l = SetBehind l.list.items l.env l.fn.tops l.tops

abbrev pub decreases-loop-top : goal.decreases-loop-top
decreases-loop-top l = vec_len l.list
