use Rattle.std.proofs.Common.{nat_eq}
use Rattle.std.specs.HashMap.{get}
use Rattle.hm_terms.specs.Stores.{store}
use Rattle.hm_infer.specs.Tables.{HasSeen}
use Rattle.hm_infer.proofs.Uses.{IsWalking}
use Rattle.hm_infer.proofs.table.scheme_of.Given as goal

abbrev pub invariant-loop-node : goal.invariant-loop-node
invariant-loop-node l = record {
  walking : IsWalking (store l.solver) l.ty l.vars l.stack.items;
  seen : HasSeen (get nat_eq l.seen) l.vars;
}
