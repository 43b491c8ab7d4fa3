use Rattle.std.proofs.Common.{nat_eq}
use Rattle.std.specs.HashMap.{get}
use Rattle.hm_terms.specs.Stores.{store}
use Rattle.hm_infer.proofs.Tabling.{fills}
use Rattle.hm_infer.proofs.table.typed.Goals as goal

pub returns-clause-fills : goal.returns-clause-fills
returns-clause-fills c = λ noted named shown schemes.
    fills (store c.args.solver) c.in_ok-table.table (get nat_eq c.args.nodes.now) noted named c.args.count c.in_ok-node.node c.in_ok-schemes.schemes c.in_ok-slots.slots c.in_ok-table.ensures c.in_ok-node.ensures (c.in_ok-schemes.ensures named schemes) c.in_ok-slots.ensures shown
