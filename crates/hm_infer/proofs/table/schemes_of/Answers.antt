use Rattle.std.proofs.Common.{List, sym, subst, arith}
use Rattle.ml_types.specs.declared.node.Scheme.{Scheme}
use Rattle.hm_terms.specs.Stores.{store}
use Rattle.hm_infer.specs.Tables.{Collects, none_yet}
use Rattle.hm_infer.proofs.table.schemes_of.Goals as goal

pub loop-number-init : goal.loop-number-init
loop-number-init c = record {
  collected = λ named shows. subst (λ (ss : List Scheme). Collects (store c.args.solver.now).nodes (store c.args.solver.now).bound named 0 ss) (sym c.new-schemes.ensures) none_yet;
  below = omega (arith);
}
