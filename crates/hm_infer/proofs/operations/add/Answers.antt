use Rattle.std.proofs.lemmas.Result.{on_ok_weaker}
use Rattle.hm_terms.specs.Stores.{store}
use Rattle.hm_infer.proofs.operations.add.Goals as goal

pub returns : goal.returns
returns c = on_ok_weaker c.add_operation.result (λ a. record { middle = store c.arrow.new.self; slot = c.args.solver.now.slots; id = c.in_ok-id.id; node = c.in_ok-id.ensures.adds; operation = a }) c.add_operation.ensures.adds
