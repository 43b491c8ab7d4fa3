use Rattle.ml_typing.specs.declared.equation.Unknown.TheVariants.{Fresh}
use Rattle.hm_terms.specs.Stores.{store}
use Rattle.hm_infer.proofs.Declarations.{variables_more}
use Rattle.hm_infer.proofs.declared.add_variables.Goals as goal

pub loop-number-preserved : goal.loop-number-preserved
loop-number-preserved c = variables_more (store c.args.solver.now) (store c.loop-number.solver) (store c.unknown.new.self) (Fresh 0 c.loop-number.number) c.in_ok-_id._id c.loop-number.invariant c.in_ok-_id.ensures.knows
