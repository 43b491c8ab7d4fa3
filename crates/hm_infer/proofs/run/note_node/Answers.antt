use Rattle.ml_typing.specs.declared.equation.Unknown.TheVariants.{Node}
use Rattle.hm_terms.specs.Stores.{store}
use Rattle.hm_infer.proofs.Lowerings.{knows_grows}
use Rattle.hm_infer.proofs.run.note_node.Goals as goal

pub returns-in_ok-_id-clause-grows : goal.returns-in_ok-_id-clause-grows
returns-in_ok-_id-clause-grows c = knows_grows (store c.args.solver.now) (store c.unknown.new.self) (Node c.in-Some.node) c.in_ok-_id._id c.in_ok-_id.ensures.knows
