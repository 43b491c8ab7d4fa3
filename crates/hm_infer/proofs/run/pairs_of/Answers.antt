use Rattle.hm_terms.specs.Stores.{store}
use Rattle.hm_infer.proofs.Lowerings.{pairs_then}
use Rattle.hm_infer.proofs.Spelled.{step_spelled}
use Rattle.hm_infer.proofs.run.pairs_of.Goals as goal

pub returns-clause-lowers : goal.returns-clause-lowers
returns-clause-lowers c = λ d k.
    pairs_then (store c.args.solver.now) (store c.note_node.new.solver) (store c.push_pairs.new.solver) c.args.d.now.types d c.as_slice.result.now c.args.step.now.equations c.new-pairs.result.items c.push_pairs.new.pairs.items k c.in_ok-note_node.ensures.grows c.in_ok-push_pairs.ensures.lowers c.as_slice.ensures c.new-pairs.ensures.items

pub returns-clause-spells : goal.returns-clause-spells
returns-clause-spells c = λ r.
    step_spelled (store c.args.solver.now) (store c.note_node.new.solver) (store c.push_pairs.new.solver) c.args.d.now.types c.args.solver.now.slots c.note_node.new.solver.slots c.push_pairs.new.solver.slots c.as_slice.result.now c.args.step.now.equations c.new-pairs.result.items c.push_pairs.new.pairs.items r c.in_ok-note_node.ensures.grows c.in_ok-note_node.ensures.slots c.in_ok-push_pairs.ensures.spells c.as_slice.ensures c.new-pairs.ensures.items
