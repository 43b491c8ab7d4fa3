use Rattle.std.proofs.Common.{refl, nat_eq}
use Rattle.std.specs.HashMap.{get}
use Rattle.std.proofs.lemmas.Option.{slice_get_read}
use Rattle.hm_terms.specs.Stores.{store}
use Rattle.hm_infer.proofs.Leaving.{notes_next}
use Rattle.hm_infer.proofs.schemes.note_nodes.Goals as goal

pub loop-step-preserved : goal.loop-step-preserved
loop-step-preserved c =
    notes_next (store c.args.solver.now) c.args.steps.now c.loop-step.step-index c.step-item.result (get nat_eq c.args.nodes.now) (get nat_eq c.loop-step.nodes) (get nat_eq c.note_step.new.nodes)
    (slice_get_read c.args.steps.now _ c.loop-step.step-index c.step-item.result refl c.loop-step-test.true c.step-item.is) c.loop-step.invariant c.in_ok-note_step.ensures
