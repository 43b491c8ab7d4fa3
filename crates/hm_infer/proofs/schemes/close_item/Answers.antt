use Rattle.std.proofs.Common.{get_or, refl, ◌∙◌}
use Rattle.std.proofs.lemmas.Option.{slice_get-get_or}
use Rattle.hm_terms.specs.Stores.{store}
use Rattle.hm_infer.proofs.Leaving.{closing_start, closing_next}
use Rattle.hm_infer.proofs.schemes.close_item.Goals as goal

pub loop-binder-init : goal.loop-binder-init
loop-binder-init c = record { closing = closing_start (store c.args.solver.now) c.args.binders.now; slots = refl }

pub loop-binder-preserved : goal.loop-binder-preserved
loop-binder-preserved c = record {
  closing = closing_next (store c.args.solver.now) (store c.loop-binder.solver) (store c.unknown.new.self) (store c.generalise.new.self) c.args.binders.now c.loop-binder.binder-index (get_or c.args.binders.now c.loop-binder.binder-index 0) c.in_ok-id.id
      (slice_get-get_or c.args.binders.now c.loop-binder.binder-index 0 c.loop-binder-test.true) c.loop-binder.invariant.closing c.in_ok-id.ensures.knows c.in_ok-generalise.ensures.generalises;
  slots = c.in_ok-generalise.ensures.slots ∙ c.in_ok-id.ensures.slots ∙ c.loop-binder.invariant.slots;
}
