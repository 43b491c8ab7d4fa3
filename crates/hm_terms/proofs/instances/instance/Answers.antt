use Rattle.std.proofs.Common.{◌≡◌, Some, None, nat_eq, sym, ◌∙◌, rules}
use Rattle.std.specs.HashMap.{get}
use Rattle.std.proofs.lemmas.Result.{IfOk-weaker}
use Rattle.hm_terms.specs.Stores.{store}
use Rattle.hm_terms.specs.Slots.{places, none_copied}
use Rattle.hm_terms.proofs.Growth.{grows_same, grows_then}
use Rattle.hm_terms.proofs.Slots.{step_then}
use Rattle.hm_terms.proofs.instances.instance.Goals as goal

pub loop-step-init : goal.loop-step-init
loop-step-init c = record {
  copied = λ f r p. (grows_same (store c.args.solver.now), λ k y e w s. absurd (let g : get nat_eq c.new-copies.result k ≡ None = search rules in let h : None ≡ Some y = sym g ∙ e in cc));
  keeps = λ r. record { grows = grows_same (store c.args.solver.now); keeps = λ h k y e. absurd (let g : get nat_eq c.new-copies.result k ≡ None = search rules in let h : None ≡ Some y = sym g ∙ e in cc) };
  slots = search rules;
}

pub loop-step-preserved : goal.loop-step-preserved
loop-step-preserved c = record {
  copied = λ f r p.
      (let h = c.loop-step.invariant.copied f r p in
      let k = c.in_ok-visit.ensures.copies (store c.args.solver.now) f r h.0 p h.1 in
      (grows_then (store c.args.solver.now) (store c.loop-step.solver) (store c.visit.new.solver) h.0 k.0, k.1));
  keeps = λ r.
      (let h = c.loop-step.invariant.keeps r in
      step_then (store c.args.solver.now) (store c.loop-step.solver) (store c.visit.new.solver) (places c.args.put) none_copied (get nat_eq c.loop-step.copies) _ h (c.in_ok-visit.ensures.keeps (h.grows.ready r)));
  slots = c.in_ok-visit.ensures.slots ∙ c.loop-step.invariant.slots;
}

pub returns-in_default-clause-lowers : goal.returns-in_default-clause-lowers
returns-in_default-clause-lowers c = IfOk-weaker c.copy_of.result _ _
    (λ x e f w r p s. let h = c.loop-step.invariant.copied f r p in record { grows = h.0; holds = h.1 c.args.root.0 x e w s })
    c.copy_of.ensures

pub returns-in_default-clause-copies : goal.returns-in_default-clause-copies
returns-in_default-clause-copies c = IfOk-weaker c.copy_of.result _ _
    (λ x e r. let h = c.loop-step.invariant.keeps r in record { grows = h.grows; copy = h.keeps (λ k y none. absurd (let n : None ≡ Some y = none in cc)) c.args.root.0 x e })
    c.copy_of.ensures
