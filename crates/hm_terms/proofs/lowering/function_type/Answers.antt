use Rattle.hm_terms.specs.Stores.{store}
use Rattle.hm_terms.proofs.Growth.{grows_same}
use Rattle.hm_terms.proofs.Walking.{function_first, function_next, function_last}
use Rattle.hm_terms.proofs.SpellSteps.{arrows_first, arrows_next, arrows_last}
use Rattle.hm_terms.proofs.lowering.function_type.Goals as goal

pub loop-done-init : goal.loop-done-init
loop-done-init c = record {
  lowers = λ hs r k all one. function_first (store c.args.solver.now) hs r c.args.params.now c.args.last all (record { grows = grows_same (store c.args.solver.now); holds = one });
  arrows = arrows_first (store c.args.solver.now) c.args.solver.now.slots c.args.params.now c.args.last;
}

pub loop-done-preserved : goal.loop-done-preserved
loop-done-preserved c = record {
  lowers = λ hs r k all one.
      function_next (store c.args.solver.now) (store c.loop-done.solver) (store c.arrow.new.self) hs r c.args.params.now c.loop-done.done c.loop-done.solver.slots c.in-Some.from c.loop-done.to c.in_ok-to.to k all
      (c.loop-done.invariant.lowers hs r k all one) c.in-Some.ensures.0 c.in-Some.ensures.1 c.in_ok-to.ensures.adds;
  arrows = arrows_next (store c.args.solver.now) (store c.loop-done.solver) (store c.arrow.new.self) c.args.solver.now.slots c.loop-done.solver.slots c.arrow.new.self.slots c.args.params.now c.args.last c.loop-done.to c.in-Some.from c.in_ok-to.to c.loop-done.done
      c.loop-done.invariant.arrows c.in-Some.ensures.0 c.in-Some.ensures.1 c.in_ok-to.ensures.adds c.in_ok-to.ensures.slot;
}

pub returns-clause-lowers : goal.returns-clause-lowers
returns-clause-lowers c = λ hs r k all one. function_last (store c.args.solver.now) (store c.loop-done.solver) hs r c.args.params.now c.loop-done.done c.loop-done.to c.loop-done-test.false (c.loop-done.invariant.lowers hs r k all one)

pub returns-clause-arrows : goal.returns-clause-arrows
returns-clause-arrows c = arrows_last (store c.args.solver.now) (store c.loop-done.solver) c.args.solver.now.slots c.loop-done.solver.slots c.args.params.now c.args.last c.loop-done.to c.loop-done.done c.loop-done-test.false c.loop-done.invariant.arrows
