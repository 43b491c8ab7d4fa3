use Rattle.hm_terms.specs.Stores.{store}
use Rattle.hm_infer.proofs.Lowerings.{push_none, push_next, push_all}
use Rattle.hm_infer.proofs.Spelled.{spelled_none, spelled_next, spelled_all}
use Rattle.hm_infer.proofs.run.push_pairs.Goals as goal

pub loop-equation-init : goal.loop-equation-init
loop-equation-init c = record {
  lowers = λ d before k h. push_none (store c.args.solver.now) d before c.args.equations.now c.args.pairs.now.items h;
  spells = λ r. spelled_none (store c.args.solver.now) c.args.d.now.types c.args.solver.now.slots c.args.pairs.now.items;
}

pub loop-equation-preserved : goal.loop-equation-preserved
loop-equation-preserved c = record {
  lowers = λ d before k h.
      push_next (store c.args.solver.now) (store c.loop-equation.solver) (store c.pair_of.new.solver) c.args.d.now.types d before c.args.equations.now c.loop-equation.equation-index c.equation-item.result c.in_ok-pair.pair c.loop-equation.pairs.items _ c.loop-equation-test.true c.equation-item.is k
      (c.loop-equation.invariant.lowers d before k h) c.in_ok-pair.ensures.lowers c.in_ok-push.ensures.items;
  spells = λ r.
      spelled_next (store c.args.solver.now) (store c.loop-equation.solver) (store c.pair_of.new.solver) c.args.d.now.types c.args.solver.now.slots c.loop-equation.solver.slots c.pair_of.new.solver.slots c.args.equations.now c.loop-equation.equation-index c.equation-item.result c.in_ok-pair.pair c.args.pairs.now.items c.loop-equation.pairs.items _ c.loop-equation-test.true c.equation-item.is r
      (c.loop-equation.invariant.spells r) c.in_ok-pair.ensures.spells c.in_ok-push.ensures.items;
}

pub returns-clause-lowers : goal.returns-clause-lowers
returns-clause-lowers c = λ d before k h.
    push_all (store c.args.solver.now) (store c.loop-equation.solver) d before c.args.equations.now c.loop-equation.equation-index c.loop-equation.pairs.items c.loop-equation-test.false (c.loop-equation.invariant.lowers d before k h)

pub returns-clause-spells : goal.returns-clause-spells
returns-clause-spells c = λ r.
    spelled_all (store c.args.solver.now) (store c.loop-equation.solver) c.args.d.now.types c.args.solver.now.slots c.loop-equation.solver.slots c.args.equations.now c.loop-equation.equation-index c.args.pairs.now.items c.loop-equation.pairs.items c.loop-equation-test.false (c.loop-equation.invariant.spells r)
