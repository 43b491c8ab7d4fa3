use Rattle.std.proofs.Common.{◌+◌, ◌≤◌, arith}
use Rattle.std.proofs.lemmas.List.{length-take-le}
use Rattle.hm_terms.specs.Stores.{store}
use Rattle.hm_infer.proofs.Narrowing.{searching_start, searching_more, first_found}
use Rattle.hm_infer.proofs.limit.first_large.Goals as goal
use Rattle.hm_infer.proofs.limit.first_large.Goals.{then-high-low-via-then-high-low, then-high-low-via-else-high-low+then-high-low-eq1}

pub loop-run-init : goal.loop-run-init
loop-run-init c = record {
  within = omega arith;
  searching = λ e read makes. searching_start (store c.args.solver.now) c.args.d.now.types e c.args.steps.now read makes;
}

pub loop-run-preserved : goal.loop-run-preserved
loop-run-preserved c =
    let within = c.loop-run.invariant.within in
    let count = length-take-le c.loop-run.high c.args.steps.now within in
    let narrowed = c.in_ok-bracket.ensures.within in
    record {
      within = omega (arith, within, count, narrowed);
      searching = λ e read makes.
          searching_more (store c.loop-run.solver) (store c.next_item.new.self) (store c.narrowed.new.solver) c.args.d.now.types e c.args.steps.now c.loop-run.low c.loop-run.high c.in_ok-bracket.bracket within c.next_item.ensures.forgets
          (c.in_ok-bracket.ensures.narrows e) (c.loop-run.invariant.searching e read makes);
    }

pub returns-then-high-low : goal.returns-then-high-low
returns-then-high-low c =
    let near : c.loop-run.high ≤ c.loop-run.low + 1 = elim c.then-high-low.branch [
      | then-high-low-via-then-high-low w ↦ omega (arith, w.if-high-low.true)
      | then-high-low-via-else-high-low+then-high-low-eq1 w ↦ omega (arith, w.if-high-low-eq1.true)
    ] in
    λ e read makes. first_found (store c.loop-run.solver) c.args.d.now.types e c.args.steps.now c.loop-run.low c.loop-run.high c.loop-run.invariant.within near (c.loop-run.invariant.searching e read makes)
