use Rattle.std.proofs.lemmas.Result.{IfErr-weaker}
use Rattle.hm_terms.specs.Stores.{store}
use Rattle.hm_infer.proofs.Faults.{judged_large, judged_outgrown, judged_unsolved, judged_held}
use Rattle.hm_infer.proofs.items.judge.Goals as goal

pub returns-then-large-clause-err : goal.returns-then-large-clause-err
returns-then-large-clause-err c = IfErr-weaker c.too_large.result _ _
    (λ e l d r. judged_large (store c.args.solver.now) c.args.d.now.types d c.args.steps.now c.in_ok-done.done.now c.args.progress c.in_ok-large.large c.in_ok-place.place e c.if-large.true c.sound.ensures c.in_ok-done.ensures c.in_ok-large.ensures c.in_ok-place.ensures l r)
    c.too_large.ensures.err

pub returns-in-Holds-clause-ok : goal.returns-in-Holds-clause-ok
returns-in-Holds-clause-ok c = λ d r. judged_held (store c.args.solver.now) c.args.d.now.types d c.args.steps.now c.in_ok-done.done.now c.args.progress c.in_ok-large.large c.if-large.false c.in-Holds.is c.in_ok-done.ensures c.in_ok-large.ensures r

pub returns-in-Large-clause-err : goal.returns-in-Large-clause-err
returns-in-Large-clause-err c = IfErr-weaker c.too_large-in-Large.result _ _
    (λ e l d r. judged_outgrown (store c.args.solver.now) c.args.d.now.types d c.args.steps.now c.in_ok-done.done.now c.args.progress c.in_ok-large.large e c.if-large.false c.in-Large.is c.sound.ensures c.in_ok-done.ensures c.in_ok-large.ensures l r)
    c.too_large-in-Large.ensures.err

pub returns-in-Unsolved-clause-err : goal.returns-in-Unsolved-clause-err
returns-in-Unsolved-clause-err c = IfErr-weaker c.unsolved.result _ _
    (λ e l d r. judged_unsolved (store c.args.solver.now) c.args.d.now.types d c.args.steps.now c.in_ok-done.done.now c.args.progress c.in_ok-large.large c.in-Unsolved.span e c.if-large.false c.in-Unsolved.is c.sound.ensures c.in_ok-done.ensures c.in_ok-large.ensures l r)
    c.unsolved.ensures.err
