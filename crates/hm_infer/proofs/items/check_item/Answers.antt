use Rattle.std.proofs.lemmas.Result.{on_ok_weaker, IfErr-weaker}
use Rattle.hm_terms.specs.Stores.{store}
use Rattle.hm_infer.proofs.Shown.{starts}
use Rattle.hm_infer.proofs.Spelled.{runs_to, on_ok_both}
use Rattle.hm_infer.proofs.Keeping.{keeps_to}
use Rattle.hm_infer.proofs.items.check_item.Goals as goal

pub returns-clause-ok : goal.returns-clause-ok
returns-clause-ok c = on_ok_weaker c.judge.result
    (λ h d read none. h d (c.in_ok-progress.ensures.runs d read (starts (store c.args.solver.now) c.sound.ensures none)))
    c.judge.ensures.ok

pub returns-clause-keeps : goal.returns-clause-keeps
returns-clause-keeps c = on_ok_weaker c.judge.result
    (λ same d read none. keeps_to (store c.args.solver.now) (store c.run_steps.new.solver) (store c.judge.new.solver) same (c.in_ok-progress.ensures.keeps d read (starts (store c.args.solver.now) c.sound.ensures none)))
    c.judge.ensures.same

pub returns-clause-err : goal.returns-clause-err
returns-clause-err c = IfErr-weaker c.judge.result _ _
    (λ e h d read none. h d (c.in_ok-progress.ensures.runs d read (starts (store c.args.solver.now) c.sound.ensures none)))
    c.judge.ensures.err

pub returns-clause-slots : goal.returns-clause-slots
returns-clause-slots c = on_ok_weaker c.judge.result
    (λ both d read none. runs_to c.args.d.now.types (store c.args.solver.now) (store c.run_steps.new.solver) (store c.judge.new.solver) c.args.solver.now.slots c.run_steps.new.solver.slots c.judge.new.solver.slots c.args.steps.now both.0.0 both.0.1 (c.in_ok-progress.ensures.slots d read (starts (store c.args.solver.now) c.sound.ensures none) both.1))
    (on_ok_both c.judge.result _ _ (on_ok_both c.judge.result _ _ c.judge.ensures.same c.judge.ensures.slots) c.judge.ensures.went)
