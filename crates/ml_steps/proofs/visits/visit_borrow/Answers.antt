use Rattle.std.proofs.Common.{ap, ◌∙◌}
use Rattle.ml_values.specs.Shown.{names, value}
use Rattle.ml_steps.specs.Worlds.{setting_of}
use Rattle.ml_steps.proofs.Beginnings.{borrow_is}
use Rattle.ml_steps.proofs.visits.visit_borrow.Goals as goal

pub returns : goal.returns
returns c =
    let s = setting_of c.args.world in
    borrow_is s c.args.here c.args.node c.args.body.now c.inner.result (value c.in-Some.word) c.args.told.now.items c.push.new.self.items c.go_on_then.result
    c.in-Some.ensures c.in_ok-push.ensures.items c.inner.ensures.mode
    (ap names (c.inner.ensures.env ∙ c.with.ensures.env) ∙ c.in_ok-env.ensures)
    (c.inner.ensures.fuel ∙ c.with.ensures.fuel) (c.go_on_then.ensures s)
