use Rattle.std.proofs.Common.{sym, ap, ◌∙◌}
use Rattle.std.specs.Option.{option_map}
use Rattle.ml_meaning.specs.Runs.{after}
use Rattle.ml_values.specs.Shown.{names, value}
use Rattle.ml_steps.specs.Worlds.{setting_of}
use Rattle.ml_steps.proofs.Passing.{none_found, passes_end, passes_step, passes_taken}
use Rattle.ml_steps.proofs.Runs.{step_next}
use Rattle.ml_steps.proofs.arms.choose.Goals as goal

pub returns-in-Some : goal.returns-in-Some
returns-in-Some c =
    let s = setting_of c.args.world in
    ap (after c.args.told.now.items)
    (passes_taken s c.args.arms.now c.args.from c.loop-at.at c.args.here (value c.args.word) c.index-arms-at.result c.in-Some.env c.loop-at-test.true c.index-arms-at.is
    (ap (option_map names) (sym c.in-Some.is) ∙ c.in_ok-env.ensures) c.loop-at.invariant
    ∙ sym (c.taken.ensures s))

pub loop-at-preserved : goal.loop-at-preserved
loop-at-preserved c =
    let s = setting_of c.args.world in
    passes_step s c.args.arms.now c.args.from c.loop-at.at c.args.here (value c.args.word) c.index-arms-at.result c.loop-at-test.true c.index-arms-at.is
    (sym (none_found c.in_ok-env.field-0 c.in_default.not-Some) ∙ c.in_ok-env.ensures) c.loop-at.invariant

pub returns : goal.returns
returns c =
    let s = setting_of c.args.world in
    step_next s c.args.told.now.items c.failed.new.told.items c.go_on.result c.in_ok-failed.field-0 _
    (ap (after c.args.told.now.items) (passes_end s c.args.arms.now c.args.from c.loop-at.at c.args.here (value c.args.word) c.loop-at-test.false c.loop-at.invariant)
    ∙ c.in_ok-failed.ensures s.names s.fields s.code s.top s.append)
    (c.go_on.ensures s)
