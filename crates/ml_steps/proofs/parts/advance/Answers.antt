use Rattle.std.proofs.Common.{Some, ◌-◌, ◌∷◌, sym, ap, ◌∙◌, arith}
use Rattle.ml_meaning.specs.declared.event.Event.{Event}
use Rattle.ml_meaning.specs.Evaluation.{closure}
use Rattle.ml_meaning.specs.Programs.{evaluate}
use Rattle.ml_meaning.specs.Runs.{after, ◌>>=◌}
use Rattle.ml_values.specs.Shown.{names, values_list}
use Rattle.ml_steps.specs.Left.{calls_of, finish_run, part_run, parts_run, parts_runs}
use Rattle.ml_steps.specs.Worlds.{setting_of}
use Rattle.ml_steps.proofs.RunsParts.{part_more}
use Rattle.ml_steps.proofs.Telling.{closes_inner}
use Rattle.ml_steps.proofs.parts.advance.Goals as goal

pub returns-in-Some-Evaluate : goal.returns-in-Some-Evaluate
returns-in-Some-Evaluate c =
    let s = setting_of c.args.world in
    ap (after c.args.told.now.items)
    (part_more s (parts_runs s c.args.parts) c.args.left (evaluate Event s c.in-Some-Evaluate.e.now) (calls_of s c.args.here) (names c.args.here.env) (finish_run s c.args.last c.args.here) (values_list c.args.done)
    (omega (arith, c.if-left-eq0.false)) (sym (c.in-Some-Evaluate.ensures s) ∙ ap (λ p. Some (part_run s p)) c.in-Some-Evaluate.field-0-is)
    ∙ sym (c.evaluate_then.ensures s))

pub returns-in-Some-Close : goal.returns-in-Some-Close
returns-in-Some-Close c =
    let s = setting_of c.args.world in
    ap (after c.args.told.now.items)
    (part_more s (parts_runs s c.args.parts) c.args.left (closure Event s c.in-Some-Close.node) (calls_of s c.args.here) (names c.args.here.env) (finish_run s c.args.last c.args.here) (values_list c.args.done)
    (omega (arith, c.if-left-eq0.false)) (sym (c.in-Some-Close.ensures s) ∙ ap (λ p. Some (part_run s p)) c.in-Some-Close.field-0-is)
    ∙ (ap (λ r. r >>= λ v. parts_run s c.args.parts (c.args.left - 1) (v ∷ values_list c.args.done) c.args.last c.args.here) (sym (closes_inner s c.in-Some-Close.node c.args.here c.inner.result c.inner.ensures.mode c.inner.ensures.env c.inner.ensures.fuel))
    ∙ sym (c.go_on_then.ensures s)))
