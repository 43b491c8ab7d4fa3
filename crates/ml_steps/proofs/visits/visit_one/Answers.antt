use Rattle.std.proofs.Common.{Some, sym, ap, ap₂, ◌∙◌}
use Rattle.ml_tree.specs.declared.expr.ExprKind.TheVariants as E
use Rattle.ml_steps.specs.declared.frame.Then.TheVariants as then
use Rattle.ml_steps.specs.Left.{followed, inner_run, then_run}
use Rattle.ml_steps.specs.Worlds.{setting_of}
use Rattle.ml_steps.proofs.KindRuns.{run_field, run_if, run_if_alone, run_match, run_minus, run_paren, run_typed, run_worded}
use Rattle.ml_steps.proofs.visits.visit_one.Goals as goal

pub returns-in-Field : goal.returns-in-Field
returns-in-Field c =
    let s = setting_of c.args.world in
    c.evaluate_then.ensures s
    ∙ (ap (λ p. followed (inner_run s c.get.result.now c.args.here) (then_run s (then.Project p) c.args.here)) c.field_place.ensures
    ∙ sym (run_field s c.args.kind.now c.args.node c.args.here c.get.result.now c.in-Field.field-1 (c.in-Field.is ∙ ap (λ x. E.Field x c.in-Field.field-1) (sym c.get.ensures))))

pub returns-in-Minus : goal.returns-in-Minus
returns-in-Minus c =
    let s = setting_of c.args.world in
    c.evaluate_then-in-Minus.ensures s
    ∙ sym (run_minus s c.args.kind.now c.args.node c.args.here c.get-in-Minus.result.now (c.in-Minus.is ∙ ap E.Minus (sym c.get-in-Minus.ensures)))

pub returns-in-Some : goal.returns-in-Some
returns-in-Some c =
    let s = setting_of c.args.world in
    c.evaluate_then-in-Some.ensures s
    ∙ sym (run_if s c.args.kind.now c.args.node c.args.here c.get-in-Some.result.now c.get-in-Some-2.result.now c.get-in-Some-3.result.now (c.in-If.is ∙ (ap₂ (λ x y. E.If x y c.in-If.other) (sym c.get-in-Some.ensures) (sym c.get-in-Some-2.ensures) ∙ ap (E.If c.get-in-Some.result.now c.get-in-Some-2.result.now) (c.in-Some.is ∙ ap (λ x. Some x) (sym c.get-in-Some-3.ensures)))))

pub returns-in-None : goal.returns-in-None
returns-in-None c =
    let s = setting_of c.args.world in
    c.evaluate_then-in-None.ensures s
    ∙ sym (run_if_alone s c.args.kind.now c.args.node c.args.here c.get-in-None.result.now c.get-in-None-2.result.now (c.in-If.is ∙ (ap₂ (λ x y. E.If x y c.in-If.other) (sym c.get-in-None.ensures) (sym c.get-in-None-2.ensures) ∙ ap (E.If c.get-in-None.result.now c.get-in-None-2.result.now) c.in-None.is)))

pub returns-in-Match : goal.returns-in-Match
returns-in-Match c =
    let s = setting_of c.args.world in
    c.evaluate_then-in-Match.ensures s
    ∙ sym (run_match s c.args.kind.now c.args.node c.args.here c.get-in-Match.result.now c.as_slice.result.now (c.in-Match.is ∙ ap₂ E.Match (sym c.get-in-Match.ensures) (sym c.as_slice.ensures)))

pub returns-in-Paren : goal.returns-in-Paren
returns-in-Paren c =
    let s = setting_of c.args.world in
    c.go_on.ensures s
    ∙ sym (run_paren s c.args.kind.now c.args.node c.args.here c.get-in-Paren.result.now (c.in-Paren.is ∙ ap E.Paren (sym c.get-in-Paren.ensures)))

pub returns-in-Typed : goal.returns-in-Typed
returns-in-Typed c =
    let s = setting_of c.args.world in
    c.go_on-in-Typed.ensures s
    ∙ sym (run_typed s c.args.kind.now c.args.node c.args.here c.get-in-Typed.result.now c.in-Typed.field-1 (c.in-Typed.is ∙ ap (λ x. E.Typed x c.in-Typed.field-1) (sym c.get-in-Typed.ensures)))

pub returns-in-Worded : goal.returns-in-Worded
returns-in-Worded c =
    let s = setting_of c.args.world in
    c.evaluate_then-in-Worded.ensures s
    ∙ sym (run_worded s c.args.kind.now c.args.node c.args.here c.in-Worded.field-0 c.get-in-Worded.result.now (c.in-Worded.is ∙ ap (E.Worded c.in-Worded.field-0) (sym c.get-in-Worded.ensures)))
