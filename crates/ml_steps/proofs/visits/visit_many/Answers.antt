use Rattle.std.proofs.Common.{map, sym, ap, ap₂, ◌∙◌}
use Rattle.ml_tree.specs.declared.expr.ExprKind.TheVariants as E
use Rattle.ml_meaning.specs.declared.event.Event.{Event}
use Rattle.ml_meaning.specs.Programs.{evaluate}
use Rattle.ml_steps.specs.Left.{bind_value, bound_run, record_run}
use Rattle.ml_steps.specs.Worlds.{setting_of}
use Rattle.ml_steps.proofs.Beginnings.{steps_as}
use Rattle.ml_steps.proofs.KindRuns.{all_run, run_apply, run_borrow, run_cons, run_fields, run_index, run_let, run_overwrite, run_tuple}
use Rattle.ml_steps.proofs.visits.visit_many.Goals as goal

pub returns-in-Cons : goal.returns-in-Cons
returns-in-Cons c =
    let s = setting_of c.args.world in
    steps_as s c.args.told.now.items c.visit_parts.new.told.items c.visit_parts.result _ _
    (run_cons s c.args.kind.now c.args.node c.args.here c.get-in-Cons.result.now c.get-in-Cons-2.result.now (c.in-Cons.is ∙ ap₂ E.Cons (sym c.get-in-Cons.ensures) (sym c.get-in-Cons-2.ensures)))
    c.visit_parts.ensures

pub returns-in-Tuple : goal.returns-in-Tuple
returns-in-Tuple c =
    let s = setting_of c.args.world in
    steps_as s c.args.told.now.items c.visit_parts-in-Tuple.new.told.items c.visit_parts-in-Tuple.result _ _
    (run_tuple s c.args.kind.now c.args.node c.args.here c.as_slice.result.now (c.in-Tuple.is ∙ ap E.Tuple (sym c.as_slice.ensures)))
    c.visit_parts-in-Tuple.ensures

pub returns-in-Fields : goal.returns-in-Fields
returns-in-Fields c =
    let s = setting_of c.args.world in
    let same = c.as_slice-in-Fields.ensures ∙ sym c.as_slice-in-Fields-2.ensures in
    steps_as s c.args.told.now.items c.visit_parts-in-Fields.new.told.items c.visit_parts-in-Fields.result _ _
    (run_fields s c.args.kind.now c.args.node c.args.here c.as_slice-in-Fields.result.now (c.in-Fields.is ∙ ap E.Fields (sym c.as_slice-in-Fields.ensures))
    ∙ ap (λ fs. all_run s c.args.here (map (λ f. evaluate Event s f.expr) c.as_slice-in-Fields.result.now) (record_run s c.args.node fs c.args.here)) same)
    c.visit_parts-in-Fields.ensures

pub returns-in-Index : goal.returns-in-Index
returns-in-Index c =
    let s = setting_of c.args.world in
    steps_as s c.args.told.now.items c.visit_parts-in-Index.new.told.items c.visit_parts-in-Index.result _ _
    (run_index s c.args.kind.now c.args.node c.args.here c.get-in-Index.result.now c.get-in-Index-2.result.now (c.in-Index.is ∙ ap₂ E.Index (sym c.get-in-Index.ensures) (sym c.get-in-Index-2.ensures)))
    c.visit_parts-in-Index.ensures

pub returns-in-Apply : goal.returns-in-Apply
returns-in-Apply c =
    let s = setting_of c.args.world in
    steps_as s c.args.told.now.items c.visit_apply.new.told.items c.visit_apply.result _ _
    (run_apply s c.args.kind.now c.args.node c.args.here c.get-in-Apply.result.now c.as_slice-in-Apply.result.now (c.in-Apply.is ∙ ap₂ E.Apply (sym c.get-in-Apply.ensures) (sym c.as_slice-in-Apply.ensures)))
    c.visit_apply.ensures

pub returns-in-Let : goal.returns-in-Let
returns-in-Let c =
    let s = setting_of c.args.world in
    let same = c.as_slice-in-Let.ensures ∙ sym c.as_slice-in-Let-2.ensures in
    steps_as s c.args.told.now.items c.visit_parts-in-Let.new.told.items c.visit_parts-in-Let.result _ _
    (run_let s c.args.kind.now c.args.node c.args.here c.in-Let.recursive c.as_slice-in-Let.result.now c.get-in-Let.result.now (c.in-Let.is ∙ ap₂ (E.Let c.in-Let.recursive) (sym c.as_slice-in-Let.ensures) (sym c.get-in-Let.ensures))
    ∙ ap (λ bs. all_run s c.args.here (map (bind_value s) c.as_slice-in-Let.result.now) (bound_run s bs c.get-in-Let.result.now c.args.here)) same)
    c.visit_parts-in-Let.ensures

pub returns-in-Overwrite : goal.returns-in-Overwrite
returns-in-Overwrite c =
    let s = setting_of c.args.world in
    steps_as s c.args.told.now.items c.visit_overwrite.new.told.items c.visit_overwrite.result _ _
    (run_overwrite s c.args.kind.now c.args.node c.args.here c.in-Overwrite.name c.get-in-Overwrite.result.now (c.in-Overwrite.is ∙ ap (E.Overwrite c.in-Overwrite.name) (sym c.get-in-Overwrite.ensures)))
    c.visit_overwrite.ensures

pub returns-in-Borrow : goal.returns-in-Borrow
returns-in-Borrow c =
    let s = setting_of c.args.world in
    steps_as s c.args.told.now.items c.visit_borrow.new.told.items c.visit_borrow.result _ _
    (run_borrow s c.args.kind.now c.args.node c.args.here c.in-Borrow.name c.in-Borrow.of c.get-in-Borrow.result.now (c.in-Borrow.is ∙ ap (E.Borrow c.in-Borrow.name c.in-Borrow.of) (sym c.get-in-Borrow.ensures)))
    c.visit_borrow.ensures
