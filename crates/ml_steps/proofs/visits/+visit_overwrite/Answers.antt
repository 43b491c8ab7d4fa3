use Rattle.std.proofs.Common.{Some, sym, ap, ap₂, ◌∙◌}
use Rattle.ml_tree.specs.declared.expr.ExprKind.TheVariants as E
use Rattle.ml_steps.specs.Worlds.{setting_of}
use Rattle.ml_steps.proofs.Beginnings.{steps_as}
use Rattle.ml_steps.proofs.Overwrites.{over_con, over_cons, over_paren}
use Rattle.ml_steps.proofs.visits.+visit_overwrite.Goals as goal

pub returns-in-Paren : goal.returns-in-Paren
returns-in-Paren t c =
    let s = setting_of c.args.world in
    steps_as s c.args.told.now.items c.visit_overwrite.new.told.items c.visit_overwrite.result _ _
    (over_paren s c.args.node c.args.here c.args.built.now c.get.result.now (c.in-Paren.is ∙ ap E.Paren (sym c.get.ensures)))
    c.visit_overwrite.ensures

pub returns-in-Cons : goal.returns-in-Cons
returns-in-Cons t c =
    let s = setting_of c.args.world in
    steps_as s c.args.told.now.items c.visit_parts.new.told.items c.visit_parts.result _ _
    (over_cons s c.args.node c.args.here c.args.built.now c.get-in-Cons.result.now c.get-in-Cons-2.result.now (c.in-Cons.is ∙ ap₂ E.Cons (sym c.get-in-Cons.ensures) (sym c.get-in-Cons-2.ensures)))
    c.visit_parts.ensures

pub returns-in-Some : goal.returns-in-Some
returns-in-Some t c =
    let s = setting_of c.args.world in
    steps_as s c.args.told.now.items c.overwrite_con.new.told.items c.overwrite_con.result _ _
    (over_con s c.args.node c.args.here c.args.built.now c.get-in-Some.result.now c.in-Con.name (c.in-Con.is ∙ ap (E.Con c.in-Con.name) (c.in-Some.is ∙ ap (λ x. Some x) (sym c.get-in-Some.ensures))))
    c.overwrite_con.ensures
