use Rattle.std.proofs.Common.{length, sym, ap, ap₂, ◌∙◌}
use Rattle.ml_tree.specs.declared.expr.ExprKind.TheVariants as E
use Rattle.ml_values.proofs.Layers.{constant_is}
use Rattle.ml_steps.specs.Left.{chain_run}
use Rattle.ml_steps.specs.Worlds.{setting_of}
use Rattle.ml_steps.proofs.Beginnings.{steps_as, steps_quietly}
use Rattle.ml_steps.proofs.KindRuns.{run_exclave, run_list, run_sequence}
use Rattle.ml_steps.proofs.visits.visit_kind.Goals as goal

pub returns-in-List : goal.returns-in-List
returns-in-List c =
    let s = setting_of c.args.world in
    let items = c.as_slice-in-List.result.now in
    steps_as s c.args.told.now.items c.chain.new.told.items c.chain.result _ _
    (run_list s c.args.kind.now c.args.node c.args.here items (c.in-List.is ∙ ap E.List (sym c.as_slice-in-List.ensures))
    ∙ ap₂ (λ n tail. chain_run s c.args.node items n tail c.args.here) (ap length c.as_slice-in-List.ensures ∙ sym c.len.ensures) (sym (constant_is 0)))
    (c.chain.ensures s.names s.fields s.code s.top s.append)

pub returns-in-Exclave : goal.returns-in-Exclave
returns-in-Exclave c =
    let s = setting_of c.args.world in
    steps_as s c.args.told.now.items c.visit_exclave.new.told.items c.visit_exclave.result _ _
    (run_exclave s c.args.kind.now c.args.node c.args.here c.get.result.now (c.in-Exclave.is ∙ ap E.Exclave (sym c.get.ensures)))
    (c.visit_exclave.ensures s.names s.fields s.code s.top s.append)

pub returns-in-Seq : goal.returns-in-Seq
returns-in-Seq c =
    let s = setting_of c.args.world in
    steps_as s c.args.told.now.items c.args.told.now.items c.sequence.result _ _
    (run_sequence s c.args.kind.now c.args.node c.args.here c.as_slice-in-Seq.result.now (c.in-Seq.is ∙ ap E.Seq (sym c.as_slice-in-Seq.ensures)))
    (steps_quietly s c.args.told.now.items c.args.told.now.items c.sequence.result _ (c.sequence.ensures s))
