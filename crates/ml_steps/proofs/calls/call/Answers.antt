use Rattle.std.proofs.Common.{None, sym, ap, ◌∙◌}
use Rattle.std.specs.Option.{option_map}
use Rattle.ml_meaning.specs.declared.event.Event.{Event}
use Rattle.ml_meaning.specs.Evaluation as m
use Rattle.ml_meaning.specs.Operations.{operate}
use Rattle.ml_meaning.specs.Tellings as t
use Rattle.ml_functions.specs.Table as table
use Rattle.ml_values.specs.declared.told.Mode.TheVariants as mode
use Rattle.ml_values.specs.Givings.{given_run}
use Rattle.ml_values.specs.Shown.{values_list, code_of}
use Rattle.ml_values.specs.Telling.{mode_of}
use Rattle.ml_steps.specs.Left.{call_of, entered}
use Rattle.ml_steps.specs.Worlds.{setting_of}
use Rattle.ml_steps.proofs.Called.{call_primitive, call_source}
use Rattle.ml_steps.proofs.Runs.{nexts_as, nexts_bind, nexts_since}
use Rattle.ml_steps.proofs.calls.call.Goals as goal

pub returns-in_ok-given-in-Primitive : goal.returns-in_ok-given-in-Primitive
returns-in_ok-given-in-Primitive c =
    let s = setting_of c.args.world in
    let told = c.args.told.now.items in
    let now = c.finish_given.new.told.items in
    nexts_as s told now c.finish_given.result _ _
    (ap (λ d. call_of s c.args.fuel c.args.mode (code_of d) (values_list c.args.captured) (values_list c.args.args)) c.in-Primitive.is
    ∙ call_primitive c.args.world c.args.fuel c.weight.result c.args.mode c.in-Primitive.op (values_list c.args.captured) (values_list c.args.args) c.if-fuel-eq0.false
    (c.weight.ensures ∙ ap (λ d. m.call_weight Event s (code_of d)) c.in-Primitive.is))
    (nexts_since s told c.enter.new.told.items now c.finish_given.result (entered c.args.mode c.weight.result) _ c.in_ok-enter.ensures
    (nexts_bind s c.enter.new.told.items c.operate.new.told.items now c.finish_given.result (operate Event s None c.in-Primitive.op (values_list c.args.args)) (given_run c.in_ok-given-in-Primitive.given) (t.finish Event s (mode_of (mode.Last 64)))
    (c.in_ok-given-in-Primitive.ensures s.names s.fields s.code s.top s.append) (c.finish_given.ensures s.names s.fields s.code s.top s.append)))

pub returns-in-Some : goal.returns-in-Some
returns-in-Some c =
    let s = setting_of c.args.world in
    let told = c.args.told.now.items in
    let now = c.body.new.told.items in
    nexts_as s told now c.body.result _ _
    (ap (λ d. call_of s c.args.fuel c.args.mode (code_of d) (values_list c.args.captured) (values_list c.args.args)) c.in-Source.is
    ∙ call_source c.args.world c.args.fuel c.weight.result c.args.mode c.in-Source.node c.in-Some.function (values_list c.args.captured) (values_list c.args.args) c.if-fuel-eq0.false
    (c.weight.ensures ∙ ap (λ d. m.call_weight Event s (code_of d)) c.in-Source.is)
    (ap (option_map table.code_of) (sym c.in-Some.ensures)))
    (nexts_since s told c.enter.new.told.items now c.body.result (entered c.args.mode c.weight.result) _ c.in_ok-enter.ensures c.body.ensures)
