use Rattle.std.proofs.Common.{◌≡◌, ◌+◌, ◌-◌, ◌<◌, length, arith}
use Rattle.ml_meaning.specs.declared.event.Event.{Event}
use Rattle.ml_meaning.specs.Evaluation as m
use Rattle.ml_values.specs.Shown.{code_of, values, values_list}
use Rattle.ml_values.specs.Telling.{mode_of}
use Rattle.ml_steps.specs.Left.{called_run, calls_of, partial_run}
use Rattle.ml_steps.specs.Worlds.{setting_of}
use Rattle.ml_steps.proofs.Applied.{calls_on, holds}
use Rattle.ml_steps.proofs.Runs.{steps_as}
use Rattle.ml_steps.proofs.calls.apply.Goals as goal

pub returns-then-branch-wanted : goal.returns-then-branch-wanted
returns-then-branch-wanted c =
    let s = setting_of c.args.world in
    let f = c.in-Function in
    let arity : c.arity-arity.result ≡ m.arity Event s (code_of f.code) = c.arity-arity.ensures in
    let has : c.in_ok-has.has ≡ length (values_list f.held) = c.in_ok-has.ensures in
    let given : c.in_ok-count.field-0 ≡ length (values_list c.args.args) = c.in_ok-count.ensures in
    let few : length (values_list f.held) + length (values_list c.args.args) < m.arity Event s (code_of f.code) = omega (arith, arity, has, given, c.if-branch-wanted.true) in
    steps_as s c.args.told.now.items c.hold.new.told.items c.hold.result
    (partial_run s c.args.node c.args.here (code_of f.code) (values f.captured) (values c.in_ok-held.held)) _
    (holds s c.args.node (calls_of s c.args.here) (mode_of c.args.here.mode) c.args.function f.code f.captured f.held (values_list c.args.args) c.in_ok-held.held f.is few c.in_ok-held.ensures)
    (c.hold.ensures s.names s.fields s.code s.top s.append)

pub returns : goal.returns
returns c =
    let s = setting_of c.args.world in
    let f = c.in-Function in
    let first = values_list c.in_ok-both.both.first in
    let arity : c.arity-arity.result ≡ m.arity Event s (code_of f.code) = c.arity-arity.ensures in
    let has : c.in_ok-has.has ≡ length (values_list f.held) = c.in_ok-has.ensures in
    let taken : length first ≡ c.arity-arity.result - c.in_ok-has.has = c.in_ok-both.ensures.first in
    let some : 0 < length first = omega (arith, taken, c.if-arity-has.false) in
    let all : length (values_list f.held) + length first ≡ m.arity Event s (code_of f.code) = omega (arith, arity, has, taken, c.if-arity-has.false) in
    steps_as s c.args.told.now.items c.apply_all.new.told.items c.apply_all.result
    (called_run s c.args.node c.args.here (values_list c.in_ok-both.both.rest) (code_of f.code) (values_list f.captured) (values_list c.in_ok-all.all)) _
    (calls_on s c.args.node (calls_of s c.args.here) (mode_of c.args.here.mode) c.args.function f.code f.captured f.held (values_list c.args.args) first (values_list c.in_ok-both.both.rest) (values_list c.in_ok-all.all)
    f.is c.in_ok-both.ensures.parts some all c.in_ok-all.ensures)
    c.apply_all.ensures
