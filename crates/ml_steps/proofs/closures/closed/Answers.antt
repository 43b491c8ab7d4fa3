use Rattle.std.proofs.Common.{sym, ap, ◌∙◌}
use Rattle.ml_meaning.specs.declared.event.Event.{Event}
use Rattle.ml_meaning.specs.Programs.{bind_names}
use Rattle.ml_values.specs.Shown.{names, values, values_list}
use Rattle.ml_steps.specs.Left.{own_name_of}
use Rattle.ml_steps.specs.Worlds.{setting_of}
use Rattle.ml_steps.proofs.Lists.{binds_end, packed-listed}
use Rattle.ml_steps.proofs.closures.closed.Goals as goal

pub returns : goal.returns
returns c =
    let s = setting_of c.args.world in
    let captures = c.args.function.captures.now in
    let held = values_list c.args.captured in
    sym (binds_end s captures held (own_name_of s c.args.node c.args.function.own (values c.args.captured)) c.loop-name.name-index (values_list c.loop-name.rest) (names c.loop-name.env) c.loop-name-test.false c.loop-name.invariant)
    ∙ ap (λ us. bind_names Event s captures held (own_name_of s c.args.node c.args.function.own us)) (sym (packed-listed (values c.args.captured)))
