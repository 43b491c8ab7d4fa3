use Rattle.std.proofs.Common.{map, ap}
use Rattle.ml_values.specs.Shown.{value, values_list}
use Rattle.ml_steps.proofs.Lists.{joined_as, takes_end}
use Rattle.ml_steps.proofs.calls.append.Goals as goal

pub returns : goal.returns
returns c =
    joined_as c.before-2.result (map value c.as_slice.result.now) (values_list c.args.first) (values_list c.args.second)
    (takes_end c.loop-rest.list.items c.loop-rest.rest (map value c.as_slice.result.now) (values_list c.args.first) c.in_default.not-And c.loop-rest.invariant (ap (map value) c.as_slice.ensures.value))
    c.before-2.ensures
