use Rattle.ml_values.specs.Shown.{names, values, values_list}
use Rattle.ml_steps.specs.Left.{own_name_of}
use Rattle.ml_steps.specs.Worlds.{setting_of}
use Rattle.ml_steps.proofs.Lists.{Binds}
use Rattle.ml_steps.proofs.closures.closed.Given as goal

abbrev pub invariant-loop-name : goal.invariant-loop-name
invariant-loop-name l = Binds (setting_of l.world) l.function.captures.now (values_list l.captured) (own_name_of (setting_of l.world) l.node l.function.own (values l.captured)) l.name-index (values_list l.rest) (names l.env)
