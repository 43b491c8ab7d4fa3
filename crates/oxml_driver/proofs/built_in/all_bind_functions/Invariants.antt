use Rattle.std.proofs.Common.{All, take}
use Rattle.meaning_laws.specs.Items.{BindsFunction}
use Rattle.oxml_driver.proofs.built_in.all_bind_functions.Given as goal

abbrev pub invariant-loop-bind : goal.invariant-loop-bind
invariant-loop-bind l = All (BindsFunction l.scoped) (take l.bind-index l.binds)
