use Rattle.std.proofs.Common.{◌≡◌, drop, []}
use Rattle.ml_scope.specs.Uses.{fields_of}
use Rattle.ml_scope.proofs.known.Known.all_fields.Given as goal

abbrev pub invariant-loop-name : goal.invariant-loop-name
invariant-loop-name l = fields_of l.self (drop l.name-index l.names) l.list ≡ fields_of l.self l.names []
