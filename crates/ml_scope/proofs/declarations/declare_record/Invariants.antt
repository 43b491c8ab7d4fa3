use Rattle.std.proofs.Common.{◌≡◌, drop, length}
use Rattle.ml_scope.specs.Items.{fields_from}
use Rattle.ml_scope.proofs.declarations.declare_record.Given as goal

abbrev pub invariant-loop-one : goal.invariant-loop-one
invariant-loop-one l = fields_from l.text l.number l.place l.parts (drop l.one-index l.list) l.scope ≡ fields_from l.text l.number 0 (length l.list) l.list l.initial.scope
