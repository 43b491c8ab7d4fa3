-- What the nodes of a program name.
use Rattle.std.specs.Prelude.{Option, Some, None}
use Rattle.ml_tree.specs.declared.reference.Ref.{Ref}
use Rattle.ml_tree.specs.declared.reference.Ref.TheVariants as ref
use Rattle.ml_tree.specs.declared.reference.Op.{Op}
use Rattle.ml_tree.specs.declared.scoped.Scoped.{Scoped}
use Rattle.ml_meaning.specs.Names.{References, lookup}

abbrev pub targets : Scoped → References
targets s = λ n. lookup n s.refs

abbrev pub operation_of : Option Ref → Option Op
operation_of (Some (ref.Operation op)) = Some op
operation_of _ = None
