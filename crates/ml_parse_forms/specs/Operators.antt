-- Operators as the code holds them.
use Rattle.std.specs.Prelude.{Option, Some, None}
use Rattle.ml_parse_forms.specs.declared.operators.Operator.{Operator}
use Rattle.ml_grammar.specs.Looks as looks

-- the operator of the grammar that the code holds, if it holds one
abbrev pub shown : Option Operator → Option looks.Operator
shown None = None
shown (Some o) = Some (record { level = o.level; joint = o.joint })
