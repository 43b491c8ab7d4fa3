-- What a construct sees of its operand: a tuple, `_`, a function or a name.
use Rattle.std.specs.Prelude.{ℕ, Option, Some, None, Bool, true, false, not, ◌==◌, ◌&&◌, ◌||◌}
use Rattle.ml_scope.specs.declared.shape.Shape.{Shape}
use Rattle.ml_scope.specs.declared.shape.Shape.TheVariants.{Tuple, Any, Function, Name, Other}

-- parentheses hide a name alone
abbrev pub inside : Shape → Shape
inside (Tuple n) = Tuple n
inside Any = Any
inside Function = Function
inside Name = Other
inside Other = Other

-- a tuple of as many parts gives two or more fields, and `_` stands for all
abbrev pub fills : ℕ → Shape → Bool
fills parts (Tuple n) = n == parts
fills parts Any = true
fills parts Function = false
fills parts Name = false
fills parts Other = false

-- a constant has no operand, one field takes any, and several take a tuple
abbrev pub miscounts : ℕ → Option Shape → Bool
miscounts parts None = not (parts == 0)
miscounts parts (Some shape) = not (parts == 1) && ((parts == 0) || not (fills parts shape))

abbrev pub is_name : Shape → Bool
is_name Name = true
is_name (Tuple n) = false
is_name Any = false
is_name Function = false
is_name Other = false

abbrev pub is_fun : Shape → Bool
is_fun Function = true
is_fun (Tuple n) = false
is_fun Any = false
is_fun Name = false
is_fun Other = false
