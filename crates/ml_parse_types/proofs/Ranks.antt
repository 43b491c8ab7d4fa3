-- The order of the readers of types that call one another with the same depth allowed.
use Rattle.std.proofs.Common.{ℕ}
use Rattle.ml_parse_types.specs.declared.looks.Row.{Row}
use Rattle.ml_parse_types.specs.declared.looks.Row.TheVariants.{Alone, Factors, Arguments}

-- a row of arguments holds whole types, and so stands above the rows of operands
abbrev pub extra : Row → ℕ
extra Alone = 0
extra Factors = 0
extra Arguments = 5
