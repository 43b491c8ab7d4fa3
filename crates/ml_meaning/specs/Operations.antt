-- The operations and the operators on values.
use Rattle.std.specs.Prelude.{ℕ, Bool, true, false, ◌&&◌, ℤ, pos, int_le, unsigned_abs, List, [], ◌∷◌, ◌++◌, length, Option, Some, None, slice_get, if◌then◌else◌}
use Rattle.std.specs.Int.{int_rem_euclid}
use Rattle.std.specs.Fmt.{signed_decimal}
use Rattle.std.specs.declared.cmp.Ordering.{Ordering}
use Rattle.ml_tree.specs.declared.reference.Op.{Op}
use Rattle.ml_tree.specs.declared.reference.Op.TheVariants as op
use Rattle.ml_tree.specs.declared.expr.BinOp.{BinOp}
use Rattle.ml_tree.specs.declared.expr.BinOp.TheVariants as binary
use Rattle.ml_meaning.specs.declared.event.Ending.TheVariants as ending
use Rattle.ml_meaning.specs.Values.{Value, Number, Character, Bytes, unit_value, true_value, false_value}
use Rattle.ml_meaning.specs.Runs.{Run, Done, Stop, Ended, Stuck}
use Rattle.ml_meaning.specs.Arithmetic.{arithmetic}
use Rattle.ml_meaning.specs.Comparing.{comparison, value_order}
use Rattle.ml_meaning.specs.Tellings.{Setting, puts, fail, ByZero, Failed, Invalid, made_text}

abbrev pub operation_arity : Op → ℕ
operation_arity op.StringGet = 2
operation_arity _ = 1

abbrev pub truth : Bool → Value
truth true = true_value
truth false = false_value

-- the byte at this place of a text
abbrev pub byte_at : List ℕ → ℤ → Option ℕ
byte_at bytes z = if int_le (pos 0) z then slice_get bytes (unsigned_abs z) else None

module _ (E : Type 0) (s : Setting E) where
  abbrev pub character_or_fail : Option ℕ → Run E Value
  character_or_fail None = fail E s Invalid
  character_or_fail (Some byte) = Done [] (Character byte)

  -- An operation on as many arguments as it has. A text that it makes is made at the node; with no
  -- node the operation was called as a function.
  abbrev pub operate : Option ℕ → Op → List Value → Run E Value
  operate here op.PrintString (Bytes b ∷ []) = Done (puts E s 1 b) unit_value
  operate here op.PrintInt (Number z ∷ []) = Done (puts E s 1 (signed_decimal z)) unit_value
  operate here op.PrintChar (Character c ∷ []) = Done (puts E s 1 (c ∷ [])) unit_value
  operate here op.PrerrString (Bytes b ∷ []) = Done (puts E s 2 b) unit_value
  operate here op.StringOfInt (Number z ∷ []) = made_text E s here (signed_decimal z)
  operate here op.IntOfChar (Character c ∷ []) = Done [] (Number (pos c))
  operate here op.CharOfInt (Number z ∷ []) = character_or_fail (if int_le (pos 0) z && int_le z (pos 255) then Some (unsigned_abs z) else None)
  operate here op.StringLength (Bytes b ∷ []) = Done [] (Number (pos (length b)))
  operate here op.StringGet (Bytes b ∷ (Number z ∷ [])) = character_or_fail (byte_at b z)
  operate here op.Exit (Number z ∷ []) = Stop [] (Ended (ending.Exit (unsigned_abs (int_rem_euclid z (pos 256)))))
  operate here op.Failwith (Bytes b ∷ []) = fail E s Failed
  operate here _ _ = Stop [] Stuck

  abbrev pub number_or_fail : Option ℤ → Run E Value
  number_or_fail None = fail E s ByZero
  number_or_fail (Some z) = Done [] (Number z)

  abbrev pub computed : BinOp → Value → Value → Run E Value
  computed o (Number a) (Number b) = number_or_fail (arithmetic o a b)
  computed o _ _ = Stop [] Stuck

  abbrev pub compared : (Ordering → Bool) → Option Ordering → Run E Value
  compared test None = Stop [] Stuck
  compared test (Some o) = Done [] (truth (test o))

  abbrev pub joined : ℕ → Value → Value → Run E Value
  joined node (Bytes a) (Bytes b) = made_text E s (Some node) (a ++ b)
  joined node _ _ = Stop [] Stuck

  -- an operator on its two operands
  abbrev pub operator : ℕ → BinOp → Value → Value → Run E Value
  operator node binary.Join a b = joined node a b
  operator node o a b = elim (comparison o) [ Some test ↦ compared test (value_order a b) | None ↦ computed o a b ]

  abbrev pub negated : Value → Run E Value
  negated (Number a) = number_or_fail (arithmetic binary.Sub (pos 0) a)
  negated _ = Stop [] Stuck
