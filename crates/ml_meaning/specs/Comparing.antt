-- The comparisons, at numbers, characters, constants and texts. Texts are compared byte by byte, and
-- a text is below those that it begins.
use Rattle.std.specs.Prelude.{ℕ, Bool, List, [], ◌∷◌, Option, Some, None}
use Rattle.std.specs.declared.cmp.Ordering.{Ordering}
use Rattle.std.specs.declared.cmp.Ordering.TheVariants.{Less, Equal, Greater}
use Rattle.std.specs.Ordering.{nat_cmp, int_cmp, ordering_then, is_eq, is_ne, is_lt, is_gt, is_le, is_ge}
use Rattle.ml_tree.specs.declared.expr.BinOp.{BinOp}
use Rattle.ml_tree.specs.declared.expr.BinOp.TheVariants as op
use Rattle.ml_meaning.specs.Values.{Value, Number, Character, Bytes, Constant}

abbrev pub text_order : List ℕ → List ℕ → Ordering
text_order [] [] = Equal
text_order [] (y ∷ ys) = Less
text_order (x ∷ xs) [] = Greater
text_order (x ∷ xs) (y ∷ ys) = ordering_then (nat_cmp x y) (text_order xs ys)

abbrev pub value_order : Value → Value → Option Ordering
value_order (Number a) (Number b) = Some (int_cmp a b)
value_order (Character a) (Character b) = Some (nat_cmp a b)
value_order (Constant a) (Constant b) = Some (nat_cmp a b)
value_order (Bytes a) (Bytes b) = Some (text_order a b)
value_order _ _ = None

-- when a comparison holds; none for an operator that is no comparison
abbrev pub comparison : BinOp → Option (Ordering → Bool)
comparison op.Eq = Some is_eq
comparison op.Ne = Some is_ne
comparison op.Lt = Some is_lt
comparison op.Gt = Some is_gt
comparison op.Le = Some is_le
comparison op.Ge = Some is_ge
comparison _ = None
