-- What expressions evaluate to. There is no syntax in a value, no name and no place: a function is
-- the number of its node with the values that it captured and the arguments that it holds.
use Rattle.std.specs.Prelude.{ℕ, ℤ, List, [], ◌∷◌}
use Rattle.ml_tree.specs.declared.reference.Op.{Op}

-- what a function runs: the node that wrote it, or an operation that stands as a function
pub data Code : Type 0 where
  Source : ℕ → Code
  Primitive : Op → Code

mutual
  pub data Value : Type 0 where
    Number : ℤ → Value
    Character : ℕ → Value
    Bytes : List ℕ → Value
    -- a constructor without fields, by its place in its declaration
    Constant : ℕ → Value
    -- a constructor with fields, by its place; a tuple and a record have the place 0
    Block : ℕ → Values → Value
    -- what it runs, its captures, and the arguments that a partial application holds
    Function : Code → Values → Values → Value

  pub data Values : Type 0 where
    no_values : Values
    value_and : Value → Values → Values

abbrev pub packed : List Value → Values
packed [] = no_values
packed (v ∷ vs) = value_and v (packed vs)

abbrev pub listed : Values → List Value
listed no_values = []
listed (value_and v vs) = v ∷ listed vs

-- `false` is the first constructor of its type and `true` the second
abbrev pub false_value : Value
false_value = Constant 0

abbrev pub true_value : Value
true_value = Constant 1

abbrev pub unit_value : Value
unit_value = Constant 0

-- `[]` and `::` are the first and the second constructor of theirs
abbrev pub empty_list : Value
empty_list = Constant 0

abbrev pub cell : Value → Value → Value
cell head tail = Block 1 (packed (head ∷ tail ∷ []))
