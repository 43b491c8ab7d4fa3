-- When a value fits a pattern, and what the names of the pattern then stand for. Names go by the
-- number of the pattern that binds them.
use Rattle.std.specs.Prelude.{ℕ, zero, suc, Bool, true, false, ℤ, List, [], ◌∷◌, ◌++◌, Option, Some, None, slice_get, ◌==◌, if◌then◌else◌, map}
use Rattle.std.specs.Ordering.{int_eq, is_eq}
use Rattle.ml_tree.specs.declared.pattern.Pat.{Pat, fold-Pat}
use Rattle.ml_tree.specs.declared.pattern.PatKind.TheOpen as p
use Rattle.ml_tree.specs.declared.pattern.PatKind.TheOpen.{PatKind-F, FieldPat-F, Pat-F}
use Rattle.ml_meaning.specs.Values.{Value, Number, Character, Bytes, Constant, Block, listed}
use Rattle.ml_meaning.specs.Comparing.{text_order}
use Rattle.ml_meaning.specs.Arithmetic.{wrapped}
use Rattle.ml_meaning.specs.Names.{References, constructor_place, field_place}

abbrev pub Env : Type 0
Env = List (ℕ × Value)

-- none where the value does not fit
abbrev pub Fits : Type 0
Fits = Value → Option Env

-- both, what the second binds before what the first binds
abbrev pub both_fit : Option Env → Option Env → Option Env
both_fit (Some xs) (Some ys) = Some (ys ++ xs)
both_fit _ _ = None

-- each pattern fits its value, and there are as many
abbrev pub all_fit : List Fits → List Value → Option Env
all_fit [] [] = Some []
all_fit (f ∷ fs) (v ∷ vs) = both_fit (f v) (all_fit fs vs)
all_fit _ _ = None

-- it binds nothing, and fits where the test holds
abbrev pub fits_if : Bool → Option Env
fits_if true = Some []
fits_if false = None

-- the head and the tail of a list that is not empty
abbrev pub parts_of_cell : ℕ → List Value → Option (Value × Value)
parts_of_cell (suc zero) (head ∷ (tail ∷ [])) = Some (head, tail)
parts_of_cell _ _ = None

abbrev pub cell_of : Value → Option (Value × Value)
cell_of (Block place vs) = parts_of_cell place (listed vs)
cell_of _ = None

abbrev pub cell_fits : (Value → Option Env) → (Value → Option Env) → Option (Value × Value) → Option Env
cell_fits head tail None = None
cell_fits head tail (Some c) = both_fit (head c.0) (tail c.1)

abbrev pub constant_fits : Option ℕ → Value → Option Env
constant_fits (Some place) (Constant k) = fits_if (k == place)
constant_fits _ _ = None

-- the list of values that fit these patterns, with nothing behind them
abbrev pub list_fits : List Fits → Fits
list_fits [] v = constant_fits (Some 0) v
list_fits (f ∷ fs) v = cell_fits f (list_fits fs) (cell_of v)

-- the parts of a block of this place
abbrev pub block_fits : Option ℕ → (List Value → Option Env) → Value → Option Env
block_fits (Some place) parts (Block k vs) = if k == place then parts (listed vs) else None
block_fits _ parts v = None

abbrev pub number_fits : ℤ → Value → Option Env
number_fits z (Number a) = fits_if (int_eq a z)
number_fits z _ = None

abbrev pub character_fits : ℕ → Value → Option Env
character_fits c (Character a) = fits_if (a == c)
character_fits c _ = None

abbrev pub text_fits : List ℕ → Value → Option Env
text_fits bs (Bytes a) = fits_if (is_eq (text_order a bs))
text_fits bs _ = None

-- the part of a record that the node names fits
abbrev pub part_fits : Fits → Option Value → Option Env
part_fits f None = None
part_fits f (Some v) = f v

abbrev pub found : {A : Type 0} → List A → Option ℕ → Option A
found vs None = None
found vs (Some k) = slice_get vs k

abbrev pub or_else : Option Env → Option Env → Option Env
or_else None other = other
or_else (Some xs) other = Some xs

-- with one more name
abbrev pub binding : ℕ → Value → Option Env → Option Env
binding node v None = None
binding node v (Some xs) = Some ((node, v) ∷ xs)

-- a pattern against a value, and against the fields of a constructor of which it is the argument:
-- a tuple takes them one by one, `_` takes any, and each other pattern takes the one field
pub record PatMeaning : Type 0 where
  pub whole : Fits
  pub fields : List Value → Option Env

abbrev pub one_field : Fits → List Value → Option Env
one_field f (v ∷ []) = f v
one_field f _ = None

abbrev pub plain : Fits → PatMeaning
plain f = record { whole = f; fields = one_field f }

abbrev pub argument_fits : Option ℕ → Option PatMeaning → Fits
argument_fits place None v = constant_fits place v
argument_fits place (Some q) v = block_fits place q.fields v

module _ (names : References) where
  -- a tuple of one value for the one field of a constructor is a field like any other
  abbrev pub tuple_fields : List Fits → List Value → Option Env
  tuple_fields fs (v ∷ []) = block_fits (Some 0) (all_fit fs) v
  tuple_fields fs vs = all_fit fs vs

  -- each field of a record pattern against the part of the record that it names
  abbrev pub record_fits : List (ℕ × Fits) → List Value → Option Env
  record_fits [] vs = Some []
  record_fits (f ∷ fs) vs = both_fit (part_fits f.1 (found vs (field_place names f.0))) (record_fits fs vs)

  abbrev pub pattern_step : PatKind-F (ℕ → PatMeaning) (ℕ × Fits) PatMeaning → ℕ → PatMeaning
  pattern_step p.Any node = record { whole = λ v. Some []; fields = λ vs. Some [] }
  pattern_step (p.Name words name) node = plain (λ v. Some ((node, v) ∷ []))
  pattern_step (p.Int z) node = plain (number_fits (wrapped z))
  pattern_step (p.Char c) node = plain (character_fits c)
  pattern_step (p.Text lit) node = plain (text_fits lit.bytes)
  pattern_step (p.Con name arg) node = plain (argument_fits (constructor_place names name node) arg)
  pattern_step (p.Cons a b) node = plain (λ v. cell_fits a.whole b.whole (cell_of v))
  pattern_step (p.Tuple qs) node = record { whole = block_fits (Some 0) (all_fit (map (λ q. q.whole) qs)); fields = tuple_fields (map (λ q. q.whole) qs) }
  pattern_step (p.List qs) node = plain (list_fits (map (λ q. q.whole) qs))
  pattern_step (p.Fields fs rest) node = plain (block_fits (Some 0) (record_fits fs))
  pattern_step (p.Or a b) node = plain (λ v. or_else (a.whole v) (b.whole v))
  pattern_step (p.Named q name) node = plain (λ v. binding node v (q.whole v))
  pattern_step (p.Typed q ty) node = plain q.whole
  pattern_step (p.Paren q) node = q

  abbrev pub field_step : FieldPat-F (ℕ → PatMeaning) (ℕ × Fits) PatMeaning → ℕ × Fits
  field_step f = (f.id, f.pat.whole)

  abbrev pub pat_step : Pat-F (ℕ → PatMeaning) (ℕ × Fits) PatMeaning → PatMeaning
  pat_step q = q.kind q.id

  -- what the names of a pattern stand for where the value fits it
  abbrev pub fits : Pat → Fits
  fits q = (fold-Pat (ℕ → PatMeaning) (ℕ × Fits) PatMeaning pattern_step field_step pat_step q).whole
