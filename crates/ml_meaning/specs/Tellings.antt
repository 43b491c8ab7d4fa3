-- What an evaluation stands in, and the small runs that it is made of: what is written and made, how
-- it fails, and what an expression in tail position owes to the call that it ends.
use Rattle.std.specs.Prelude.{ℕ, zero, suc, ◌+◌, ◌/◌, List, [], ◌∷◌, ◌++◌, length, Option, Some, None, codes}
use Rattle.std.specs.List.{flat_map}
use Rattle.ml_tree.specs.declared.reference.Ref.{Ref}
use Rattle.ml_tree.specs.declared.reference.Ref.TheVariants as ref
use Rattle.ml_meaning.specs.declared.event.Event.{Event}
use Rattle.ml_meaning.specs.declared.event.Event.TheVariants as event
use Rattle.ml_meaning.specs.declared.event.Ending.TheVariants as ending
use Rattle.ml_meaning.specs.Values.{Value, Bytes, Constant, Function, Code, Primitive, no_values}
use Rattle.ml_meaning.specs.Names.{References, lookup}
use Rattle.ml_meaning.specs.Patterns.{Env}
use Rattle.ml_meaning.specs.Functions.{FunctionCode}
use Rattle.ml_meaning.specs.Runs.{Run, Done, Stop, Ended, Stuck}

-- What is fixed while an item is evaluated. The kind `E` of what is told stays open: the trace tells
-- each event as it is, and other readers of a run count what they need.
pub record Setting (E : Type 0) : Type 0 where
  pub told : Event → List E
  -- told at each expression that is evaluated; the trace tells nothing there
  pub visit : List E
  pub names : References
  -- how many fields a constructor has, by its declaration and place
  pub fields : ℕ → ℕ → ℕ
  pub code : ℕ → Option FunctionCode
  -- the values that the items before bound
  pub top : ℕ → Option Value
  -- the binder of the function that `@` applies
  pub append : ℕ

-- Where an expression stands: in tail position of a function of this weight whose region is open, or
-- anywhere else.
pub data Mode : Type 0 where
  Inner : Mode
  Last : ℕ → Mode

-- the events of a call's entry come first, before what it runs on: captures, then arguments
abbrev pub Call : Type 0 → Type 0
Call E = Event → Code → List Value → List Value → Run E Value

abbrev pub Meaning : Type 0 → Type 0
Meaning E = Call E → Mode → Env → Run E Value

-- how programs fail
pub data Failure : Type 0 where
  ByZero : Failure
  NoMatch : Failure
  Failed : Failure
  Invalid : Failure

abbrev pub failure_name : Failure → List ℕ
failure_name ByZero = codes "Division_by_zero"
failure_name NoMatch = codes "Match_failure"
failure_name Failed = codes "Failure"
failure_name Invalid = codes "Invalid_argument"

abbrev pub failure_line : Failure → List ℕ
failure_line f = codes "Fatal error: exception " ++ failure_name f ++ (10 ∷ [])

abbrev pub or_stuck : {E A : Type 0} → Option A → Run E A
or_stuck None = Stop [] Stuck
or_stuck (Some a) = Done [] a

-- one branch or the other, by a truth value
abbrev pub branch : {E A : Type 0} → Value → Run E A → Run E A → Run E A
branch (Constant zero) yes_run no_run = no_run
branch (Constant (suc zero)) yes_run no_run = yes_run
branch _ yes_run no_run = Stop [] Stuck

module _ (E : Type 0) (s : Setting E) where
  abbrev pub puts : ℕ → List ℕ → List E
  puts channel bytes = flat_map (λ b. s.told (event.Put channel b)) bytes

  -- a failure writes its line on channel 2 and ends with status 2
  abbrev pub fail : {A : Type 0} → Failure → Run E A
  fail f = Stop (puts 2 (failure_line f)) (Ended (ending.Exit 2))

  abbrev pub made : ℕ → ℕ → List E
  made node words = s.told (event.Made (Some node) words)

  -- a text that is made: one word, and one more for each eight bytes or part of them
  abbrev pub made_text : Option ℕ → List ℕ → Run E Value
  made_text node bytes = Done (s.told (event.Made node (1 + (length bytes + 7) / 8))) (Bytes bytes)

  -- in tail position the region is closed, and then the call is left
  abbrev pub closes : Mode → List E
  closes Inner = []
  closes (Last w) = s.told event.Close

  abbrev pub leaves : Mode → List E
  leaves Inner = []
  leaves (Last w) = s.told (event.Leave w)

  abbrev pub finish : {A : Type 0} → Mode → A → Run E A
  finish mode v = Done (closes mode ++ leaves mode) v

  -- what a name stands for
  abbrev pub named : Option Ref → Env → Option Value
  named (Some (ref.Top n)) env = s.top n
  named (Some (ref.Local n)) env = lookup n env
  named (Some (ref.Operation op)) env = Some (Function (Primitive op) no_values no_values)
  named _ env = None
