-- What an operation or an operator gives, as a run of the meaning.
use Rattle.std.specs.Prelude.{◌≡◌, ℕ, Bool, true, false, List, [], ◌∷◌, Option, Some, None, Result, IfOk}
use Rattle.ml_tree.specs.declared.expr.BinOp.{BinOp}
use Rattle.ml_meaning.specs.Comparing.{comparison}
use Rattle.ml_meaning.specs.declared.event.Event.{Event}
use Rattle.ml_meaning.specs.Values.{Value}
use Rattle.ml_meaning.specs.Names.{References}
use Rattle.ml_meaning.specs.Functions.{FunctionCode}
use Rattle.ml_meaning.specs.Runs.{Run, Done, Stop, Ended, after}
use Rattle.ml_meaning.specs.Tellings.{Setting}
use Rattle.ml_values.specs.declared.operations.Given.{Given}
use Rattle.ml_values.specs.declared.operations.Given.TheVariants as given
use Rattle.ml_values.specs.Shown.{value}

-- in each setting that tells the events as they are, whatever else it has
abbrev pub Plainly : (Setting Event → Type 0) → Type 0
Plainly P =
    (names : References) (fields : ℕ → ℕ → ℕ) (code : ℕ → Option FunctionCode) (top : ℕ → Option Value) (append : ℕ) →
    P (record { told = λ e. e ∷ []; visit = []; names = names; fields = fields; code = code; top = top; append = append })

abbrev pub given_run : Given → Run Event Value
given_run (given.Value word) = Done [] (value word)
given_run (given.End ending) = Stop [] (Ended ending)

-- The run, with what was told before it, is what was given, with what is told now. Only want of memory says nothing.
abbrev pub Gives : {F : Type 0} → List Event → List Event → Result Given F → Run Event Value → Type 0
Gives before now result run = IfOk result (λ g. after before run ≡ after now (given_run g))

abbrev pub is_some : {A : Type 0} → Option A → Bool
is_some None = false
is_some (Some a) = true

abbrev pub is_comparison : BinOp → Bool
is_comparison op = is_some (comparison op)
