-- How what was told and given makes a run of the meaning.
use Rattle.std.proofs.Common.{◌≡◌, ℕ, ℤ, pos, List, [], ◌∷◌, ◌++◌, Option, None, Result, Ok, Err, IfOk, sym, ap, ap₂, refl, ◌∙◌}
use Rattle.std.proofs.lemmas.List.{append-nil}
use Rattle.ml_tree.specs.declared.expr.BinOp.{BinOp}
use Rattle.ml_tree.specs.declared.expr.BinOp.TheVariants.{Sub}
use Rattle.ml_meaning.specs.declared.event.Event.{Event}
use Rattle.ml_meaning.specs.declared.event.Ending.{Ending}
use Rattle.ml_meaning.specs.declared.event.Ending.TheVariants.{Exit}
use Rattle.ml_meaning.specs.Arithmetic.{arithmetic}
use Rattle.ml_meaning.specs.Functions.{FunctionCode}
use Rattle.ml_meaning.specs.Names.{References}
use Rattle.ml_meaning.specs.Operations.{computed, negated, number_or_fail}
use Rattle.ml_meaning.specs.Runs.{Run, Stop, Ended, after}
use Rattle.ml_meaning.specs.Tellings.{Setting, failure_line, ByZero}
use Rattle.ml_meaning.specs.Values as v
use Rattle.ml_meaning.specs.Values.{Value}
use Rattle.ml_values.specs.declared.operations.Given.{Given}
use Rattle.ml_values.specs.declared.value.Word.{Word}
use Rattle.ml_values.specs.declared.value.Word.TheVariants as W
use Rattle.ml_values.specs.Givings.{Gives, given_run}
use Rattle.ml_values.specs.Shown.{value}
use Rattle.ml_values.specs.Telling.{puts}
use Rattle.ml_values.proofs.Layers.{number_is}

-- what is given with nothing told
pub gives_same : {F : Type 0} (before : List Event) (result : Result Given F) (run : Run Event Value) → IfOk result (λ g. given_run g ≡ run) → Gives before before result run
gives_same before (Ok g) run is = ap (after before) (sym is)
gives_same before (Err e) run is = tt

negative : (s : Setting Event) (a : Value) → computed Event s Sub (v.Number (pos 0)) a ≡ negated Event s a
negative s (v.Number z) = refl
negative s (v.Character c) = refl
negative s (v.Bytes b) = refl
negative s (v.Constant k) = refl
negative s (v.Block k parts) = refl
negative s (v.Function c captured held) = refl

pub negated_is : (s : Setting Event) (a : Value) → computed Event s Sub (value (W.Number (pos 0))) a ≡ negated Event s a
negated_is s a = ap (λ z. computed Event s Sub z a) (number_is (pos 0)) ∙ negative s a

module _ (names : References) (fields : ℕ → ℕ → ℕ) (code : ℕ → Option FunctionCode) (top : ℕ → Option Value) (append : ℕ) where
  abbrev pub plain : Setting Event
  plain = record { told = λ e. e ∷ []; visit = []; names = names; fields = fields; code = code; top = top; append = append }

  pub divided_by_zero : (before now : List Event) (op : BinOp) (a b : ℤ) (one other : Word) (end : Ending) → one ≡ W.Number a → other ≡ W.Number b → None ≡ arithmetic op a b → now ≡ before ++ puts 2 (failure_line ByZero) → end ≡ Exit 2 → after before (computed Event plain op (value one) (value other)) ≡ Stop (now ++ []) (Ended end)
  divided_by_zero before now op a b one other end is_one is_other fails told ends =
      ap₂ (λ x y. after before (computed Event plain op x y)) (ap value is_one ∙ number_is a) (ap value is_other ∙ number_is b)
      ∙ (ap (λ z. after before (number_or_fail Event plain z)) (sym fails)
      ∙ ap₂ (λ es x. Stop es (Ended x)) (sym (append-nil now ∙ told)) (sym ends))
