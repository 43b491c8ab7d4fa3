-- The arms of a match: those that are passed over, and the one that is taken.
use Rattle.std.proofs.Common.{◌≡◌, ℕ, suc, ◌+◌, ◌<◌, ◌≤◌, List, ◌∷◌, ◌++◌, length, get_or, drop, Option, Some, None, refl, sym, ap, ◌∙◌, add-one, drop-cons}
use Rattle.std.specs.Option.{option_map}
use Rattle.std.proofs.lemmas.List.{drop_all}
use Rattle.ml_tree.specs.declared.expr.Arm.{Arm, fold_out-Arm, out-Arm}
use Rattle.ml_matching.specs.Fitting.{onto}
use Rattle.ml_meaning.specs.declared.event.Event.{Event}
use Rattle.ml_meaning.specs.Evaluation as m
use Rattle.ml_meaning.specs.Evaluation.{ArmMeaning, BindMeaning, ExprMeaning}
use Rattle.ml_meaning.specs.Patterns as p
use Rattle.ml_meaning.specs.Programs.{arm_meaning, arm_step, bind_step, expr_step, field_step}
use Rattle.ml_meaning.specs.Runs.{Run}
use Rattle.ml_meaning.specs.Tellings.{Call, Meaning, Mode, NoMatch, Setting, fail}
use Rattle.ml_meaning.specs.Values.{Value}
use Rattle.ml_values.specs.declared.value.Env.{Env}
use Rattle.ml_values.specs.Shown.{names}
use Rattle.ml_steps.specs.declared.frame.Here.{Here}
use Rattle.ml_steps.specs.Left.{choose_run, taken_run}

-- what is no match
pub none_found : (found : Option Env) → ((env : Env) → found ≡ Some env → ⊥) → option_map names found ≡ None
none_found None other = refl
none_found (Some env) other = absurd (other env refl)

module _ (s : Setting Event) where
  -- the pattern of an arm
  arm-fits : (a : Arm) → (arm_meaning Event s a).fits ≡ p.fits s.names (out-Arm a).pat
  arm-fits a = ap (λ arm. arm.fits) (fold_out-Arm (ℕ → ExprMeaning Event) (ArmMeaning Event) (BindMeaning Event) (ExprMeaning Event) (ℕ × Meaning Event) (m.step Event s) (arm_step Event s) (bind_step Event s) (expr_step Event s) (field_step Event s) a)

  passed : (a : ArmMeaning Event) (c : Call Event) (mode : Mode) (env : p.Env) (rest : Run Event Value) (found : Option p.Env) → None ≡ onto env found → m.taken Event s a c mode env rest found ≡ rest
  passed a c mode env rest None is = refl
  passed a c mode env rest (Some xs) is = cc

  met : (a : ArmMeaning Event) (c : Call Event) (mode : Mode) (env all : p.Env) (rest : Run Event Value) (found : Option p.Env) → Some all ≡ onto env found → m.taken Event s a c mode env rest found ≡ m.guarded Event s a.guard c all (a.body c mode all) rest
  met a c mode env all rest None is = cc
  met a c mode env all rest (Some xs) is = let same : xs ++ env ≡ all = cc in ap (λ ys. m.guarded Event s a.guard c ys (a.body c mode ys) rest) same

  first : (arms : List Arm) (i : ℕ) (a : Arm) → i < length arms → a ≡ get_or arms i a → drop i arms ≡ a ∷ drop (i + 1) arms
  first arms i a lt e = rw add-one (drop-cons arms i a lt ∙ ap (λ z. z ∷ drop (suc i) arms) (sym e))

  -- the arms from the first on choose as those from here on do
  pub record Passes (arms : List Arm) (from i : ℕ) (here : Here) (v : Value) : Type 0 where
    pub so_far : choose_run s (drop from arms) here v ≡ choose_run s (drop i arms) here v

  pub passes_step : (arms : List Arm) (from i : ℕ) (here : Here) (v : Value) (a : Arm) → i < length arms → a ≡ get_or arms i a → None ≡ onto (names here.env) (p.fits s.names (out-Arm a).pat v) → Passes arms from i here v → Passes arms from (i + 1) here v
  passes_step arms from i here v a lt is not_fit g = record {
    so_far =
        g.so_far
        ∙ (ap (λ xs. choose_run s xs here v) (first arms i a lt is)
        ∙ passed (arm_meaning Event s a) _ _ _ _ _ (not_fit ∙ ap (λ f. onto (names here.env) (f v)) (sym (arm-fits a))));
  }

  pub passes_end : (arms : List Arm) (from i : ℕ) (here : Here) (v : Value) → length arms ≤ i → Passes arms from i here v → choose_run s (drop from arms) here v ≡ fail Event s NoMatch
  passes_end arms from i here v le g = g.so_far ∙ ap (λ xs. choose_run s xs here v) (drop_all i arms le)

  pub passes_taken : (arms : List Arm) (from i : ℕ) (here : Here) (v : Value) (a : Arm) (env : Env) → i < length arms → a ≡ get_or arms i a → Some (names env) ≡ onto (names here.env) (p.fits s.names (out-Arm a).pat v) → Passes arms from i here v → choose_run s (drop from arms) here v ≡ taken_run s a here env (choose_run s (drop (i + 1) arms) here v)
  passes_taken arms from i here v a env lt is fit g =
      g.so_far
      ∙ (ap (λ xs. choose_run s xs here v) (first arms i a lt is)
      ∙ met (arm_meaning Event s a) _ _ _ _ _ _ (fit ∙ ap (λ f. onto (names here.env) (f v)) (sym (arm-fits a))))
