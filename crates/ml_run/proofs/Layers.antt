-- What a binding means, and the patterns of bindings.
use Rattle.std.proofs.Common.{◌≡◌, ℕ, List, [], ◌∷◌, map, Option, Some, None, refl, sym, ap, ◌∙◌}
use Rattle.std.specs.Option.{option_map}
use Rattle.ml_tree.specs.declared.expr.Bind.{Bind, fold_out-Bind}
use Rattle.ml_meaning.specs.declared.event.Event.{Event}
use Rattle.ml_meaning.specs.Evaluation.{ExprMeaning, ArmMeaning, BindMeaning, step}
use Rattle.ml_meaning.specs.Patterns as p
use Rattle.ml_meaning.specs.Programs.{arm_step, bind_step, expr_step, field_step, bind_meaning, bound}
use Rattle.ml_meaning.specs.Tellings.{Meaning, NoMatch, Setting, fail}
use Rattle.ml_meaning.specs.Values.{Value}
use Rattle.ml_matching.specs.Fitting.{bind_fits, onto}
use Rattle.ml_values.specs.declared.value.Env.{Env}
use Rattle.ml_values.specs.declared.value.Env.TheVariants as N
use Rattle.ml_values.specs.Shown.{names}
use Rattle.ml_values.proofs.Layers.{nothing_is}
use Rattle.ml_run.specs.Stack.{fitted_run}

module _ (s : Setting Event) where
  pub fits_is : (b : Bind) → (bind_meaning Event s b).fits ≡ p.fits s.names b.pat
  fits_is b =
      ap (λ m. m.fits) (fold_out-Bind (ℕ → ExprMeaning Event) (ArmMeaning Event) (BindMeaning Event) (ExprMeaning Event) (ℕ × Meaning Event) (step Event s) (arm_step Event s) (bind_step Event s) (expr_step Event s) (field_step Event s) b)

  pub all_fits : (binds : List Bind) → map (λ b. (bind_meaning Event s b).fits) binds ≡ bind_fits s.names binds
  all_fits [] = refl
  all_fits (b ∷ bs) = ap (λ f. f ∷ map (λ b. (bind_meaning Event s b).fits) bs) (fits_is b) ∙ ap (λ fs. p.fits s.names b.pat ∷ fs) (all_fits bs)

  found_none : (o : Option p.Env) → None ≡ onto [] o → o ≡ None
  found_none None e = refl
  found_none (Some ys) e = cc

  fitted_none : (binds : List Bind) (vs : List Value) → None ≡ onto (names N.Nothing) (p.all_fit (bind_fits s.names binds) vs) → fitted_run s binds vs ≡ fail Event s NoMatch
  fitted_none binds vs e =
      ap (λ fs. bound Event s (p.all_fit fs vs)) (all_fits binds)
      ∙ ap (bound Event s) (found_none (p.all_fit (bind_fits s.names binds) vs) (e ∙ ap (λ l. onto l (p.all_fit (bind_fits s.names binds) vs)) nothing_is))

  pub unfitted : (binds : List Bind) (vs : List Value) (o : Option Env) → option_map names o ≡ onto (names N.Nothing) (p.all_fit (bind_fits s.names binds) vs) → o ≡ None → fitted_run s binds vs ≡ fail Event s NoMatch
  unfitted binds vs o e is = fitted_none binds vs (ap (option_map names) (sym is) ∙ e)
