-- What is found by one pattern after the other.
use Rattle.std.proofs.Common.{◌≡◌, Option, Some, None, Result, Ok, Err, refl, sym, ap, ◌∙◌, append_assoc}
use Rattle.std.specs.Prelude.{IfOk}
use Rattle.std.specs.Option.{option_map}
use Rattle.ml_meaning.specs.Patterns as p
use Rattle.ml_meaning.specs.Patterns.{both_fit, or_else}
use Rattle.ml_values.specs.declared.value.Env.{Env}
use Rattle.ml_values.specs.Shown.{names}
use Rattle.ml_matching.specs.Fitting.{Finds, onto, onto_found}

-- both, on names that were there before: the second on what the first found
pub onto_both : (before : p.Env) (a b : Option p.Env) → onto before (both_fit a b) ≡ onto_found (onto before a) b
onto_both before None b = refl
onto_both before (Some xs) None = refl
onto_both before (Some xs) (Some ys) = ap (λ zs. Some zs) (append_assoc ys xs before)

onto_either : (before : p.Env) (a b : Option p.Env) → onto before (or_else a b) ≡ or_else (onto before a) (onto before b)
onto_either before None b = refl
onto_either before (Some xs) b = refl

module _ {F : Type 0} where
  pub finds_as : (r : Result (Option Env) F) (found whole : Option p.Env) (before : p.Env) → Finds r found before → whole ≡ found → Finds r whole before
  finds_as (Ok e) found whole before h same = h ∙ ap (onto before) (sym same)
  finds_as (Err f) found whole before h same = tt

  pub finds_both : (r : Result (Option Env) F) (first : Option Env) (before : p.Env) (a b whole : Option p.Env) → option_map names first ≡ onto before a → IfOk r (λ e. option_map names e ≡ onto_found (option_map names first) b) → whole ≡ both_fit a b → Finds r whole before
  finds_both (Ok e) first before a b whole f h same = h ∙ (ap (λ m. onto_found m b) f ∙ (sym (onto_both before a b) ∙ ap (onto before) (sym same)))
  finds_both (Err x) first before a b whole f h same = tt

  pub finds_either : (r : Result (Option Env) F) (first : Option Env) (before : p.Env) (a b whole : Option p.Env) → option_map names first ≡ onto before a → IfOk r (λ e. option_map names e ≡ or_else (option_map names first) (onto before b)) → whole ≡ or_else a b → Finds r whole before
  finds_either (Ok e) first before a b whole f h same = h ∙ (ap (λ m. or_else m (onto before b)) f ∙ (sym (onto_either before a b) ∙ ap (onto before) (sym same)))
  finds_either (Err x) first before a b whole f h same = tt
