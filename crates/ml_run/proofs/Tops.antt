-- The values of the top-level names, as they are set.
use Rattle.std.proofs.Common.{◌≡◌, ◌≢◌, ℕ, zero, suc, ◌<◌, List, [], ◌∷◌, ◌++◌, length, Option, Some, None, slice_get, refl, sym, ap, ◌∙◌, arith, inl, inr}
use Rattle.std.proofs.Math.ListN.{replicate, set}
use Rattle.std.proofs.lemmas.Bool.{cases_eq}
use Rattle.std.proofs.lemmas.List.{append_assoc}
use Rattle.ml_meaning.specs.Names.{lookup}
use Rattle.ml_meaning.specs.Patterns.{Env}
use Rattle.ml_meaning.specs.Values.{Value}
use Rattle.ml_values.specs.declared.value.Env.{Env as Names}
use Rattle.ml_values.specs.declared.value.Word.{Word}
use Rattle.ml_values.specs.Shown.{names, value}
use Rattle.ml_steps.specs.Worlds.{top_value}
use Rattle.ml_run.specs.declared.items.Top.{Top}
use Rattle.ml_run.specs.Whole.{Holds, tops_of}

-- no name has a value
pub holds_none : (n : ℕ) → Holds (replicate n None) []
holds_none zero k = refl
holds_none (suc n) zero = refl
holds_none (suc n) (suc k) = holds_none n k

set_here : (tops : List (Option Word)) (n : ℕ) (o : Option Word) → n < length tops → slice_get (set tops n o) n ≡ Some o
set_here [] n o h = absurd (omega arith)
set_here (t ∷ ts) zero o h = refl
set_here (t ∷ ts) (suc n) o h = set_here ts n o (omega arith)

set_there : (tops : List (Option Word)) (n k : ℕ) (o : Option Word) → n ≢ k → slice_get (set tops n o) k ≡ slice_get tops k
set_there [] n k o ne = refl
set_there (t ∷ ts) zero zero o ne = absurd (ne refl)
set_there (t ∷ ts) zero (suc k) o ne = refl
set_there (t ∷ ts) (suc n) zero o ne = refl
set_there (t ∷ ts) (suc n) (suc k) o ne = set_there ts n k o (λ e. ne (ap suc e))

lookup_here : (n k : ℕ) (v : Value) (env : Env) → n ≡ k → lookup k ((n, v) ∷ env) ≡ Some v
lookup_here n k v env e = grind arith

lookup_there : (n k : ℕ) (v : Value) (env : Env) → n ≢ k → lookup k ((n, v) ∷ env) ≡ lookup k env
lookup_there n k v env ne = grind arith

-- a name has its value now, and the others have theirs
pub holds_set : (tops : List (Option Word)) (n : ℕ) (word : Word) (env : Env) → n < length tops → Holds tops env → Holds (set tops n (Some word)) ((n, value word) ∷ env)
holds_set tops n word env h holds k =
    elim (cases_eq n k) [
      | inl e ↦ ap (λ j. top_value (slice_get (set tops n (Some word)) j)) (sym e) ∙ (ap top_value (set_here tops n (Some word) h) ∙ sym (lookup_here n k (value word) env e))
      | inr ne ↦ ap top_value (set_there tops n k (Some word) ne) ∙ (holds k ∙ sym (lookup_there n k (value word) env ne))
    ]

tops_last : (list : List Top) (t : Top) → tops_of (list ++ (t ∷ [])) ≡ tops_of list ++ ((t.name, value t.word) ∷ [])
tops_last [] t = refl
tops_last (u ∷ us) t = ap (λ l. (u.name, value u.word) ∷ l) (tops_last us t)

-- The names behind those of the list were set, over whatever stood there before.
abbrev pub SetBehind : List Top → Names → List (Option Word) → List (Option Word) → Type 0
SetBehind list env old new = (set : Env) × ((tops_of list ++ set ≡ names env) × ((before : Env) → Holds old before → Holds new (set ++ before)))

-- the last name of the list was set
pub set_more : (list rest : List Top) (t : Top) (env : Names) (old tops new : List (Option Word)) → list ≡ rest ++ (t ∷ []) → SetBehind list env old tops → ((before : Env) → Holds tops before → Holds new ((t.name, value t.word) ∷ before)) → SetBehind rest env old new
set_more list rest t env old tops new parts (set, (all, by)) one = (
  (t.name, value t.word) ∷ set,
  (
    sym (append_assoc (tops_of rest) ((t.name, value t.word) ∷ []) set) ∙ (ap (λ l. l ++ set) (sym (tops_last rest t) ∙ ap tops_of (sym parts)) ∙ all),
    λ before h. one (set ++ before) (by before h),
  ),
)
