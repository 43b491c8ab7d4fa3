-- Items that bind functions which capture nothing.
use Rattle.std.proofs.Common.{◌≡◌, ℕ, suc, Bool, List, [], ◌∷◌, ◌++◌, map, Some, refl, ap, ◌∙◌, arith, All}
use Rattle.ml_tree.specs.declared.expr.Bind.{Bind, out-Bind}
use Rattle.ml_tree.specs.declared.program.Item.{Item}
use Rattle.ml_tree.specs.declared.program.ItemKind.TheVariants.{Let as ItemLet}
use Rattle.ml_tree.specs.declared.scoped.Scoped.{Scoped}
use Rattle.ml_meaning.specs.declared.event.Event.{Event}
use Rattle.ml_meaning.specs.declared.event.Event.TheVariants as event
use Rattle.ml_meaning.specs.Evaluation.{captured, closure, function_made, values}
use Rattle.ml_meaning.specs.Functions.{FunctionCode}
use Rattle.ml_meaning.specs.Patterns.{Env, all_fit, both_fit, fits}
use Rattle.ml_meaning.specs.Programs.{bind_meaning, bound, calls, item_run, item_weight}
use Rattle.ml_meaning.specs.Runs.{Done, after, ◌>>=◌}
use Rattle.ml_meaning.specs.Tellings.{Call, Inner, Last, Meaning, finish, or_stuck}
use Rattle.ml_meaning.specs.Values.{Function, Source, Value, no_values, packed}
use Rattle.meaning_laws.specs.Items.{BindsFunction, BindsFunctions, BindsOnly, code_at, setting_of}
use Rattle.meaning_laws.proofs.Layers.{bind_is, bound_is, kind_fits, meant_bind, pat_is}

-- the function of a node
abbrev function_at : ℕ → Value
function_at node = Function (Source node) no_values no_values

module _ (s : Scoped) (tops : Env) where
  -- ---- the value of a bind

  -- a name fits every value
  name_fits : (bind : Bind) → BindsFunction s bind → (v : Value) → fits (setting_of s tops).names (out-Bind bind).pat v ≡ Some (((out-Bind bind).pat.id, v) ∷ [])
  name_fits bind f v =
      let names = (setting_of s tops).names in
      ap (λ m. m v) (pat_is names (out-Bind bind).pat)
      ∙ (ap (λ k. (kind_fits names k (out-Bind bind).pat.id).whole v) f.is_name
      ∙ ap (λ m. (m (out-Bind bind).pat.id).whole v) (bound_is names f.words f.name))

  -- a function that captures nothing is made of nothing
  closes_none : (node : ℕ) (code : FunctionCode) (c : Call Event) → code_at s node ≡ Some code → code.captures ≡ [] → closure Event (setting_of s tops) node c Inner [] ≡ Done [] (function_at node)
  closes_none node code c is none =
      ap (λ found. or_stuck found >>= λ f. or_stuck (captured Event (setting_of s tops) f.captures []) >>= λ vs. after (function_made Event (setting_of s tops) node f.captures) (finish Event (setting_of s tops) Inner (Function (Source node) (packed vs) no_values))) is
      ∙ ap (λ ns. after [] (or_stuck (captured Event (setting_of s tops) ns []) >>= λ vs. after (function_made Event (setting_of s tops) node ns) (finish Event (setting_of s tops) Inner (Function (Source node) (packed vs) no_values)))) none

  bind_value : (bind : Bind) (c : Call Event) → BindsFunction s bind → (bind_meaning Event (setting_of s tops) bind).value c Inner [] ≡ Done [] (function_at (out-Bind bind).pat.id)
  bind_value bind c f =
      ap (λ m. m.value c Inner []) (bind_is Event (setting_of s tops) bind)
      ∙ (ap (λ ps. let m : Meaning Event = elim (ps) [ [] ↦ (meant_bind Event (setting_of s tops) (out-Bind bind)).body.run | q ∷ qs ↦ closure Event (setting_of s tops) (out-Bind bind).pat.id ] in m c Inner []) f.has_params
      ∙ closes_none (out-Bind bind).pat.id f.code c f.is_code f.captures_none)

  bind_fits : (bind : Bind) → BindsFunction s bind → (v : Value) → (bind_meaning Event (setting_of s tops) bind).fits v ≡ Some (((out-Bind bind).pat.id, v) ∷ [])
  bind_fits bind f v =
      ap (λ m. m.fits v) (bind_is Event (setting_of s tops) bind) ∙ name_fits bind f v

  -- ---- all binds of an item

  -- the binds have values, with nothing told, and names for them
  record AreBound (binds : List Bind) (c : Call Event) : Type 0 where
    found : List Value
    names : Env
    told_none : values Event (setting_of s tops) (map (λ b. (bind_meaning Event (setting_of s tops) b).value) binds) c [] ≡ Done [] found
    fit : all_fit (map (λ b. (bind_meaning Event (setting_of s tops) b).fits) binds) found ≡ Some names

  are_bound : (binds : List Bind) (c : Call Event) → All (BindsFunction s) binds → AreBound binds c
  are_bound [] c all = record { found = []; names = []; told_none = refl; fit = refl }
  are_bound (b ∷ bs) c all =
      let f = all 0 b (omega arith) in
      let rest = are_bound bs c (λ k d less. all (suc k) d (omega (arith, less))) in
      let v = function_at (out-Bind b).pat.id in
      record {
        found = v ∷ rest.found;
        names = rest.names ++ (((out-Bind b).pat.id, v) ∷ []);
        told_none =
            ap (λ r. r >>= λ vs. (bind_meaning Event (setting_of s tops) b).value c Inner [] >>= λ v. Done [] (v ∷ vs)) rest.told_none
            ∙ ap (λ r. after [] (r >>= λ v. Done [] (v ∷ rest.found))) (bind_value b c f);
        fit =
            ap (λ one. both_fit one (all_fit (map (λ b. (bind_meaning Event (setting_of s tops) b).fits) bs) rest.found)) (bind_fits b f v)
            ∙ ap (λ others. both_fit (Some (((out-Bind b).pat.id, v) ∷ [])) others) rest.fit;
      }

  item_is_bound : (recursive : Bool) (binds : List Bind) (n : ℕ) → (all : All (BindsFunction s) binds) → (names : Env) × (item_run Event (setting_of s tops) n (ItemLet recursive binds) ≡ Done [] names)
  item_is_bound recursive binds n all =
      let are = are_bound binds (calls Event (setting_of s tops) n) all in (
        are.names,
        ap (λ r. r >>= λ vs. bound Event (setting_of s tops) (all_fit (map (λ b. (bind_meaning Event (setting_of s tops) b).fits) binds) vs)) are.told_none
            ∙ ap (λ names. after [] (bound Event (setting_of s tops) names)) are.fit,
      )

pub binds_only : (s : Scoped) (n : ℕ) (tops : Env) (item : Item) → BindsFunctions s item → BindsOnly s n tops item
binds_only s n tops item f =
    let (names, run) = item_is_bound s tops f.recursive f.binds n f.are_functions in
    let at_kind = ap (λ kind. item_run Event (setting_of s tops) n kind) f.is_let ∙ run in
    record {
      names = names;
      run = ap (λ r. after (event.Enter (item_weight Event (setting_of s tops) item.kind) ∷ event.Open ∷ []) (r >>= λ xs. finish Event (setting_of s tops) (Last (item_weight Event (setting_of s tops) item.kind)) xs)) at_kind;
    }
