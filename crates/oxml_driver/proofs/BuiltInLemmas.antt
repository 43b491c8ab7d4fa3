-- Which items bind functions that capture nothing.
use Rattle.std.proofs.Common.{◌≡◌, ◌<◌, ℕ, Bool, true, false, List, [], ◌∷◌, length, take, get_or, ◌≤◌, ◌+◌, All, Option, refl, sym, ◌∙◌, ap, subst}
use Rattle.std.proofs.lemmas.List.{take_all}
use Rattle.std.proofs.lemmas.List.Elements.{All-get_or, All-more}
use Rattle.std.specs.Bool.{Decides}
use Rattle.std.specs.Option.{option_map}
use Rattle.ml_tree.specs.declared.expr.Bind.{Bind, out-Bind}
use Rattle.ml_tree.specs.declared.pattern.Param.{Param}
use Rattle.ml_tree.specs.declared.program.Item.{Item}
use Rattle.ml_tree.specs.declared.program.ItemKind.TheVariants.{Let}
use Rattle.ml_tree.specs.declared.scoped.Scoped.{Scoped}
use Rattle.ml_functions.specs.declared.function.Function.{Function}
use Rattle.ml_functions.specs.declared.function.Functions.{Functions}
use Rattle.ml_functions.specs.Table.{code_of, function_at}
use Rattle.meaning_laws.specs.Items.{BindsFunction, BindsFunctions, code_at}
use Rattle.oxml_driver.specs.Form.{AreFunctions, BindsName, CapturesNothing}

same_binds : (item : Item) (recursive other : Bool) (binds others : List Bind) → item.kind ≡ Let recursive binds → item.kind ≡ Let other others → others ≡ binds
same_binds item recursive other binds others one two = let e = sym one ∙ two in cc

pub item_decides : (s : Scoped) (item : Item) (recursive : Bool) (binds : List Bind) (answer : Bool) → item.kind ≡ Let recursive binds → Decides answer (All (BindsFunction s) binds) → Decides answer (BindsFunctions s item)
item_decides s item recursive binds answer is (all, tells) = (
  λ t. record { recursive = recursive; binds = binds; is_let = is; are_functions = all t },
  λ f. tells (subst (λ bs. All (BindsFunction s) bs) (same_binds item recursive f.recursive binds f.binds is f.is_let) f.are_functions),
)

some_param : (params : List Param) → (params ≡ [] → ⊥) → (first : Param) × (others : List Param) × (params ≡ first ∷ others)
some_param [] some = absurd (some refl)
some_param (first ∷ others) some = (first, others, refl)

no_param : {params : List Param} {first : Param} {others : List Param} → params ≡ first ∷ others → length params ≡ 0 → ⊥
no_param is none = absurd (let e = sym (ap length is) ∙ none in cc)

-- the function at a bind's node is that of the program
pub bind_decides : (s : Scoped) (fs : Functions) (bind : Bind) (found : Option Function) (answer : Bool) → AreFunctions s fs → ((out-Bind bind).params ≡ [] → ⊥) → BindsName (out-Bind bind).pat → found ≡ function_at fs.places.now fs.list.now (out-Bind bind).pat.id → Decides answer (CapturesNothing (option_map code_of found)) → Decides answer (BindsFunction s bind)
bind_decides s fs bind found answer are some name at (nothing_of, tells) =
    let (first, others, params) = some_param (out-Bind bind).params some in
    let table : option_map code_of found ≡ code_at s (out-Bind bind).pat.id = ap (option_map code_of) at ∙ are.by (out-Bind bind).pat.id in (
      λ t. let nothing = nothing_of t in record {
        words = name.words;
        name = name.name;
        is_name = name.is_name;
        first = first;
        others = others;
        has_params = params;
        code = nothing.code;
        is_code = sym table ∙ nothing.is_code;
        captures_none = nothing.captures_none;
      },
      λ f. tells (record { code = f.code; is_code = table ∙ f.is_code; captures_none = f.captures_none }),
    )

pub no_params_decides : (s : Scoped) (bind : Bind) → length (out-Bind bind).params ≡ 0 → Decides false (BindsFunction s bind)
no_params_decides s bind none = (λ t. absurd (let e = t in cc), λ f. absurd (no_param f.has_params none))

pub no_name_decides : (s : Scoped) (bind : Bind) → (BindsName (out-Bind bind).pat → ⊥) → Decides false (BindsFunction s bind)
no_name_decides s bind none = (
  λ t. absurd (let e = t in cc),
  λ f. absurd (none (record { words = f.words; name = f.name; is_name = f.is_name })),
)

-- ---- the binds one after the other

pub first_more : (s : Scoped) (binds : List Bind) (bind : Bind) (i : ℕ) → i < length binds → bind ≡ get_or binds i bind → BindsFunction s bind → All (BindsFunction s) (take i binds) → All (BindsFunction s) (take (i + 1) binds)
first_more s binds bind i inside is f all =
    All-more (BindsFunction s) binds i bind inside all (subst (λ b. BindsFunction s b) is f)

pub one_is_other : (s : Scoped) (binds : List Bind) (bind : Bind) (i : ℕ) → i < length binds → bind ≡ get_or binds i bind → (BindsFunction s bind → ⊥) → Decides false (All (BindsFunction s) binds)
one_is_other s binds bind i inside is not = (
  λ t. absurd (let e = t in cc),
  λ all. absurd (not (subst (λ b. BindsFunction s b) (sym is) (All-get_or (BindsFunction s) binds i bind inside all))),
)

pub all_are_functions : (s : Scoped) (binds : List Bind) (i : ℕ) → length binds ≤ i → All (BindsFunction s) (take i binds) → Decides true (All (BindsFunction s) binds)
all_are_functions s binds i behind all = (
  λ t. subst (λ bs. All (BindsFunction s) bs) (take_all i binds behind) all,
  λ a. refl,
)
