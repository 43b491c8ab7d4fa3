-- The values and the names that the bindings of an item bind, step by step, and the item around them.
use Rattle.std.proofs.Common.{◌≡◌, ℕ, Bool, List, [], ◌∷◌, ◌++◌, Result, Ok, Err, IfOk, refl, sym, ap, subst, ◌∙◌}
use Rattle.std.proofs.lemmas.List.{append_assoc}
use Rattle.ml_tree.specs.declared.expr.Bind.{Bind}
use Rattle.ml_tree.specs.declared.program.ItemKind.{ItemKind}
use Rattle.ml_tree.specs.declared.program.ItemKind.TheVariants as item
use Rattle.ml_meaning.specs.declared.event.Ending.{Ending}
use Rattle.ml_meaning.specs.declared.event.Event.{Event}
use Rattle.ml_meaning.specs.declared.event.Event.TheVariants as event
use Rattle.ml_meaning.specs.Patterns as p
use Rattle.ml_meaning.specs.Growth.{Begins}
use Rattle.ml_meaning.specs.Programs as m
use Rattle.ml_meaning.specs.Runs.{Run, Done, Stop, Ended, after, ◌>>=◌}
use Rattle.ml_meaning.specs.Tellings.{Last, Setting, finish}
use Rattle.ml_meaning.specs.Values.{Value, listed, value_and}
use Rattle.ml_values.specs.declared.value.Env.{Env}
use Rattle.ml_values.specs.declared.value.Word.{Word}
use Rattle.ml_values.specs.declared.value.Words.{Words}
use Rattle.ml_values.specs.Shown.{names, value, values, values_list}
use Rattle.ml_steps.specs.declared.world.World.{World}
use Rattle.ml_steps.specs.Worlds.{setting_of}
use Rattle.ml_run.specs.declared.evaluate.Evaluated.{Evaluated}
use Rattle.ml_run.specs.declared.evaluate.Evaluated.TheVariants as evaluated
use Rattle.ml_run.specs.declared.items.Several.{Several}
use Rattle.ml_run.specs.declared.items.Several.TheVariants as S
use Rattle.ml_run.specs.declared.items.Matched.{Matched}
use Rattle.ml_run.specs.declared.items.Matched.TheVariants as M
use Rattle.ml_run.specs.Stack.{Began, Tells, bound_run, evaluated_run, fitted_run, matched_run, several_run, values_onto, values_run}
use Rattle.ml_run.proofs.Runs.{after_nil, bind_bind, bind_as, tells_bind, tells_value, tells_told, tells_on, began_bind, began_told, tells_from}

module _ (s : Setting Event) (fuel : ℕ) where
  -- of several bindings the last is evaluated first
  values_last : (bs : List Bind) (b : Bind) → values_run s (bs ++ (b ∷ [])) fuel ≡ bound_run s b fuel >>= λ v. values_onto s bs fuel (v ∷ [])
  values_last [] b = after_nil (bound_run s b fuel >>= λ v. Done [] (v ∷ []))
  values_last (a ∷ bs) b =
      ap (λ r. r >>= λ vs. bound_run s a fuel >>= λ v. Done [] (v ∷ vs)) (values_last bs b)
      ∙ (bind_bind (bound_run s b fuel) (λ v. values_onto s bs fuel (v ∷ [])) (λ vs. bound_run s a fuel >>= λ v. Done [] (v ∷ vs))
      ∙ bind_as (bound_run s b fuel) _ _ (λ v.
      bind_bind (values_run s bs fuel) (λ us. Done [] (us ++ (v ∷ []))) (λ vs. bound_run s a fuel >>= λ x. Done [] (x ∷ vs))
      ∙ (bind_as (values_run s bs fuel) _ _ (λ us.
      after_nil (bound_run s a fuel >>= λ x. Done [] (x ∷ (us ++ (v ∷ []))))
      ∙ sym (bind_bind (bound_run s a fuel) (λ x. Done [] (x ∷ us)) (λ ws. Done [] (ws ++ (v ∷ [])))))
      ∙ sym (bind_bind (values_run s bs fuel) (λ us. bound_run s a fuel >>= λ x. Done [] (x ∷ us)) (λ ws. Done [] (ws ++ (v ∷ [])))))))

  onto_last : (bs : List Bind) (b : Bind) (there : List Value) → values_onto s (bs ++ (b ∷ [])) fuel there ≡ bound_run s b fuel >>= λ v. values_onto s bs fuel (v ∷ there)
  onto_last bs b there =
      ap (λ r. r >>= λ vs. Done [] (vs ++ there)) (values_last bs b)
      ∙ (bind_bind (bound_run s b fuel) (λ v. values_onto s bs fuel (v ∷ [])) (λ vs. Done [] (vs ++ there))
      ∙ bind_as (bound_run s b fuel) _ _ (λ v.
      bind_bind (values_run s bs fuel) (λ us. Done [] (us ++ (v ∷ []))) (λ vs. Done [] (vs ++ there))
      ∙ bind_as (values_run s bs fuel) _ _ (λ us. ap (λ l. Done [] l) (append_assoc us (v ∷ []) there))))

  -- ---- the loop over the bindings

  turned_to : (a o : List Event) (all left before : List Bind) (b : Bind) (there : List Value) → Tells a o (values_run s all fuel) (values_onto s left fuel there) → left ≡ before ++ (b ∷ []) → Tells a o (values_run s all fuel) (bound_run s b fuel >>= λ v. values_onto s before fuel (v ∷ there))
  turned_to a o all left before b there h e =
      h ∙ (ap (λ l. after o (values_onto s l fuel there)) e ∙ ap (after o) (onto_last before b there))

  pub word_more : (a o n : List Event) (all left before : List Bind) (b : Bind) (there more : Words) (r : Run Event Value) (e : Evaluated) (word : Word) → Tells a o (values_run s all fuel) (values_onto s left fuel (values_list there)) → left ≡ before ++ (b ∷ []) → r ≡ bound_run s b fuel → Tells o n r (evaluated_run e) → e ≡ evaluated.Value word → values more ≡ value_and (value word) (values there) → Tells a n (values_run s all fuel) (values_onto s before fuel (values_list more))
  word_more a o n all left before b there more r e word h parts is g at longer =
      turned_to a o all left before b (values_list there) h parts
      ∙ (tells_value o n (bound_run s b fuel) (value word) (λ v. values_onto s before fuel (v ∷ values_list there)) (ap (after o) (sym is) ∙ (g ∙ ap (λ x. after n (evaluated_run x)) at))
      ∙ ap (λ vs. after n (values_onto s before fuel (listed vs))) (sym longer))

  pub word_end : (a o n : List Event) (all left before : List Bind) (b : Bind) (there : List Value) (r : Run Event Value) (e : Evaluated) (end : Ending) → Tells a o (values_run s all fuel) (values_onto s left fuel there) → left ≡ before ++ (b ∷ []) → r ≡ bound_run s b fuel → Tells o n r (evaluated_run e) → e ≡ evaluated.End end → Tells a n (values_run s all fuel) (Stop [] (Ended end))
  word_end a o n all left before b there r e end h parts is g at =
      turned_to a o all left before b there h parts
      ∙ tells_bind o n (bound_run s b fuel) (Stop [] (Ended end)) (λ v. values_onto s before fuel (v ∷ there)) (ap (after o) (sym is) ∙ (g ∙ ap (λ x. after n (evaluated_run x)) at))

  pub word_began : (a o n : List Event) (all left before : List Bind) (b : Bind) (there : List Value) (r : Run Event Value) → Tells a o (values_run s all fuel) (values_onto s left fuel there) → left ≡ before ++ (b ∷ []) → r ≡ bound_run s b fuel → Began o n r → Began a n (values_run s all fuel)
  word_began a o n all left before b there r h parts is g =
      let P : Run Event Value → Type 0 = λ q. Began o n q in
      tells_on a o n (values_run s all fuel) (bound_run s b fuel >>= λ v. values_onto s before fuel (v ∷ there)) (turned_to a o all left before b there h parts)
      (began_bind o n (bound_run s b fuel) (λ v. values_onto s before fuel (v ∷ there)) (subst P is g))

  -- ---- the names of an item

  run_is : (kind : ItemKind) (rec : Bool) (slice bs : List Bind) → kind ≡ item.Let rec bs → slice ≡ bs → m.item_run Event s fuel kind ≡ values_run s slice fuel >>= fitted_run s slice
  run_is kind rec slice bs is same =
      ap (m.item_run Event s fuel) is ∙ ap (λ l. values_run s l fuel >>= fitted_run s l) (sym same)

  -- the bindings are read twice, for their values and for their patterns
  fitted_again : (slice again bs : List Bind) (vs : List Value) → slice ≡ bs → again ≡ bs → fitted_run s slice vs ≡ fitted_run s again vs
  fitted_again slice again bs vs e f = ap (λ l. fitted_run s l vs) (e ∙ sym f)

  pub names_answer : {F : Type 0} (a o n : List Event) (kind : ItemKind) (rec : Bool) (slice again bs : List Bind) (several : Several) (words : Words) (r : Result Matched F) → kind ≡ item.Let rec bs → slice ≡ bs → again ≡ bs → Tells a o (values_run s slice fuel) (several_run several) → several ≡ S.Values words → IfOk r (λ names. Tells o n (fitted_run s again (values_list words)) (matched_run names)) → IfOk r (λ names. Tells a n (m.item_run Event s fuel kind) (matched_run names))
  names_answer a o n kind rec slice again bs several words (Err e) is same twice h at g = tt
  names_answer a o n kind rec slice again bs several words (Ok names) is same twice h at g =
      ap (after a) (run_is kind rec slice bs is same)
      ∙ (tells_value a o (values_run s slice fuel) (values_list words) (fitted_run s slice) (h ∙ ap (λ x. after o (several_run x)) at)
      ∙ (ap (after o) (fitted_again slice again bs (values_list words) same twice) ∙ g))

  pub names_end : (a o : List Event) (kind : ItemKind) (rec : Bool) (slice bs : List Bind) (several : Several) (end : Ending) → kind ≡ item.Let rec bs → slice ≡ bs → Tells a o (values_run s slice fuel) (several_run several) → several ≡ S.End end → Tells a o (m.item_run Event s fuel kind) (Stop [] (Ended end))
  names_end a o kind rec slice bs several end is same h at =
      ap (after a) (run_is kind rec slice bs is same)
      ∙ tells_bind a o (values_run s slice fuel) (Stop [] (Ended end)) (fitted_run s slice) (h ∙ ap (λ x. after o (several_run x)) at)

  pub names_began : (a o : List Event) (kind : ItemKind) (rec : Bool) (slice bs : List Bind) → kind ≡ item.Let rec bs → slice ≡ bs → Began a o (values_run s slice fuel) → Began a o (m.item_run Event s fuel kind)
  names_began a o kind rec slice bs is same h =
      let P : Run Event p.Env → Type 0 = λ q. Began a o q in
      subst P (sym (run_is kind rec slice bs is same)) (began_bind a o (values_run s slice fuel) (fitted_run s slice) h)

  pub names_on : (a o n : List Event) (kind : ItemKind) (rec : Bool) (slice again bs : List Bind) (several : Several) (words : Words) → kind ≡ item.Let rec bs → slice ≡ bs → again ≡ bs → Tells a o (values_run s slice fuel) (several_run several) → several ≡ S.Values words → Began o n (fitted_run s again (values_list words)) → Began a n (m.item_run Event s fuel kind)
  names_on a o n kind rec slice again bs several words is same twice h at g =
      let P : Run Event p.Env → Type 0 = λ q. Began a n q in
      let Q : Run Event p.Env → Type 0 = λ q. Began o n q in
      subst P (sym (run_is kind rec slice bs is same))
      (tells_on a o n (values_run s slice fuel >>= fitted_run s slice) (fitted_run s slice (values_list words)) (tells_value a o (values_run s slice fuel) (values_list words) (fitted_run s slice) (h ∙ ap (λ x. after o (several_run x)) at)) (subst Q (sym (fitted_again slice again bs (values_list words) same twice)) g))

-- ---- an item

abbrev entry : ℕ → List Event
entry weight = event.Enter weight ∷ (event.Open ∷ [])

abbrev exit : ℕ → List Event
exit weight = event.Close ∷ (event.Leave weight ∷ [])

module _ (w : World) (fuel : ℕ) (kind : ItemKind) where
  abbrev weight_of : ℕ
  weight_of = m.item_weight Event (setting_of w) kind

  abbrev leaving : p.Env → Run Event p.Env
  leaving xs = finish Event (setting_of w) (Last weight_of) xs

  abbrev named_run : Run Event p.Env
  named_run = m.item_run Event (setting_of w) fuel kind

  abbrev whole_run : Run Event p.Env
  whole_run = m.item_evaluated Event (setting_of w) fuel kind

  entered : (a o : List Event) (weight : ℕ) → weight ≡ weight_of → o ≡ a ++ entry weight → Tells a o whole_run (named_run >>= leaving)
  entered a o weight is e = tells_from a o (entry weight_of) (named_run >>= leaving) (e ∙ ap (λ v. a ++ entry v) is)

  -- the item has begun, and its names are there
  item_named : (a o n : List Event) (weight : ℕ) (matched : Matched) (env : Env) → weight ≡ weight_of → o ≡ a ++ entry weight → Tells o n named_run (matched_run matched) → matched ≡ M.Names env → Tells a n whole_run (leaving (names env))
  item_named a o n weight matched env is e h at =
      entered a o weight is e ∙ tells_value o n named_run (names env) leaving (h ∙ ap (λ x. after n (matched_run x)) at)

  pub item_left : (a o n b : List Event) (weight : ℕ) (matched : Matched) (env : Env) → weight ≡ weight_of → o ≡ a ++ entry weight → Tells o n named_run (matched_run matched) → matched ≡ M.Names env → b ≡ n ++ exit weight → Tells a b whole_run (Done [] (names env))
  item_left a o n b weight matched env is e h at left =
      item_named a o n weight matched env is e h at
      ∙ tells_told n n b (exit weight_of) (leaving (names env)) (Done [] (names env)) refl (left ∙ ap (λ v. n ++ exit v) is)

  pub item_end : (a o n : List Event) (weight : ℕ) (matched : Matched) (end : Ending) → weight ≡ weight_of → o ≡ a ++ entry weight → Tells o n named_run (matched_run matched) → matched ≡ M.End end → Tells a n whole_run (Stop [] (Ended end))
  item_end a o n weight matched end is e h at =
      entered a o weight is e ∙ tells_bind o n named_run (Stop [] (Ended end)) leaving (h ∙ ap (λ x. after n (matched_run x)) at)

  -- as far as the events were told before memory was short
  pub item_entering : (a o : List Event) (weight : ℕ) → weight ≡ weight_of → Begins o (a ++ entry weight) → Began a o whole_run
  item_entering a o weight is h =
      let P : ℕ → Type 0 = λ v. Begins o (a ++ entry v) in
      began_told a o (entry weight_of) (named_run >>= leaving) (subst P is h)

  pub item_began : (a o n : List Event) (weight : ℕ) → weight ≡ weight_of → o ≡ a ++ entry weight → Began o n named_run → Began a n whole_run
  item_began a o n weight is e h =
      tells_on a o n whole_run (named_run >>= leaving) (entered a o weight is e) (began_bind o n named_run leaving h)

  pub item_leaving : (a o n b : List Event) (weight : ℕ) (matched : Matched) (env : Env) → weight ≡ weight_of → o ≡ a ++ entry weight → Tells o n named_run (matched_run matched) → matched ≡ M.Names env → Begins b (n ++ exit weight) → Began a b whole_run
  item_leaving a o n b weight matched env is e h at left =
      let P : ℕ → Type 0 = λ v. Begins b (n ++ exit v) in
      tells_on a n b whole_run (leaving (names env)) (item_named a o n weight matched env is e h at) (subst P is left)
