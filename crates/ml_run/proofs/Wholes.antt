-- The items of a program, one after the other.
use Rattle.std.proofs.Common.{◌≡◌, ℕ, ◌+◌, ◌<◌, List, [], ◌∷◌, ◌++◌, drop, take, get_or, length, Option, Some, None, refl, sym, ap, subst, ◌∙◌, arith}
use Rattle.std.proofs.lemmas.List.{append-nil, drop_all, drop_more, take_all}
use Rattle.ml_tree.specs.declared.program.Item.{Item}
use Rattle.ml_tree.specs.declared.program.ItemKind.{ItemKind}
use Rattle.ml_tree.specs.declared.scoped.Scoped.{Scoped}
use Rattle.ml_meaning.specs.declared.event.Event.{Event}
use Rattle.ml_meaning.specs.declared.event.Ending.{Ending}
use Rattle.ml_meaning.specs.declared.event.Ending.TheVariants as ending
use Rattle.ml_meaning.specs.Growth.{Begins}
use Rattle.ml_meaning.specs.Patterns.{Env}
use Rattle.ml_meaning.specs.Programs as m
use Rattle.ml_meaning.specs.Programs.{answer}
use Rattle.ml_meaning.specs.Runs.{Run, Done, Stop, Ended, after, ◌>>=◌, trace}
use Rattle.ml_meaning.specs.Tellings.{Setting}
use Rattle.ml_values.specs.declared.value.Env.{Env as Names}
use Rattle.ml_values.specs.declared.value.Word.{Word}
use Rattle.ml_values.specs.Shown.{names}
use Rattle.ml_run.specs.declared.items.Matched.{Matched}
use Rattle.ml_run.specs.declared.items.Matched.TheVariants as M
use Rattle.ml_run.specs.Stack.{Began, Tells, matched_run}
use Rattle.ml_run.specs.Whole.{Advanced, Holds, Ran, items_from, program_setting}
use Rattle.ml_run.proofs.Runs.{tells_bind, tells_value, tells_on, began_bind}

-- ---- the whole answer, by the events that were told

answer_trace : {A : Type 0} (r : Run Event A) → (answer r).0 ≡ trace r
answer_trace (Done es a) = refl
answer_trace (Stop es end) = refl

answer_after : {A : Type 0} (es : List Event) (r : Run Event A) → answer (after es r) ≡ (es ++ (answer r).0, (answer r).1)
answer_after es (Done fs a) = refl
answer_after es (Stop fs end) = refl

ran_answer : {A : Type 0} (a b : List Event) (r q : Run Event A) (end : Ending) → Tells a b r q → answer q ≡ ([], Ended end) → Ran a b end (answer r)
ran_answer a b r q end h e =
    let same : (a ++ (answer r).0, (answer r).1) ≡ (b ++ [], Ended end) =
    sym (answer_after a r) ∙ (ap answer h ∙ (answer_after b q ∙ ap (λ p. (b ++ p.0, p.1)) e)) in
    (sym (append-nil b) ∙ sym (ap (λ p. p.0) same), ap (λ p. p.1) same)

pub ran_all : (a b : List Event) (r : Run Event Env) (xs : Env) → Tells a b r (Done [] xs) → Ran a b (ending.Exit 0) (answer r)
ran_all a b r xs h = ran_answer a b r (Done [] xs) (ending.Exit 0) h refl

pub ran_end : (a b : List Event) (r : Run Event Env) (end : Ending) → Tells a b r (Stop [] (Ended end)) → Ran a b end (answer r)
ran_end a b r end h = ran_answer a b r (Stop [] (Ended end)) end h refl

pub began_answer : (a b : List Event) (r : Run Event Env) → Began a b r → Begins b (a ++ (answer r).0)
began_answer a b r (rest, e) = (rest, e ∙ ap (λ l. a ++ l) (sym (answer_trace r)))

-- ---- an item, in the setting of the program

module _ (place other : Setting Event) (same : place ≡ other) (fuel : ℕ) (kind : ItemKind) where
  pub advanced_began : (a n : List Event) → Began a n (m.item_evaluated Event place fuel kind) → Began a n (m.item_evaluated Event other fuel kind)
  advanced_began a n h =
      let P : Setting Event → Type 0 = λ s. Began a n (m.item_evaluated Event s fuel kind) in
      subst P same h

  pub advanced_names : (a n : List Event) (matched : Matched) (env : Names) → Tells a n (m.item_evaluated Event place fuel kind) (matched_run matched) → matched ≡ M.Names env → Tells a n (m.item_evaluated Event other fuel kind) (Done [] (names env))
  advanced_names a n matched env h at =
      ap (λ s. after a (m.item_evaluated Event s fuel kind)) (sym same) ∙ (h ∙ ap (λ x. after n (matched_run x)) at)

  pub advanced_end : (a n : List Event) (matched : Matched) (end : Ending) → Tells a n (m.item_evaluated Event place fuel kind) (matched_run matched) → matched ≡ M.End end → Tells a n (m.item_evaluated Event other fuel kind) (Stop [] (Ended end))
  advanced_end a n matched end h at =
      ap (λ s. after a (m.item_evaluated Event s fuel kind)) (sym same) ∙ (h ∙ ap (λ x. after n (matched_run x)) at)

-- ---- the loop over the items

-- The items before this place were evaluated, and these names are there.
abbrev pub Went : Scoped → ℕ → List Event → List Event → List (Option Word) → List Item → Type 0
Went s fuel a o tops left = (env : Env) × (Holds tops env × Tells a o (items_from s fuel s.program.items []) (items_from s fuel left env))

some_same : (a b : Ending) → Some a ≡ Some b → a ≡ b
some_same a b e = cc

-- what was written through a borrow of the whole list is the list
pub written_back : (new old : List (Option Word)) (len : ℕ) → length new ≡ length old → length old ≡ len → take len (new ++ drop (length new) old) ≡ new
written_back new old len e f =
    ap (λ l. take len (new ++ l)) (drop_all (length new) old (omega arith))
    ∙ (ap (take len) (append-nil new) ∙ take_all len new (omega arith))

module _ (s : Scoped) (fuel : ℕ) where
  -- the same values, in another list
  pub went_in : (a o : List Event) (tops given : List (Option Word)) (left : List Item) → given ≡ tops → Went s fuel a o tops left → Went s fuel a o given left
  went_in a o tops given left is (env, (holds, h)) =
      let P : List (Option Word) → Type 0 = λ l. Holds l env in
      (env, (subst P (sym is) holds, h))

  abbrev item_run : Item → Env → Run Event Env
  item_run it env = m.item_evaluated Event (program_setting s env) fuel it.kind

  abbrev whole : Run Event Env
  whole = items_from s fuel s.program.items []

  left_is : (items : List Item) (i : ℕ) (it : Item) → i < length items → it ≡ get_or items i it → drop i items ≡ it ∷ drop (i + 1) items
  left_is items i it less is = drop_more items i it less ∙ ap (λ x. x ∷ drop (i + 1) items) (sym is)

  here : (a o : List Event) (items : List Item) (i : ℕ) (it : Item) (env : Env) → i < length items → it ≡ get_or items i it → Tells a o whole (items_from s fuel (drop i items) env) → Tells a o whole (item_run it env >>= λ xs. items_from s fuel (drop (i + 1) items) (xs ++ env))
  here a o items i it env less is h = h ∙ ap (λ l. after o (items_from s fuel l env)) (left_is items i it less is)

  pub went_more : (a o n : List Event) (tops set : List (Option Word)) (items : List Item) (i : ℕ) (it : Item) → i < length items → it ≡ get_or items i it → (w : Went s fuel a o tops (drop i items)) → (more : Option Ending) → more ≡ None → Advanced (program_setting s w.0) fuel it.kind w.0 o n set more → Went s fuel a n set (drop (i + 1) items)
  went_more a o n tops set items i it less is w (Some end) at g = cc
  went_more a o n tops set items i it less is (env, (holds, h)) None at (xs, (g, now)) = (
    xs ++ env,
    (now, here a o items i it env less is h ∙ tells_value o n (item_run it env) xs (λ xs. items_from s fuel (drop (i + 1) items) (xs ++ env)) g),
  )

  pub went_end : (a o n : List Event) (tops set : List (Option Word)) (items : List Item) (i : ℕ) (it : Item) (end : Ending) → i < length items → it ≡ get_or items i it → (w : Went s fuel a o tops (drop i items)) → (more : Option Ending) → more ≡ Some end → Advanced (program_setting s w.0) fuel it.kind w.0 o n set more → Ran a n end (answer whole)
  went_end a o n tops set items i it end less is w None at g = cc
  went_end a o n tops set items i it end less is (env, (holds, h)) (Some last) at g =
      let P : Ending → Type 0 = λ e. Ran a n e (answer whole) in
      subst P (some_same last end at) (
      ran_end a n whole last
      (here a o items i it env less is h ∙ tells_bind o n (item_run it env) (Stop [] (Ended last)) (λ xs. items_from s fuel (drop (i + 1) items) (xs ++ env)) g)
      )

  pub went_began : (a o n : List Event) (tops : List (Option Word)) (items : List Item) (i : ℕ) (it : Item) → i < length items → it ≡ get_or items i it → (w : Went s fuel a o tops (drop i items)) → Began o n (item_run it w.0) → Begins n (a ++ (answer whole).0)
  went_began a o n tops items i it less is (env, (holds, h)) g =
      began_answer a n whole
      (tells_on a o n whole _ (here a o items i it env less is h) (began_bind o n (item_run it env) (λ xs. items_from s fuel (drop (i + 1) items) (xs ++ env)) g))

  pub went_all : (a o : List Event) (tops : List (Option Word)) (left : List Item) → left ≡ [] → Went s fuel a o tops left → Ran a o (ending.Exit 0) (answer whole)
  went_all a o tops left is (env, (holds, h)) =
      ran_all a o whole env (h ∙ ap (λ l. after o (items_from s fuel l env)) is)
