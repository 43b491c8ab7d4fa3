-- A program at more fuel: its trace begins with the trace at less, and an end by exit stays.
use Rattle.std.proofs.Common.{◌≡◌, ℕ, zero, suc, ◌+◌, ◌-◌, ◌≤◌, List, [], ◌∷◌, ◌++◌, map, None, refl, sym, ap, ◌∙◌, subst, arith, append-nil, append_assoc}
use Rattle.ml_tree.specs.declared.expr.Arm.{Arm}
use Rattle.ml_tree.specs.declared.expr.Bind.{Bind}
use Rattle.ml_tree.specs.declared.program.Item.{Item}
use Rattle.ml_tree.specs.declared.program.ItemKind.{ItemKind}
use Rattle.ml_tree.specs.declared.program.ItemKind.TheVariants as item
use Rattle.ml_tree.specs.declared.scoped.Scoped.{Scoped}
use Rattle.ml_meaning.specs.declared.event.Event.{Event}
use Rattle.ml_meaning.specs.declared.event.Event.TheVariants as event
use Rattle.ml_meaning.specs.declared.event.Ending.TheVariants as ending
use Rattle.ml_meaning.specs.Values.{Value, Function, Code, Source, Primitive, no_values, packed}
use Rattle.ml_meaning.specs.Patterns.{Env, fits, all_fit}
use Rattle.ml_meaning.specs.Functions.{FunctionCode, Body, Single, Cases}
use Rattle.ml_meaning.specs.Runs.{Run, Done, Stop, Ended, Stuck, trace, ◌>>=◌}
use Rattle.ml_meaning.specs.Growth.{Begins, GoesOn}
use Rattle.ml_meaning.specs.Tellings.{Setting, Last, Call, or_stuck, finish}
use Rattle.ml_meaning.specs.Operations.{operate}
use Rattle.ml_meaning.specs.Programs.{arm_meaning, bind_meaning, own_name, bind_names, body_run, code_run, calls, item_weight, bound, item_run, item_evaluated, setting, items_run, program_run, answer, eval}
use Rattle.ml_meaning.proofs.Rising.{begins-same, goes_same, goes_after, goes_bind}
use Rattle.ml_meaning.proofs.Steady.{AllGo, AllArmsGo, CallGoes, goes_values, goes_matched, goes_choose}
use Rattle.ml_meaning.proofs.Trees.{expr_is_steady, arm_is_steady, bind_is_steady}

module _ (E : Type 0) (s : Setting E) where
  all_arms : (arms : List Arm) → AllArmsGo E (map (arm_meaning E s) arms)
  all_arms [] = tt
  all_arms (a ∷ arms) = (arm_is_steady E s a, all_arms arms)

  all_binds : (binds : List Bind) → AllGo E (map (λ b. (bind_meaning E s b).value) binds)
  all_binds [] = tt
  all_binds (b ∷ binds) = (bind_is_steady E s b, all_binds binds)

  goes_body : (f : FunctionCode) (c d : Call E) → CallGoes E c d → (env : Env) (body : Body) (vs : List Value) → GoesOn (body_run E s f c env body vs) (body_run E s f d env body vs)
  goes_body f c d h env (Single body) vs =
      goes_matched E s (all_fit (map (λ q. fits s.names q.pat) f.params) vs) _ _ (λ xs. (expr_is_steady E s body).run.by c d h (Last f.weight) (xs ++ env))
  goes_body f c d h env (Cases arms) [] = refl
  goes_body f c d h env (Cases arms) (v ∷ []) = goes_choose E s (map (arm_meaning E s) arms) (all_arms arms) c d h (Last f.weight) env v
  goes_body f c d h env (Cases arms) (v ∷ (u ∷ vs)) = refl

  goes_code : (c d : Call E) → CallGoes E c d → (code : Code) (held vs : List Value) → GoesOn (code_run E s c code held vs) (code_run E s d code held vs)
  goes_code c d h (Source n) held vs =
      goes_bind (or_stuck (s.code n)) (or_stuck (s.code n)) _ _ (goes_same (or_stuck (s.code n)))
      (λ f. goes_body f c d h (bind_names E s f.captures held (own_name E s f.own (Function (Source n) (packed held) no_values))) f.body vs)
  goes_code c d h (Primitive o) held vs = goes_same (operate E s None o vs >>= finish E s (Last 64))

  pub goes_calls : (n : ℕ) → CallGoes E (calls E s n) (calls E s (suc n))
  goes_calls zero first code held vs = (trace (calls E s (suc zero) first code held vs), refl)
  goes_calls (suc n) first code held vs =
      goes_after (s.told first ++ s.told event.Open) _ _ (goes_code (calls E s n) (calls E s (suc n)) (goes_calls n) code held vs)

  goes_item : (n : ℕ) (kind : ItemKind) → GoesOn (item_run E s n kind) (item_run E s (suc n) kind)
  goes_item n (item.Types decls) = refl
  goes_item n (item.Let recursive binds) =
      goes_bind _ _ _ _ (goes_values E s (map (λ b. (bind_meaning E s b).value) binds) (all_binds binds) (calls E s n) (calls E s (suc n)) (goes_calls n) [])
      (λ vs. goes_same (bound E s (all_fit (map (λ b. (bind_meaning E s b).fits) binds) vs)))

  pub goes_evaluated : (n : ℕ) (kind : ItemKind) → GoesOn (item_evaluated E s n kind) (item_evaluated E s (suc n) kind)
  goes_evaluated n kind =
      goes_after (s.told (event.Enter (item_weight E s kind)) ++ s.told event.Open) _ _
      (goes_bind (item_run E s n kind) (item_run E s (suc n) kind) _ _ (goes_item n kind) (λ xs. goes_same (finish E s (Last (item_weight E s kind)) xs)))

module _ (E : Type 0) (told : Event → List E) (visit : List E) (program : Scoped) where
  goes_items : (n : ℕ) (items : List Item) (tops : Env) → GoesOn (items_run E told visit program n items tops) (items_run E told visit program (suc n) items tops)
  goes_items n [] tops = refl
  goes_items n (i ∷ items) tops =
      goes_bind _ _ _ _ (goes_evaluated E (setting E told visit program tops) n i.kind) (λ xs. goes_items n items (xs ++ tops))

  pub goes_program : (n : ℕ) → GoesOn (program_run E told visit program n) (program_run E told visit program (suc n))
  goes_program n = goes_items n program.program.items []

-- ---- answers

begins-answer : {A : Type 0} (r q : Run Event A) → GoesOn r q → Begins (answer r).0 (answer q).0
begins-answer (Done es a) q g = ([], append-nil es ∙ sym (ap (λ (p : Run Event _). (answer p).0) g))
begins-answer (Stop es (Ended ending.More)) (Done fs a) g = g
begins-answer (Stop es (Ended ending.More)) (Stop fs end) g = g
begins-answer (Stop es (Ended (ending.Exit status))) q g = ([], append-nil es ∙ sym (ap (λ (p : Run Event _). (answer p).0) g))
begins-answer (Stop es Stuck) q g = ([], append-nil es ∙ sym (ap (λ (p : Run Event _). (answer p).0) g))

exits-answer : {A : Type 0} (r q : Run Event A) → GoesOn r q → (status : ℕ) → (answer r).1 ≡ Ended (ending.Exit status) → answer q ≡ answer r
exits-answer (Done es a) q g status e = ap answer g
exits-answer (Stop es (Ended ending.More)) q g status e = cc
exits-answer (Stop es (Ended (ending.Exit k))) q g status e = ap answer g
exits-answer (Stop es Stuck) q g status e = ap answer g

begins-trans : {A : Type 0} (xs ys zs : List A) → Begins xs ys → Begins ys zs → Begins xs zs
begins-trans xs ys zs (us, e) (vs, f) = (us ++ vs, sym (append_assoc xs us vs) ∙ ap (λ l. l ++ vs) e ∙ f)

begins-later : (s : Scoped) (n k : ℕ) → Begins (eval n s).0 (eval (k + n) s).0
begins-later s n zero = subst (λ m. Begins (eval n s).0 (eval m s).0) (omega arith) (begins-same (eval n s).0)
begins-later s n (suc k) =
    let more : suc (k + n) ≡ suc k + n = omega arith in
    subst (λ m. Begins (eval n s).0 (eval m s).0) more
    (begins-trans _ _ _ (begins-later s n k) (begins-answer _ _ (goes_program Event (λ e. e ∷ []) [] s (k + n))))

-- the trace at less fuel begins the trace at more
pub traces_begin : (s : Scoped) (n m : ℕ) → n ≤ m → Begins (eval n s).0 (eval m s).0
traces_begin s n m le =
    let at : m - n + n ≡ m = omega arith in subst (λ k. Begins (eval n s).0 (eval k s).0) at (begins-later s n (m - n))

exits-later : (s : Scoped) (n k status : ℕ) → (eval n s).1 ≡ Ended (ending.Exit status) → eval (k + n) s ≡ eval n s
exits-later s n zero status e = ap (λ m. eval m s) (omega arith)
exits-later s n (suc k) status e =
    let more : suc k + n ≡ suc (k + n) = omega arith in
    let before : eval (k + n) s ≡ eval n s = exits-later s n k status e in
    ap (λ m. eval m s) more
    ∙ exits-answer _ _ (goes_program Event (λ e. e ∷ []) [] s (k + n)) status (ap (λ a. a.1) before ∙ e)
    ∙ before

-- an exit stays at every greater number
pub exits_stay : (s : Scoped) (n m status : ℕ) → n ≤ m → (eval n s).1 ≡ Ended (ending.Exit status) → eval m s ≡ eval n s
exits_stay s n m status le e =
    let at : m ≡ m - n + n = omega arith in ap (λ k. eval k s) at ∙ exits-later s n (m - n) status e
