-- The steps of an item with the slots of arrows, as loops run them.
use Rattle.std.proofs.Common.{◌≡◌, ℕ, ◌+◌, ◌<◌, ◌≤◌, List, [], ◌∷◌, ◌++◌, map, take, length, Some, get_or, refl, sym, ap, ◌∙◌, subst, append_assoc}
use Rattle.std.specs.Prelude.{Result, Ok, Err, OnOk}
use Rattle.std.specs.List.{slice_get}
use Rattle.std.proofs.lemmas.List.{append-nil, map-append}
use Rattle.std.proofs.lemmas.Option.{slice_get_read}
use Rattle.ml_types.specs.declared.node.TyId.{TyId}
use Rattle.ml_types.specs.declared.declared.DeclInfo.{DeclInfo}
use Rattle.ml_typing.specs.declared.equation.Unknown.{Unknown}
use Rattle.ml_typing.specs.declared.equation.Equation.{Equation}
use Rattle.ml_typing.specs.declared.equation.Step.{Step}
use Rattle.ml_tree.specs.declared.program.Item.{Item}
use Rattle.ml_typing.specs.Terms.{Context}
use Rattle.ml_typing.specs.Typing.{ItemSteps, behind_all}
use Rattle.hm_terms.specs.Contexts.{IsRead}
use Rattle.hm_unify.specs.Solutions.{Pairs}
use Rattle.hm_unify.specs.States.{Equated}
use Rattle.hm_unify.specs.Walks.{WalkPairs}
use Rattle.hm_terms.specs.Stores.{Store, state, Knows, IsReady, Grows, SameNames}
use Rattle.hm_terms.specs.Spelling.{Spells}
use Rattle.hm_terms.proofs.Growth.{grows_same, grows_then}
use Rattle.hm_terms.proofs.Spelling.{spells_grow}
use Rattle.hm_terms.proofs.SpellSteps.{unknown_there, take_more}
use Rattle.hm_terms.proofs.Walking.{take_all}
use Rattle.hm_infer.specs.Spelled.{SpellsPair, SpellsPairs, no_pair, pair_and, PushesSpelled, StepRuns, StepsRun, no_step, step_and, ItemRuns, ItemsRun, no_item, item_and}
use Rattle.hm_infer.specs.Running.{HasNoIds}
use Rattle.hm_infer.specs.Answers.{SomeBehind}
use Rattle.hm_infer.specs.Closing.{Leaves}
use Rattle.hm_infer.specs.declared.items.Found.{Found}

pub pair_grows : (old new : Store) → IsReady old → Grows old new → (decls : List DeclInfo) (k : ℕ) (e : Equation) (m : ℕ) (p : TyId × TyId) → SpellsPair old decls k e m p → SpellsPair new decls k e m p
pair_grows old new r g decls k e m p h = record { left = g.ids e.left p.0 h.left; right = spells_grow old new r g decls k e.right m p.1 h.right }

pub pairs_grow : (old new : Store) → IsReady old → Grows old new → (decls : List DeclInfo) (k : ℕ) (es : List Equation) (m : ℕ) (ps : Pairs) → SpellsPairs old decls k es m ps → SpellsPairs new decls k es m ps
pairs_grow old new r g decls k es m ps (no_pair i) = no_pair i
pairs_grow old new r g decls k es m ps (pair_and i j l e fs p qs one all) =
    pair_and i j l e fs p qs (pair_grows old new r g decls i e j p one) (pairs_grow old new r g decls j fs l qs all)

pairs_push : (s : Store) (decls : List DeclInfo) (k : ℕ) (es : List Equation) (m : ℕ) (ps : Pairs) (e : Equation) (n : ℕ) (p : TyId × TyId) → SpellsPairs s decls k es m ps → SpellsPair s decls m e n p → SpellsPairs s decls k (es ++ e ∷ []) n (ps ++ p ∷ [])
pairs_push s decls k es m ps e n p (no_pair i) one = pair_and i n n e [] p [] one (no_pair n)
pairs_push s decls k es m ps e n p (pair_and i j l f fs q qs first all) one =
    pair_and i j n f (fs ++ e ∷ []) q (qs ++ p ∷ []) first (pairs_push s decls j fs l qs e n p all one)

-- the two types of an equation
pub pair_spells : (old mid new : Store) (decls : List DeclInfo) (k l m : ℕ) (e : Equation) (x y : TyId) → IsReady old → Knows old mid e.left x → l ≡ k → (IsReady mid → Grows mid new × Spells new decls l e.right m y) → Grows old new × SpellsPair new decls k e m (x, y)
pair_spells old mid new decls k l m e x y r knows same makes =
    let left = unknown_there old mid e.left x knows in
    let right = makes (left.0.ready r) in
    (grows_then old mid new left.0 right.0, record { left = right.0.ids e.left x left.1; right = subst (λ (i : ℕ). Spells new decls i e.right m y) same right.1 })

-- no equation yet
pub spelled_none : (s : Store) (decls : List DeclInfo) (k : ℕ) (before : Pairs) → PushesSpelled s s decls k [] k before before
spelled_none s decls k before = record { grows = grows_same s; pairs = []; pushed = sym (append-nil before); spelled = no_pair k }

-- one equation more
pub spelled_next : (first old new : Store) (decls : List DeclInfo) (k m n : ℕ) (es : List Equation) (i : ℕ) (e : Equation) (p : TyId × TyId) (before ids more : Pairs) → i < length es → e ≡ get_or es i e → IsReady first → PushesSpelled first old decls k (take i es) m before ids → (IsReady old → Grows old new × SpellsPair new decls m e n p) → more ≡ ids ++ p ∷ [] → PushesSpelled first new decls k (take (i + 1) es) n before more
spelled_next first old new decls k m n es i e p before ids more lt is r h makes grown =
    let ready = h.grows.ready r in
    let one = makes ready in
    let all = pairs_push new decls k (take i es) m h.pairs e n p (pairs_grow old new ready one.0 decls k (take i es) m h.pairs h.spelled) one.1 in
    record {
      grows = grows_then first old new h.grows one.0;
      pairs = h.pairs ++ p ∷ [];
      pushed = grown ∙ ap (λ (qs : Pairs). qs ++ p ∷ []) h.pushed ∙ append_assoc before h.pairs (p ∷ []);
      spelled = subst (λ (fs : List Equation). SpellsPairs new decls k fs n (h.pairs ++ p ∷ [])) (sym (take_more es i e (slice_get_read es (length es) i e refl lt is))) all;
    }

-- all equations
pub spelled_all : (first old : Store) (decls : List DeclInfo) (k m : ℕ) (es : List Equation) (i : ℕ) (before ids : Pairs) → length es ≤ i → PushesSpelled first old decls k (take i es) m before ids → PushesSpelled first old decls k es m before ids
spelled_all first old decls k m es i before ids h l =
    subst (λ (fs : List Equation). PushesSpelled first old decls k fs m before ids) (take_all es i h) l

-- the pairs of a step, from none
pub step_spelled : (old mid new : Store) (decls : List DeclInfo) (k l m : ℕ) (slice es : List Equation) (none ids : Pairs) → IsReady old → Grows old mid → l ≡ k → (IsReady mid → PushesSpelled mid new decls l slice m none ids) → slice ≡ es → none ≡ [] → Grows old new × SpellsPairs new decls k es m ids
step_spelled old mid new decls k l m slice es none ids r g slots makes same empty =
    let h = makes (g.ready r) in
    let at_ids : ids ≡ h.pairs = h.pushed ∙ ap (λ (ps : Pairs). ps ++ h.pairs) empty in
    let at_k : SpellsPairs new decls k slice m h.pairs = subst (λ (i : ℕ). SpellsPairs new decls i slice m h.pairs) slots h.spelled in
    let at_es : SpellsPairs new decls k es m h.pairs = subst (λ (fs : List Equation). SpellsPairs new decls k fs m h.pairs) same at_k in
    (grows_then old mid new g h.grows, subst (λ (ps : Pairs). SpellsPairs new decls k es m ps) (sym at_ids) at_es)

-- a step that holds
pub step_runs : (old mid new : Store) (decls : List DeclInfo) (k m n : ℕ) (step : Step) (pairs slice : Pairs) → IsReady old → (IsReady old → Grows old mid × SpellsPairs mid decls k step.equations m pairs) → slice ≡ pairs → Equated (state mid) (state new) slice → ((u : Unknown) → new.ids u ≡ mid.ids u) → SameNames mid new → n ≡ m → StepRuns decls old k step new n
step_runs old mid new decls k m n step pairs slice r makes same equated ids names slots =
    let h = makes r in
    record {
      middle = mid;
      grows = h.0;
      pairs = pairs;
      spelled = subst (λ (i : ℕ). SpellsPairs mid decls k step.equations i pairs) (sym slots) h.1;
      walked = subst (λ (ps : Pairs). WalkPairs mid.nodes mid.bound ps new.bound) same equated.walk;
      nodes = equated.nodes;
      ids = ids;
      names = names;
    }

runs_push : (decls : List DeclInfo) (s : Store) (k : ℕ) (ss : List Step) (a : Store) (m : ℕ) (step : Step) (b : Store) (n : ℕ) → StepsRun decls s k ss a m → StepRuns decls a m step b n → StepsRun decls s k (ss ++ step ∷ []) b n
runs_push decls s k ss a m step b n (no_step t i) one = step_and t b b i n n step [] one (no_step b n)
runs_push decls s k ss a m step b n (step_and t c d i j l other others first all) one =
    step_and t c b i j n other (others ++ step ∷ []) first (runs_push decls c j others d l step b n all one)

-- one step more
pub runs_next : (decls : List DeclInfo) (first old new : Store) (k m n : ℕ) (steps : List Step) (i : ℕ) (step : Step) → slice_get steps i ≡ Some step → StepsRun decls first k (take i steps) old m → StepRuns decls old m step new n → StepsRun decls first k (take (i + 1) steps) new n
runs_next decls first old new k m n steps i step at h one =
    subst (λ (ss : List Step). StepsRun decls first k ss new n) (sym (take_more steps i step at)) (runs_push decls first k (take i steps) old m step new n h one)

pub runs_all : (decls : List DeclInfo) (first old : Store) (k m : ℕ) (steps : List Step) (i : ℕ) → length steps ≤ i → StepsRun decls first k (take i steps) old m → StepsRun decls first k steps old m
runs_all decls first old k m steps i h l = subst (λ (ss : List Step). StepsRun decls first k ss old m) (take_all steps i h) l

-- steps that were found to hold
pub runs_to : (decls : List DeclInfo) (first old new : Store) (k m n : ℕ) (steps : List Step) → new ≡ old → n ≡ m → StepsRun decls first k steps old m → StepsRun decls first k steps new n
runs_to decls first old new k m n steps same slots h =
    subst (λ (i : ℕ). StepsRun decls first k steps new i) (sym slots) (subst (λ (s : Store). StepsRun decls first k steps s m) (sym same) h)

-- an item that is left
pub item_runs : (decls : List DeclInfo) (old mid new : Store) (k m n : ℕ) (item : ItemSteps) (steps others : List Step) (binders : List ℕ) (found more : Found) → steps ≡ item.steps → binders ≡ item.binders → n ≡ m → StepsRun decls old k steps mid m → Leaves mid new others binders found more → ItemRuns decls old k item new n
item_runs decls old mid new k m n item steps others binders found more is names slots h leaves =
    let l = subst (λ (bs : List ℕ). Leaves mid new others bs found more) names leaves in
    record {
      behind_steps = mid;
      closed = l.closed;
      runs = subst (λ (i : ℕ). StepsRun decls old k item.steps mid i) (sym slots) (subst (λ (ss : List Step). StepsRun decls old k ss mid m) is h);
      closes = l.closes;
      forgets = l.forgets;
    }

-- both, where each is ensured
pub on_ok_both : {A E : Type 0} (r : Result A E) (P Q : Type 0) → OnOk r P → OnOk r Q → OnOk r (P × Q)
on_ok_both (Ok x) P Q p q = (p, q)
on_ok_both (Err e) P Q p q = p

items_push : (decls : List DeclInfo) (s : Store) (k : ℕ) (is : List ItemSteps) (a : Store) (m : ℕ) (item : ItemSteps) (b : Store) (n : ℕ) → ItemsRun decls s k is a m → ItemRuns decls a m item b n → ItemsRun decls s k (is ++ item ∷ []) b n
items_push decls s k is a m item b n (no_item t i) one = item_and t b b i n n item [] one (no_item b n)
items_push decls s k is a m item b n (item_and t c d i j l other others first all) one =
    item_and t c b i j n other (others ++ item ∷ []) first (items_push decls c j others d l item b n all one)

-- one item more
pub items_next : (f : Item → ItemSteps) (decls : List DeclInfo) (c : Context) (first old new : Store) (k m n : ℕ) (items : List Item) (i : ℕ) (item : Item) (found : Found) → slice_get items i ≡ Some item → ItemsRun decls first k (map f (take i items)) old m → SomeBehind old decls c (map f (take i items)) found → ((e : Context) → IsRead old decls e → HasNoIds old → ItemRuns decls old m (f item) new n) → ItemsRun decls first k (map f (take (i + 1) items)) new n
items_next f decls c first old new k m n items i item found at h behind runs =
    let one = runs (behind_all c behind.0 (map f (take i items))) behind.1.read behind.1.forgotten in
    let same : map f (take (i + 1) items) ≡ map f (take i items) ++ f item ∷ [] = ap (map f) (take_more items i item at) ∙ map-append f (take i items) (item ∷ []) in
    subst (λ (is : List ItemSteps). ItemsRun decls first k is new n) (sym same) (items_push decls first k (map f (take i items)) old m (f item) new n h one)

pub items_all : (f : Item → ItemSteps) (decls : List DeclInfo) (first old : Store) (k m : ℕ) (items others : List Item) (i : ℕ) → length items ≤ i → items ≡ others → ItemsRun decls first k (map f (take i items)) old m → ItemsRun decls first k (map f others) old m
items_all f decls first old k m items others i h same l =
    subst (λ (is : List Item). ItemsRun decls first k (map f is) old m) same (subst (λ (is : List Item). ItemsRun decls first k (map f is) old m) (take_all items i h) l)
