-- The walk of a type that finds its variables in the order of first use.
use Rattle.std.proofs.Common.{◌≡◌, ℕ, ◌+◌, ◌-◌, ◌<◌, Bool, true, false, cond, nat_eq, List, [], ◌∷◌, ◌++◌, length, take, reverse, get_or, Option, Some, None, refl, sym, ap, ◌∙◌, subst, arith}
use Rattle.std.specs.Option.{is_some}
use Rattle.std.proofs.lemmas.List.{reverse-append, reverse-reverse, append-nil, append_assoc, take_more, length-reverse, get_or-reverse}
use Rattle.ml_types.specs.declared.node.TyId.{TyId}
use Rattle.ml_types.specs.declared.node.TyNode.{TyNode}
use Rattle.ml_types.specs.declared.node.TyNode.TheVariants.{Var, Con, Tuple, Arrow}
use Rattle.ml_types.specs.Types.{Head, head_of, parts_of, Tree, Leaf, Node, Trees, Nil, Cons}
use Rattle.hm_unify.specs.Solutions.{Bound, node_at, Ends, Stands, variable, built, StandAll, none, more}
use Rattle.hm_unify.specs.States.{IsHead}
use Rattle.hm_unify.proofs.Ends.{Ends-unique}
use Rattle.hm_terms.specs.Stores.{Store, state}
use Rattle.hm_infer.specs.Tables.{is_in, with_number, uses_behind, all_uses_behind, variables, HasSeen, with_own, Visits}

-- ---- the variables that came up

swapped : (a b c : Bool) → cond a true (cond b true c) ≡ cond b true (cond a true c)
swapped true true c = refl
swapped true false c = refl
swapped false true c = refl
swapped false false c = refl

is_in_last : (ms : List ℕ) (k n : ℕ) → is_in (ms ++ k ∷ []) n ≡ cond (nat_eq k n) true (is_in ms n)
is_in_last [] k n = refl
is_in_last (m ∷ ms) k n = ap (cond (nat_eq m n) true) (is_in_last ms k n) ∙ swapped (nat_eq m n) (nat_eq k n) (is_in ms n)

-- a variable that came up before
pub note_old : (seen : ℕ → Option Bool) (vars : List ℕ) (k : ℕ) → is_some (seen k) ≡ true → HasSeen seen vars → (vars ≡ with_number vars k) × HasSeen seen vars
note_old seen vars k there h = (sym (ap (λ b. cond b vars (vars ++ k ∷ [])) (sym (h k) ∙ there)), h)

some_by : (b : Bool) (o : Option Bool) → is_some (cond b (Some true) o) ≡ cond b true (is_some o)
some_by true o = refl
some_by false o = refl

-- a variable that comes up first
pub note_new : (seen later : ℕ → Option Bool) (vars longer : List ℕ) (k : ℕ) → is_some (seen k) ≡ false → ((q : ℕ) → later q ≡ cond (nat_eq k q) (Some true) (seen q)) → longer ≡ vars ++ k ∷ [] → HasSeen seen vars → (longer ≡ with_number vars k) × HasSeen later longer
note_new seen later vars longer k absent update pushed h = (
  pushed ∙ sym (ap (λ b. cond b vars (vars ++ k ∷ [])) (sym (h k) ∙ absent)),
  λ n. ap is_some (update n) ∙ some_by (nat_eq k n) (seen n) ∙ ap (cond (nat_eq k n) true) (h n) ∙ sym (is_in_last vars k n) ∙ ap (λ vs. is_in vs n) (sym pushed),
)

-- ---- a node

pub visits_variable : (node : TyNode) (vars longer : List ℕ) (stack : List TyId) (k : ℕ) → node ≡ Var k → longer ≡ with_number vars k → Visits node vars longer stack stack
visits_variable node vars longer stack k is e = record {
  used = e ∙ ap (with_own vars) (sym is);
  next = sym (append-nil stack) ∙ ap (λ n. stack ++ reverse (parts_of n)) (sym is);
}

pub visits_parts : (node other : TyNode) (vars : List ℕ) (stack deeper parts : List TyId) → node ≡ other → with_own vars other ≡ vars → parts_of other ≡ parts → deeper ≡ stack ++ reverse parts → Visits node vars vars stack deeper
visits_parts node other vars stack deeper parts is own theirs pushed = record {
  used = sym own ∙ ap (with_own vars) (sym is);
  next = pushed ∙ ap (λ ps. stack ++ reverse ps) (sym theirs) ∙ ap (λ n. stack ++ reverse (parts_of n)) (sym is);
}

-- ---- the types of the stack

stands_variable : (nodes : List TyNode) (bound : Bound) (x e : TyId) (n : ℕ) (w : Tree) → Stands nodes bound x w → Ends nodes bound x e → node_at nodes e ≡ Some (Var n) → w ≡ Leaf n
stands_variable nodes bound x e n w (variable y f k ends at) h p =
    let same : f ≡ e = Ends-unique nodes bound y f e ends h in
    let both : Some (Var k) ≡ Some (Var n) = sym at ∙ ap (node_at nodes) same ∙ p in
    let number : k ≡ n = cc in
    ap Leaf number
stands_variable nodes bound x e n w (built y f m j ts ends at head all) h p =
    let same : f ≡ e = Ends-unique nodes bound y f e ends h in
    let both : Some m ≡ Some (Var n) = sym at ∙ ap (node_at nodes) same ∙ p in
    let node : m ≡ Var n = cc in
    let no : Some j ≡ None = sym head ∙ ap head_of node in
    absurd cc

stands_built : (nodes : List TyNode) (bound : Bound) (x e : TyId) (m : TyNode) (h : Head) (w : Tree) → Stands nodes bound x w → Ends nodes bound x e → node_at nodes e ≡ Some m → head_of m ≡ Some h → (ts : Trees) × StandAll nodes bound (parts_of m) ts × (w ≡ Node h ts)
stands_built nodes bound x e m h w (variable y f i ends at) other p q =
    let same : f ≡ e = Ends-unique nodes bound y f e ends other in
    let both : Some (Var i) ≡ Some m = sym at ∙ ap (node_at nodes) same ∙ p in
    let node : Var i ≡ m = cc in
    let no : None ≡ Some h = ap head_of node ∙ q in
    absurd cc
stands_built nodes bound x e m h w (built y f k j ts ends at head all) other p q =
    let same : f ≡ e = Ends-unique nodes bound y f e ends other in
    let both : Some k ≡ Some m = sym at ∙ ap (node_at nodes) same ∙ p in
    let node : k ≡ m = cc in
    let heads : Some j ≡ Some h = sym head ∙ ap head_of node ∙ q in
    let one : j ≡ h = cc in
    (ts, subst (λ v. StandAll nodes bound (parts_of v) ts) node all, ap (λ v. Node v ts) one)

stand_first : (nodes : List TyNode) (bound : Bound) (zs : List TyId) (ts : Trees) (x : TyId) (xs : List TyId) → StandAll nodes bound zs ts → zs ≡ x ∷ xs → (t : Tree) × (us : Trees) × Stands nodes bound x t × StandAll nodes bound xs us × (ts ≡ Cons t us)
stand_first nodes bound zs ts x xs none e = absurd cc
stand_first nodes bound zs ts x xs (more y ys t us s all) e =
    let head : y ≡ x = cc in
    let tail : ys ≡ xs = cc in
    (t, us, subst (λ v. Stands nodes bound v t) head s, subst (λ v. StandAll nodes bound v us) tail all, refl)

stand_none : (nodes : List TyNode) (bound : Bound) (zs : List TyId) (ts : Trees) → StandAll nodes bound zs ts → zs ≡ [] → ts ≡ Nil
stand_none nodes bound zs ts none e = refl
stand_none nodes bound zs ts (more y ys t us s all) e = absurd cc

followed : Trees → Trees → Trees
followed Nil us = us
followed (Cons t ts) us = Cons t (followed ts us)

stand_followed : (nodes : List TyNode) (bound : Bound) (xs ys : List TyId) (ts us : Trees) → StandAll nodes bound xs ts → StandAll nodes bound ys us → StandAll nodes bound (xs ++ ys) (followed ts us)
unfolding followed
stand_followed nodes bound xs ys ts us none k = k
stand_followed nodes bound xs ys ts us (more x zs t vs s all) k = more x (zs ++ ys) t (followed vs us) s (stand_followed nodes bound zs ys vs us all k)

uses_followed : (seen : List ℕ) (ts us : Trees) → all_uses_behind seen (followed ts us) ≡ all_uses_behind (all_uses_behind seen ts) us
unfolding followed
uses_followed seen Nil us = refl
uses_followed seen (Cons t ts) us = uses_followed (uses_behind seen t) ts us

-- ---- the walk

-- behind the variables so far, the types on the stack use the rest of those of the whole
abbrev pub IsWalking : Store → TyId → List ℕ → List TyId → Type 0
IsWalking s root vars stack = (w : Tree) → Stands s.nodes s.bound root w → (ts : Trees) × StandAll s.nodes s.bound (reverse stack) ts × (all_uses_behind vars ts ≡ variables w)

pub walking_first : (s : Store) (root : TyId) (vars : List ℕ) (stack : List TyId) → vars ≡ [] → stack ≡ root ∷ [] → IsWalking s root vars stack
walking_first s root vars stack e f = λ w k. (
  Cons w Nil,
  subst (λ xs. StandAll s.nodes s.bound (reverse xs) (Cons w Nil)) (sym f) (more root [] w Nil k none),
  ap (λ vs. uses_behind vs w) e,
)

pub walking_last : (s : Store) (root : TyId) (vars : List ℕ) (stack : List TyId) → IsWalking s root vars stack → stack ≡ [] → (w : Tree) → Stands s.nodes s.bound root w → vars ≡ variables w
walking_last s root vars stack k empty w stands =
    let rest = k w stands in
    let nil : rest.0 ≡ Nil = stand_none s.nodes s.bound (reverse stack) rest.0 rest.1 (ap reverse empty) in
    ap (all_uses_behind vars) (sym nil) ∙ rest.2

-- what is left behind the node on top
abbrev Left : Store → List ℕ → TyId → List TyId → Tree → Type 0
Left s vars id rest w = (t : Tree) × (us : Trees) × Stands s.nodes s.bound id t × StandAll s.nodes s.bound (reverse rest) us × (all_uses_behind (uses_behind vars t) us ≡ variables w)

left_of : (s : Store) (root : TyId) (vars : List ℕ) (stack rest : List TyId) (id : TyId) → IsWalking s root vars stack → stack ≡ rest ++ id ∷ [] → (w : Tree) → Stands s.nodes s.bound root w → Left s vars id rest w
left_of s root vars stack rest id k popped w stands =
    let all = k w stands in
    let order : reverse stack ≡ id ∷ reverse rest = ap reverse popped ∙ reverse-append rest (id ∷ []) in
    let split = stand_first s.nodes s.bound (reverse stack) all.0 id (reverse rest) all.1 order in
    (split.0, split.1, split.2, split.3, ap (all_uses_behind vars) (sym split.4) ∙ all.2)

next_variable : (s : Store) (root : TyId) (vars : List ℕ) (id : TyId) (rest : List TyId) (n : ℕ) (w : Tree) → IsHead (state s) id (Var n) → Left s vars id rest w → (ts : Trees) × StandAll s.nodes s.bound (reverse rest) ts × (all_uses_behind (with_number vars n) ts ≡ variables w)
next_variable s root vars id rest n w head k =
    let leaf : k.0 ≡ Leaf n = stands_variable s.nodes s.bound id head.0 n k.0 k.2 head.1 head.2 in
    (k.1, k.3, ap (λ t. all_uses_behind (uses_behind vars t) k.1) (sym leaf) ∙ k.4)

next_parts : (s : Store) (root : TyId) (vars : List ℕ) (id : TyId) (rest : List TyId) (node : TyNode) (h : Head) (w : Tree) → head_of node ≡ Some h → IsHead (state s) id node → Left s vars id rest w → (ts : Trees) × StandAll s.nodes s.bound (reverse (rest ++ reverse (parts_of node))) ts × (all_uses_behind vars ts ≡ variables w)
next_parts s root vars id rest node h w has head k =
    let made = stands_built s.nodes s.bound id head.0 node h k.0 k.2 head.1 head.2 has in
    let order : reverse (rest ++ reverse (parts_of node)) ≡ parts_of node ++ reverse rest = reverse-append rest (reverse (parts_of node)) ∙ ap (λ ps. ps ++ reverse rest) (reverse-reverse (parts_of node)) in (
      followed made.0 k.1,
      subst (λ xs. StandAll s.nodes s.bound xs (followed made.0 k.1)) (sym order) (stand_followed s.nodes s.bound (parts_of node) (reverse rest) made.0 k.1 made.1 k.3),
      uses_followed vars made.0 k.1 ∙ ap (λ t. all_uses_behind (uses_behind vars t) k.1) (sym made.2) ∙ k.4,
    )

next_by : (s : Store) (root : TyId) (vars : List ℕ) (id : TyId) (rest : List TyId) (node : TyNode) (w : Tree) → IsHead (state s) id node → Left s vars id rest w → (ts : Trees) × StandAll s.nodes s.bound (reverse (rest ++ reverse (parts_of node))) ts × (all_uses_behind (with_own vars node) ts ≡ variables w)
next_by s root vars id rest (Var n) w head k =
    let same = next_variable s root vars id rest n w head k in
    (same.0, subst (λ xs. StandAll s.nodes s.bound (reverse xs) same.0) (sym (append-nil rest)) same.1, same.2)
next_by s root vars id rest (Con d args) w head k = next_parts s root vars id rest (Con d args) _ w refl head k
next_by s root vars id rest (Tuple parts) w head k = next_parts s root vars id rest (Tuple parts) _ w refl head k
next_by s root vars id rest (Arrow slot from to) w head k = next_parts s root vars id rest (Arrow slot from to) _ w refl head k

pub walking_next : (s : Store) (root : TyId) (vars longer : List ℕ) (stack rest deeper : List TyId) (id : TyId) (node : TyNode) → IsWalking s root vars stack → stack ≡ rest ++ id ∷ [] → IsHead (state s) id node → Visits node vars longer rest deeper → IsWalking s root longer deeper
walking_next s root vars longer stack rest deeper id node k popped head v = λ w stands.
    let next = next_by s root vars id rest node w head (left_of s root vars stack rest id k popped w stands) in
    (next.0, subst (λ xs. StandAll s.nodes s.bound (reverse xs) next.0) (sym v.next) next.1, ap (λ vs. all_uses_behind vs next.0) v.used ∙ next.2)

-- ---- pushing parts, the last first

pub pushed_next : (parts : List TyId) (stack old new : List TyId) (done : ℕ) (d : TyId) → done < length parts → old ≡ stack ++ take done (reverse parts) → new ≡ old ++ get_or parts (length parts - 1 - done) d ∷ [] → new ≡ stack ++ take (done + 1) (reverse parts)
pushed_next parts stack old new done d lt before pushed =
    let part = get_or parts (length parts - 1 - done) d in
    let within : done < length (reverse parts) = omega (arith, length-reverse parts, lt) in
    let longer : take (done + 1) (reverse parts) ≡ take done (reverse parts) ++ part ∷ [] = take_more (reverse parts) done d within ∙ ap (λ x. take done (reverse parts) ++ x ∷ []) (get_or-reverse parts done d lt) in
    pushed ∙ ap (λ xs. xs ++ part ∷ []) before ∙ append_assoc stack (take done (reverse parts)) (part ∷ []) ∙ ap (λ xs. stack ++ xs) (sym longer)
