-- Open nodes in groups, after each step of a walk.
use Rattle.std.proofs.Common.{◌≡◌, ℕ, zero, suc, ◌+◌, ◌-◌, ◌<◌, ◌≤◌, ◌⊎◌, inl, inr, List, [], ◌∷◌, ◌++◌, length, take, drop, Some, true, Bool, slice_get, slice_set, refl, subst, arith}
use Rattle.std.proofs.lemmas.Option.{slice_get_within}
use Rattle.std.proofs.lemmas.Bool.{cases_lt}
use Rattle.graph_cycles.specs.Paths.{Edge, Path, by_edge}
use Rattle.graph_cycles.specs.Groups.{Rise, Together, IsGrouped, NoneBehind, IsInLast, IsLastBegin, IsMerged, Sound, AllCyclic}
use Rattle.graph_cycles.proofs.Lists.{pushed, taken, within_taken, dropped, written, same_item, item_at}
use Rattle.graph_cycles.proofs.Paths.{joined}

-- three orders of two numbers
data Order (i j : ℕ) : Type 0 where
  below : i < j → Order i j
  equal : i ≡ j → Order i j
  above : j < i → Order i j

order : (i j : ℕ) → Order i j
order i j = elim (cases_lt i j) [ inl h ↦ below h | inr h ↦ elim (cases_lt j i) [ inl q ↦ above q | inr q ↦ equal (omega arith) ] ]

-- no group begins between a place of the last group and one behind it
none_between : (begins : List ℕ) (p j : ℕ) → NoneBehind begins p → Together begins p j
none_between begins p j last k s e h q = let n : s ≤ p = last k s e in omega arith

-- each open node is a node of the last group or leads to it
pub leads_to_last : {graph : List (List ℕ)} → (nodes begins : List ℕ) (from place i a : ℕ) → IsGrouped graph nodes begins → IsInLast nodes begins from place → slice_get nodes i ≡ Some a → (a ≡ from) ⊎ Path graph a from
leads_to_last {graph = graph} nodes begins from place i a g l e = by_order (order i place)
  where
    by_order : Order i place → (a ≡ from) ⊎ Path graph a from
    by_order (below h) = inr (g.along i place a from h e l.stands)
    by_order (equal h) = let q : slice_get nodes i ≡ Some from = rw h l.stands in inl (same_item nodes a from i e q)
    by_order (above h) = inr (g.back place i from a h l.stands e (none_between begins place i l.last))

-- and so it leads where an edge from that node leads
pub leads_on : {graph : List (List ℕ)} → (nodes begins : List ℕ) (from to place i a : ℕ) → IsGrouped graph nodes begins → IsInLast nodes begins from place → Edge graph from to → slice_get nodes i ≡ Some a → Path graph a to
leads_on {graph = graph} nodes begins from to place i a g l edge e = by_cases (leads_to_last nodes begins from place i a g l e)
  where
    by_cases : (a ≡ from) ⊎ Path graph a from → Path graph a to
    by_cases (inl h) = rw h (by_edge from to edge)
    by_cases (inr p) = joined a from to p (by_edge from to edge)

rise_pushed : (begins : List ℕ) (n : ℕ) → Rise begins → NoneBehind begins n → Rise (begins ++ n ∷ [])
rise_pushed begins n r last i j s t h p q = by_cases (pushed begins n s i p) (pushed begins n t j q)
  where
    by_cases : (slice_get begins i ≡ Some s) ⊎ ((i ≡ length begins) × (s ≡ n)) → (slice_get begins j ≡ Some t) ⊎ ((j ≡ length begins) × (t ≡ n)) → s ≤ t
    by_cases (inl a) (inl b) = r i j s t h a b
    by_cases (inl a) (inr b) = let u : s ≤ n = last i s a in omega arith
    by_cases (inr a) (inl b) = let u : j < length begins = slice_get_within begins j t b in absurd (omega arith)
    by_cases (inr a) (inr b) = omega arith

-- a node is met by an edge from a node of the last group
pub grouped_enter : {graph : List (List ℕ)} → (nodes begins : List ℕ) (from to place : ℕ) → IsGrouped graph nodes begins → IsInLast nodes begins from place → Edge graph from to → IsGrouped graph (nodes ++ to ∷ []) (begins ++ length nodes ∷ [])
grouped_enter {graph = graph} nodes begins from to place g l edge = record { along = along'; back = back'; rise = rise_pushed begins (length nodes) g.rise few }
  where
    place_within : place < length nodes
    place_within = slice_get_within nodes place from l.stands

    few : NoneBehind begins (length nodes)
    few k s e = let n : s ≤ place = l.last k s e in omega (arith, place_within)

    still : (i j : ℕ) → Together (begins ++ length nodes ∷ []) i j → Together begins i j
    still i j t k s e = t k s (left begins k s e)
      where
        left : (xs : List ℕ) (k s : ℕ) → slice_get xs k ≡ Some s → slice_get (xs ++ length nodes ∷ []) k ≡ Some s
        left [] k s e = absurd cc
        left (x ∷ xs) zero s e = e
        left (x ∷ xs) (suc k) s e = left xs k s e

    at_end : (xs : List ℕ) (n : ℕ) → slice_get (xs ++ n ∷ []) (length xs) ≡ Some n
    at_end [] n = refl
    at_end (x ∷ xs) n = at_end xs n

    along' : (i j a b : ℕ) → i < j → slice_get (nodes ++ to ∷ []) i ≡ Some a → slice_get (nodes ++ to ∷ []) j ≡ Some b → Path graph a b
    along' i j a b h p q = by_cases (pushed nodes to a i p) (pushed nodes to b j q)
      where
        by_cases : (slice_get nodes i ≡ Some a) ⊎ ((i ≡ length nodes) × (a ≡ to)) → (slice_get nodes j ≡ Some b) ⊎ ((j ≡ length nodes) × (b ≡ to)) → Path graph a b
        by_cases (inl u) (inl v) = g.along i j a b h u v
        by_cases (inl u) (inr v) = rw v.1 (leads_on nodes begins from to place i a g l edge u)
        by_cases (inr u) (inl v) = let n : j < length nodes = slice_get_within nodes j b v in absurd (omega arith)
        by_cases (inr u) (inr v) = absurd (omega arith)

    back' : (i j a b : ℕ) → i < j → slice_get (nodes ++ to ∷ []) i ≡ Some a → slice_get (nodes ++ to ∷ []) j ≡ Some b → Together (begins ++ length nodes ∷ []) i j → Path graph b a
    back' i j a b h p q t = by_cases (pushed nodes to a i p) (pushed nodes to b j q)
      where
        by_cases : (slice_get nodes i ≡ Some a) ⊎ ((i ≡ length nodes) × (a ≡ to)) → (slice_get nodes j ≡ Some b) ⊎ ((j ≡ length nodes) × (b ≡ to)) → Path graph b a
        by_cases (inl u) (inl v) = g.back i j a b h u v (still i j t)
        by_cases (inl u) (inr v) = absurd (t (length begins) (length nodes) (at_end begins (length nodes)) (omega arith) (omega arith))
        by_cases (inr u) (inl v) = let n : j < length nodes = slice_get_within nodes j b v in absurd (omega arith)
        by_cases (inr u) (inr v) = absurd (omega arith)

-- the first node of a walk
pub grouped_first : (graph : List (List ℕ)) (node : ℕ) → IsGrouped graph (node ∷ []) (0 ∷ [])
grouped_first graph node = record { along = λ i j a b h p q. absurd (past j b h q); back = λ i j a b h p q t. absurd (past j b h q); rise = λ i j s t h p q. absurd (past_begin j t h q) }
  where
    past : {i : ℕ} → (j b : ℕ) → i < j → slice_get (node ∷ []) j ≡ Some b → ⊥
    past zero b h q = omega arith
    past (suc j) b h q = cc

    past_begin : {i : ℕ} → (j b : ℕ) → i < j → slice_get (0 ∷ []) j ≡ Some b → ⊥
    past_begin zero b h q = omega arith
    past_begin (suc j) b h q = cc

-- the last groups become one with that of the node at a place, to which an edge from the last leads
pub grouped_merge : {graph : List (List ℕ)} → (nodes before after : List ℕ) (from to place other : ℕ) → IsGrouped graph nodes before → IsInLast nodes before from place → Edge graph from to → slice_get nodes other ≡ Some to → IsMerged before after other → IsGrouped graph nodes after
grouped_merge {graph = graph} nodes before after from to place other g l edge stands m = record { along = g.along; back = back'; rise = rise' }
  where
    rise' : Rise after
    rise' i j s t h p q = g.rise i j s t h (m.kept i s p) (m.kept j t q)

    -- where the second place is not behind `other`, no begin between them was dropped
    near : (i j : ℕ) → j ≤ other → Together after i j → Together before i j
    near i j h t k s e p q = by_cases (m.dropped k s e)
      where
        by_cases : (slice_get after k ≡ Some s) ⊎ (other < s) → ⊥
        by_cases (inl u) = t k s u p q
        by_cases (inr u) = omega arith

    -- to a node that stands before `other` in its group, or behind it
    from_other : (i j a : ℕ) → i < j → other < j → slice_get nodes i ≡ Some a → Together after i j → (to ≡ a) ⊎ Path graph to a
    from_other i j a h o e t = by_order (order i other)
      where
        by_order : Order i other → (to ≡ a) ⊎ Path graph to a
        by_order (below u) = inr (g.back i other a to u e stands (near i other (omega arith) (λ k s x y z. t k s x y (omega arith))))
        by_order (equal u) = let q : slice_get nodes i ≡ Some to = rw u stands in inl (same_item nodes to a i q e)
        by_order (above u) = inr (g.along other i to a u stands e)

    far : (i j a b : ℕ) → i < j → other < j → slice_get nodes i ≡ Some a → slice_get nodes j ≡ Some b → Together after i j → Path graph b a
    far i j a b h o p q t = by_cases (from_other i j a h o p t)
      where
        by_cases : (to ≡ a) ⊎ Path graph to a → Path graph b a
        by_cases (inl e) = subst (λ (x : ℕ). Path graph b x) e (leads_on nodes before from to place j b g l edge q)
        by_cases (inr r) = joined b to a (leads_on nodes before from to place j b g l edge q) r

    back' : (i j a b : ℕ) → i < j → slice_get nodes i ≡ Some a → slice_get nodes j ≡ Some b → Together after i j → Path graph b a
    back' i j a b h p q t = by_cases (cases_lt other j)
      where
        by_cases : (other < j) ⊎ (j ≤ other) → Path graph b a
        by_cases (inl o) = far i j a b h o p q t
        by_cases (inr o) = g.back i j a b h p q (near i j o t)

-- one begin more is dropped
pub merged_pop : (before middle : List ℕ) (place begin : ℕ) → IsMerged before middle place → IsLastBegin middle begin → place < begin → IsMerged before (take (length middle - 1) middle) place
merged_pop before middle place begin m last h = record { kept = λ k s e. m.kept k s (taken (length middle - 1) middle s k e).1; dropped = λ k s e. from_middle k s (m.dropped k s e) }
  where
    at_end : (k s : ℕ) → slice_get middle k ≡ Some s → (k < length middle - 1) ⊎ (length middle - 1 ≤ k) → (slice_get (take (length middle - 1) middle) k ≡ Some s) ⊎ (place < s)
    at_end k s e (inl u) = inl (within_taken (length middle - 1) middle s k u e)
    at_end k s e (inr u) = let w : k < length middle = slice_get_within middle k s e in let n : s ≡ begin = last k s (omega arith) e in inr (omega arith)

    from_middle : (k s : ℕ) → (slice_get middle k ≡ Some s) ⊎ (place < s) → (slice_get (take (length middle - 1) middle) k ≡ Some s) ⊎ (place < s)
    from_middle k s (inl e) = at_end k s e (cases_lt k (length middle - 1))
    from_middle k s (inr u) = inr u

pub merged_none : (begins : List ℕ) (place : ℕ) → IsMerged begins begins place
merged_none begins place = record { kept = λ k s e. e; dropped = λ k s e. inl e }

-- the last group is let go
pub grouped_close : {graph : List (List ℕ)} → (nodes begins : List ℕ) (begin : ℕ) → IsGrouped graph nodes begins → IsLastBegin begins begin → IsGrouped graph (take begin nodes) (take (length begins - 1) begins)
grouped_close {graph = graph} nodes begins begin g last = record { along = along'; back = back'; rise = rise' }
  where
    along' : (i j a b : ℕ) → i < j → slice_get (take begin nodes) i ≡ Some a → slice_get (take begin nodes) j ≡ Some b → Path graph a b
    along' i j a b h p q = let u : (i < begin) × (slice_get nodes i ≡ Some a) = taken begin nodes a i p in let v : (j < begin) × (slice_get nodes j ≡ Some b) = taken begin nodes b j q in g.along i j a b h u.1 v.1

    still : (i j : ℕ) → j < begin → Together (take (length begins - 1) begins) i j → Together begins i j
    still i j h t k s e p q = by_cases (cases_lt k (length begins - 1))
      where
        within : k < length begins
        within = slice_get_within begins k s e

        by_cases : (k < length begins - 1) ⊎ (length begins - 1 ≤ k) → ⊥
        by_cases (inl u) = t k s (within_taken (length begins - 1) begins s k u e) p q
        by_cases (inr u) = let n : s ≡ begin = last k s (omega (arith, within)) e in omega arith

    back' : (i j a b : ℕ) → i < j → slice_get (take begin nodes) i ≡ Some a → slice_get (take begin nodes) j ≡ Some b → Together (take (length begins - 1) begins) i j → Path graph b a
    back' i j a b h p q t = let u : (i < begin) × (slice_get nodes i ≡ Some a) = taken begin nodes a i p in let v : (j < begin) × (slice_get nodes j ≡ Some b) = taken begin nodes b j q in g.back i j a b h u.1 v.1 (still i j v.0 t)

    rise' : Rise (take (length begins - 1) begins)
    rise' i j s t h p q = let u : (i < length begins - 1) × (slice_get begins i ≡ Some s) = taken (length begins - 1) begins s i p in let v : (j < length begins - 1) × (slice_get begins j ≡ Some t) = taken (length begins - 1) begins t j q in g.rise i j s t h u.1 v.1

-- the nodes of the last group lead to themselves, where there are several
pub last_group_cyclic : {graph : List (List ℕ)} → (nodes begins : List ℕ) (begin : ℕ) → IsGrouped graph nodes begins → NoneBehind begins begin → 1 < length (drop begin nodes) → AllCyclic graph (drop begin nodes)
last_group_cyclic {graph = graph} nodes begins begin g last many k v e = by_place k e
  where
    both : (i j a b : ℕ) → begin ≤ i → i < j → slice_get nodes i ≡ Some a → slice_get nodes j ≡ Some b → Path graph a b × Path graph b a
    both i j a b h o p q = (g.along i j a b o p q, g.back i j a b o p q (λ n s x y z. let w : s ≤ begin = last n s x in omega arith))

    by_place : (k : ℕ) → slice_get (drop begin nodes) k ≡ Some v → Path graph v v
    by_place zero e = let o : (b : ℕ) × (slice_get (drop begin nodes) 1 ≡ Some b) = item_at (drop begin nodes) 1 many in let r : Path graph v o.0 × Path graph o.0 v = both (begin + 0) (begin + 1) v o.0 (omega arith) (omega arith) (dropped begin nodes v 0 e) (dropped begin nodes o.0 1 o.1) in joined v o.0 v r.0 r.1
    by_place (suc k) e = let o : (b : ℕ) × (slice_get (drop begin nodes) 0 ≡ Some b) = item_at (drop begin nodes) 0 (omega arith) in let r : Path graph o.0 v × Path graph v o.0 = both (begin + 0) (begin + suc k) o.0 v (omega arith) (omega arith) (dropped begin nodes o.0 0 o.1) (dropped begin nodes v (suc k) e) in joined v o.0 v r.1 r.0

-- one mark more
pub sound_mark : {graph : List (List ℕ)} → (cyclic : List Bool) (node : ℕ) → Sound graph cyclic → Path graph node node → Sound graph (slice_set cyclic node true)
sound_mark {graph = graph} cyclic node s p v e = by_cases (written cyclic true true node v e)
  where
    by_cases : (slice_get cyclic v ≡ Some true) ⊎ ((v ≡ node) × (true ≡ true)) → Path graph v v
    by_cases (inl h) = s v h
    by_cases (inr h) = rw h.0 p
