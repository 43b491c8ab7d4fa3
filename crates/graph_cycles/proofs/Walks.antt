-- What holds of a walk after each of its steps.
use Rattle.std.proofs.Common.{◌≡◌, ℕ, ◌-◌, ◌<◌, ◌⊎◌, inl, inr, List, [], ◌∷◌, ◌++◌, length, take, drop, Some, true, false, Bool, slice_get, slice_set, subst}
use Rattle.graph_cycles.specs.declared.walk.Walk.{Walk}
use Rattle.graph_cycles.specs.Paths.{Edge, Path, by_edge}
use Rattle.graph_cycles.specs.Groups.{NoneBehind, IsInLast, IsLastBegin, IsMerged, Sound, AllCyclic}
use Rattle.graph_cycles.specs.Walks.{IsWalk}
use Rattle.graph_cycles.proofs.Lists.{pushed}
use Rattle.graph_cycles.proofs.Grouped.{grouped_enter, grouped_first, grouped_merge, grouped_close, last_group_cyclic, sound_mark}

-- a walk is as another one whose lists are the same
pub same_walk : {graph : List (List ℕ)} → (one other : Walk) → other.groups.nodes.items ≡ one.groups.nodes.items → other.groups.begins.items ≡ one.groups.begins.items → other.cyclic.items ≡ one.cyclic.items → IsWalk graph one → IsWalk graph other
same_walk one other n b c w = record { grouped = rw (n, b) w.grouped; sound = rw c w.sound }

pub walk_enter : {graph : List (List ℕ)} → (one other : Walk) (from to : ℕ) → other.groups.nodes.items ≡ one.groups.nodes.items ++ to ∷ [] → other.groups.begins.items ≡ one.groups.begins.items ++ length one.groups.nodes.items ∷ [] → other.cyclic.items ≡ one.cyclic.items → (place : ℕ) × IsInLast one.groups.nodes.items one.groups.begins.items from place → Edge graph from to → IsWalk graph one → IsWalk graph other
walk_enter one other from to n b c l edge w = record { grouped = rw (n, b) (grouped_enter _ _ from to l.0 w.grouped l.1 edge); sound = rw c w.sound }

pub walk_first : (graph : List (List ℕ)) (other : Walk) (nodes begins : List ℕ) (cyclic : List Bool) (root : ℕ) → nodes ≡ [] → begins ≡ [] → other.groups.nodes.items ≡ nodes ++ root ∷ [] → other.groups.begins.items ≡ begins ++ length nodes ∷ [] → other.cyclic.items ≡ cyclic → Sound graph cyclic → IsWalk graph other
walk_first graph other nodes begins cyclic root en eb n b c s =
    let nn : other.groups.nodes.items ≡ root ∷ [] = rw en at n in
    let bb : other.groups.begins.items ≡ 0 ∷ [] = rw (eb, en) at b in
    record { grouped = rw (nn, bb) (grouped_first graph root); sound = rw c s }

pub walk_merge : {graph : List (List ℕ)} → (one other : Walk) (from to at : ℕ) → other.groups.nodes.items ≡ one.groups.nodes.items → IsMerged one.groups.begins.items other.groups.begins.items at → other.cyclic.items ≡ one.cyclic.items → slice_get one.groups.nodes.items at ≡ Some to → (place : ℕ) × IsInLast one.groups.nodes.items one.groups.begins.items from place → Edge graph from to → IsWalk graph one → IsWalk graph other
walk_merge one other from to at n m c stands l edge w = record { grouped = rw n (grouped_merge _ _ _ from to l.0 at w.grouped l.1 edge stands m); sound = rw c w.sound }

pub walk_mark : {graph : List (List ℕ)} → (one other : Walk) (from to : ℕ) → from ≡ to → other.groups.nodes.items ≡ one.groups.nodes.items → other.groups.begins.items ≡ one.groups.begins.items → other.cyclic.items ≡ slice_set one.cyclic.items to true → Edge graph from to → IsWalk graph one → IsWalk graph other
walk_mark {graph} one other from to same n b c edge w =
    let loop : Path graph to to = subst (λ (x : ℕ). Path graph x to) same (by_edge from to edge) in
    record { grouped = rw (n, b) w.grouped; sound = rw c (sound_mark _ to w.sound loop) }

pub walk_close : {graph : List (List ℕ)} → (one other : Walk) (members : List ℕ) (cyclic : List Bool) (begin : ℕ) → members ≡ drop begin one.groups.nodes.items → (Sound graph one.cyclic.items → (1 < length members → AllCyclic graph members) → Sound graph cyclic) → other.groups.nodes.items ≡ take begin one.groups.nodes.items → other.groups.begins.items ≡ take (length one.groups.begins.items - 1) one.groups.begins.items → other.cyclic.items ≡ cyclic → IsLastBegin one.groups.begins.items begin → NoneBehind one.groups.begins.items begin → IsWalk graph one → IsWalk graph other
walk_close {graph} one other members cyclic begin e marks n b c last none w =
    let all : 1 < length members → AllCyclic graph members = rw e (last_group_cyclic _ _ begin w.grouped none) in
    record { grouped = rw (n, b) (grouped_close _ _ begin w.grouped last); sound = rw c (marks w.sound all) }

pub still_unmarked : (marks more : List Bool) → more ≡ marks ++ false ∷ [] → ((v : ℕ) → slice_get marks v ≡ Some true → ⊥) → (v : ℕ) → slice_get more v ≡ Some true → ⊥
still_unmarked marks more e h v q = by_cases (pushed marks false true v (subst (λ (x : List Bool). slice_get x v ≡ Some true) e q))
  where
    by_cases : (slice_get marks v ≡ Some true) ⊎ ((v ≡ length marks) × (true ≡ false)) → ⊥
    by_cases (inl u) = h v u
    by_cases (inr u) = let no' : true ≡ false = u.1 in cc
