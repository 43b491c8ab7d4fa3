-- Marks that pass the test are all that there can be.
use Rattle.std.proofs.Common.{◌≡◌, ◌⊎◌, inl, inr, ℕ, ◌+◌, ◌<◌, ◌≤◌, List, length, Some, true, Bool, slice_get, slice_index_or, get_or, refl, sym, subst, arith}
use Rattle.std.proofs.lemmas.Option.{slice_get_read}
use Rattle.std.proofs.lemmas.Bool.{cases_lt}
use Rattle.graph_cycles.specs.Paths.{Edge, Path, by_edge, then_on}
use Rattle.graph_cycles.specs.Groups.{Fits, Certified}
use Rattle.graph_cycles.proofs.Paths.{from_node}

-- what holds of each edge to a node holds of each path to one
pub path_fits : {graph : List (List ℕ)} → (ranks : List ℕ) (cyclic : List Bool) (a b : ℕ) → Certified graph ranks cyclic → Path graph a b → b < length graph → Fits ranks cyclic a b
path_fits ranks cyclic a b c (by_edge _ _ e) h = c a b e h
path_fits ranks cyclic a b c (then_on _ m _ e p) h =
    let first : Fits ranks cyclic a m = c a m e (from_node m b p) in
    let rest : Fits ranks cyclic m b = path_fits ranks cyclic m b c p h in
    let one : slice_index_or ranks m 0 ≤ slice_index_or ranks a 0 = first.falls in
    let other : slice_index_or ranks b 0 ≤ slice_index_or ranks m 0 = rest.falls in
    record { falls = omega arith; marked = λ q. first.marked (omega arith) }

pub all_marked : {graph : List (List ℕ)} → (ranks : List ℕ) (cyclic : List Bool) (v : ℕ) → Certified graph ranks cyclic → Path graph v v → slice_get cyclic v ≡ Some true
all_marked ranks cyclic v c p = let f : Fits ranks cyclic v v = path_fits ranks cyclic v v c p (from_node v v p) in f.marked (omega arith)

-- the edges of one node more
pub certified_more : (graph : List (List ℕ)) (ranks : List ℕ) (cyclic : List Bool) (i : ℕ) (successors : List ℕ) → ((a b : ℕ) → a < i → Edge graph a b → b < length graph → Fits ranks cyclic a b) → i < length graph → successors ≡ get_or graph i successors → ((k b : ℕ) → slice_get successors k ≡ Some b → b < length graph → Fits ranks cyclic i b) → (a b : ℕ) → a < i + 1 → Edge graph a b → b < length graph → Fits ranks cyclic a b
certified_more graph ranks cyclic i successors before h is here a b less e within = by_cases (cases_lt a i)
  where
    at_i : slice_get graph i ≡ Some successors
    at_i = slice_get_read graph (length graph) i successors refl h is

    by_cases : (a < i) ⊎ (i ≤ a) → Fits ranks cyclic a b
    by_cases (inl u) = before a b u e within
    by_cases (inr u) =
        let same : a ≡ i = omega arith in
        let has : slice_get graph i ≡ Some e.successors = subst (λ (x : ℕ). slice_get graph x ≡ Some e.successors) same e.has in
        let one : e.successors ≡ successors = cc (at_i, has) in
        let leads : slice_get successors e.place ≡ Some b = subst (λ (x : List ℕ). slice_get x e.place ≡ Some b) one e.leads in
        subst (λ (x : ℕ). Fits ranks cyclic x b) (sym same) (here e.place b leads within)
