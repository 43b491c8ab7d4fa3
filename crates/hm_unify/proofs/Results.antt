-- What a walk of pairs leaves.
use Rattle.std.proofs.Common.{◌≡◌, ℕ, ◌+◌, ◌<◌, List, [], ◌∷◌, ◌++◌, length, Some, None, get_or, refl, sym, ap, ◌∙◌, subst, arith, length-append}
use Rattle.std.specs.List.{slice_get}
use Rattle.std.proofs.lemmas.List.{get_or_past}
use Rattle.ml_types.specs.declared.node.TyId.{TyId}
use Rattle.ml_types.specs.declared.node.TyNode.TheVariants.{Var}
use Rattle.ml_types.specs.Types.{parts_of}
use Rattle.ml_types.specs.declared.node.TyNode.{TyNode}
use Rattle.hm_unify.specs.Solutions.{Bound, Pairs, Fits}
use Rattle.hm_unify.specs.Walks.{WalkPairs}
use Rattle.hm_unify.specs.States.{IsTabled, IsSound, Equated, AddsFresh}
use Rattle.hm_unify.proofs.Growth.{IsSound-push, get_or_push}
use Rattle.hm_unify.proofs.Walks.{WalkPairs-forth, WalkPairs-back, WalkPairs-keeps}

pub Equated-walk : (nodes : List TyNode) (m m' : Bound) (pairs : Pairs) → WalkPairs nodes m pairs m' → Fits nodes m pairs → Equated (record { nodes = nodes; bound = m }) (record { nodes = nodes; bound = m' }) pairs
Equated-walk nodes m m' pairs w f =
    record {
      nodes = refl;
      walk = w;
      keeps = λ n y h. WalkPairs-keeps nodes m pairs m' w n y h;
      forth = λ t s. WalkPairs-forth nodes m pairs m' t w s;
      back = λ t s e. WalkPairs-back nodes m pairs m' t w s e;
      small = f;
    }

pub IsSound-walk : (nodes : List TyNode) (m m' : Bound) (pairs : Pairs) → IsTabled nodes m' → WalkPairs nodes m pairs m' → Fits nodes m pairs → IsSound nodes m'
IsSound-walk nodes m m' pairs k w f =
    record { tabled = k; solvable = (f.0, WalkPairs-back nodes m pairs m' f.0 w f.1 f.2, tt) }

-- the same, where nodes and map are read several times
pub equate-result : (nodes n1 n2 : List TyNode) (m m1 m2 m' z : Bound) (pairs : Pairs) → n1 ≡ nodes → n2 ≡ nodes → m1 ≡ m → m2 ≡ m → z ≡ m' → Fits n1 m1 pairs → WalkPairs n2 m2 pairs m' → IsTabled n2 m' → IsSound nodes z × Equated (record { nodes = nodes; bound = m }) (record { nodes = nodes; bound = z }) pairs
equate-result nodes n1 n2 m m1 m2 m' z pairs a b c d e f w k =
    let f' = subst (λ v. Fits v m pairs) a (subst (λ v. Fits n1 v pairs) c f) in
    let w' = subst (λ v. WalkPairs v m pairs m') b (subst (λ v. WalkPairs n2 v pairs m') d w) in
    let k' = subst (λ v. IsTabled v m') b k in
    (subst (IsSound nodes) (sym e) (IsSound-walk nodes m m' pairs k' w' f'), subst (λ v. Equated (record { nodes = nodes; bound = m }) (record { nodes = nodes; bound = v }) pairs) (sym e) (Equated-walk nodes m m' pairs w' f'))

parts_none : (k : ℕ) (count i : ℕ) (p : TyId) → slice_get (parts_of (Var k)) i ≡ Some p → p.0 < count
parts_none k count i p h = absurd (let g : None ≡ Some p = h in cc)

number_of : (number k : ℕ) → Some number ≡ Some k → number ≡ k
number_of number k h = cc

pub IsSound-fresh : (nodes nodes' : List TyNode) (m m' : Bound) (number : ℕ) → IsSound nodes m → number ≡ length m → nodes' ≡ nodes ++ Var number ∷ [] → m' ≡ m ++ None ∷ [] → IsSound nodes' m'
IsSound-fresh nodes nodes' m m' number k e a b =
    let len : length (m ++ None ∷ []) ≡ length m + 1 = length-append m (None ∷ []) in
    subst (λ v. IsSound v m') (sym a) (subst (IsSound (nodes ++ Var number ∷ [])) (sym b)
    (IsSound-push nodes m (m ++ None ∷ []) (Var number) k (λ i. get_or_push m None i) (omega (arith, len)) (λ i h. (let g = number_of number i h in omega (arith, g, e, len))) (parts_none number (length nodes))))

pub AddsFresh-from : (nodes nodes' : List TyNode) (m m' : Bound) (number id : ℕ) → IsSound nodes m → number ≡ length m → nodes' ≡ nodes ++ Var number ∷ [] → m' ≡ m ++ None ∷ [] → id ≡ length nodes → AddsFresh (record { nodes = nodes; bound = m }) (record { nodes = nodes'; bound = m' }) (record { 0 = id })
AddsFresh-from nodes nodes' m m' number id k e a b i =
    record {
      number = number;
      adds = record { nodes = a; at_end = i; bound = λ n. ap (λ v. get_or v n None) b ∙ get_or_push m None n };
      unused = λ x h. (let g = k.tabled.variables_in x number h in absurd (omega (arith, g, e)));
      free = ap (λ v. get_or v number None) b ∙ get_or_push m None number ∙ get_or_past m number None (omega (arith, e));
    }
