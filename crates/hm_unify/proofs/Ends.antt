-- Where bindings end.
use Rattle.std.proofs.Common.{◌≡◌, ℕ, zero, suc, ◌+◌, ◌-◌, ◌^◌, ◌<◌, ◌≤◌, List, length, Option, Some, None, get_or, refl, sym, ap, ◌∙◌, subst, arith}
use Rattle.std.specs.Option.{option_and_then}
use Rattle.ml_types.specs.declared.node.TyId.{TyId}
use Rattle.ml_types.specs.declared.node.TyNode.{TyNode}
use Rattle.ml_types.specs.declared.node.TyNode.TheVariants.{Var, Con, Tuple, Arrow}
use Rattle.ml_types.specs.Types.{Head, head_of}
use Rattle.hm_unify.specs.declared.classes.End.TheVariants.{Built}
use Rattle.hm_unify.specs.Solutions.{Bound, node_at, number_at, variable_of, link, Ends, here, there}
use Rattle.hm_unify.specs.States.{rank, IsTabled}
use Rattle.hm_unify.specs.Closing.{follow, end_at, kind, kind_by}

pub Ends-here : (nodes : List TyNode) (bound : Bound) (x e : TyId) → link nodes bound x ≡ None → Ends nodes bound x e → x ≡ e
Ends-here nodes bound x e h (here y p) = refl
Ends-here nodes bound x e h (there y z w p q) = let q : None ≡ Some z = sym h ∙ p in cc

pub Ends-there : (nodes : List TyNode) (bound : Bound) (x y e : TyId) → link nodes bound x ≡ Some y → Ends nodes bound x e → Ends nodes bound y e
Ends-there nodes bound x y e h (here w p) = let q : None ≡ Some y = sym p ∙ h in absurd cc
Ends-there nodes bound x y e h (there w z g p q) = let s : z ≡ y = cc in subst (λ v. Ends nodes bound v g) s q

pub Ends-unique : (nodes : List TyNode) (bound : Bound) (x e g : TyId) → Ends nodes bound x e → Ends nodes bound x g → e ≡ g
Ends-unique nodes bound x e g (here w p) h = Ends-here nodes bound w g p h
Ends-unique nodes bound x e g (there w y v p q) h = Ends-unique nodes bound y v g q (Ends-there nodes bound w y g p h)

-- an end is not bound
pub Ends-end : (nodes : List TyNode) (bound : Bound) (x e : TyId) → Ends nodes bound x e → link nodes bound e ≡ None
Ends-end nodes bound x e (here w p) = p
Ends-end nodes bound x e (there w y v p q) = Ends-end nodes bound y v q

pub rank-lt : (n : ℕ) → rank n < 2 ^ 64
rank-lt n = omega arith

-- how many steps at most are left
abbrev pub steps_by : Option ℕ → ℕ
steps_by None = 0
steps_by (Some n) = 2 ^ 64 - rank n

abbrev pub steps : List TyNode → TyId → ℕ
steps nodes x = steps_by (number_at nodes x)

steps_by-le : (o : Option ℕ) → steps_by o ≤ 2 ^ 64
steps_by-le None = omega arith
steps_by-le (Some n) = omega arith

pub steps-le : (nodes : List TyNode) (x : TyId) → steps nodes x ≤ 2 ^ 64
steps-le nodes x = steps_by-le (number_at nodes x)

var-from : (o : Option TyNode) (n : ℕ) → option_and_then variable_of o ≡ Some n → o ≡ Some (Var n)
var-from None n h = cc
var-from (Some (Var m)) n h = cc
var-from (Some (Con d args)) n h = cc
var-from (Some (Tuple parts)) n h = cc
var-from (Some (Arrow slot a b)) n h = cc

pub number-var : (nodes : List TyNode) (x : TyId) (n : ℕ) → number_at nodes x ≡ Some n → node_at nodes x ≡ Some (Var n)
number-var nodes x n h = var-from (node_at nodes x) n h

pub var-number : (nodes : List TyNode) (x : TyId) (n : ℕ) → node_at nodes x ≡ Some (Var n) → number_at nodes x ≡ Some n
var-number nodes x n h = ap (option_and_then variable_of) h

link-by : (bound : Bound) (o : Option ℕ) (y : TyId) → option_and_then (λ n. get_or bound n None) o ≡ Some y → (n : ℕ) × (o ≡ Some n) × (get_or bound n None ≡ Some y)
link-by bound None y h = absurd cc
link-by bound (Some n) y h = (n, refl, h)

-- a bound id is a variable
pub link-number : (nodes : List TyNode) (bound : Bound) (x y : TyId) → link nodes bound x ≡ Some y → (n : ℕ) × (number_at nodes x ≡ Some n) × (get_or bound n None ≡ Some y)
link-number nodes bound x y h = link-by bound (number_at nodes x) y h

falls_by : (n : ℕ) (o : Option ℕ) → ((k : ℕ) → o ≡ Some k → rank n < rank k) → steps_by o < 2 ^ 64 - rank n
falls_by n None h = omega (arith, rank-lt n)
falls_by n (Some k) h = omega (arith, rank-lt n, h k refl)

pub steps-falls : (nodes : List TyNode) (bound : Bound) → IsTabled nodes bound → (x y : TyId) → link nodes bound x ≡ Some y → steps nodes y < steps nodes x
steps-falls nodes bound tabled x y h =
    let l : (n : ℕ) × (number_at nodes x ≡ Some n) × (get_or bound n None ≡ Some y) = link-number nodes bound x y h in
    let f : steps nodes y < 2 ^ 64 - rank l.0 = falls_by l.0 (number_at nodes y) (λ k e. tabled.rising l.0 k y l.2 (number-var nodes y k e)) in
    subst (λ o. steps nodes y < steps_by o) (sym l.1) f

follow_by : (nodes : List TyNode) (bound : Bound) (k : ℕ) (x : TyId) (o : Option TyId) → link nodes bound x ≡ o → ((y : TyId) → o ≡ Some y → Ends nodes bound y (follow nodes bound k y)) → Ends nodes bound x (elim o [ None ↦ x | Some y ↦ follow nodes bound k y ])
follow_by nodes bound k x None e h = here x e
follow_by nodes bound k x (Some y) e h = there x y _ e (h y refl)

Ends-follow : (nodes : List TyNode) (bound : Bound) → IsTabled nodes bound → (k : ℕ) (x : TyId) → steps nodes x < k → Ends nodes bound x (follow nodes bound k x)
unfolding follow
Ends-follow nodes bound tabled zero x h = absurd (omega arith)
Ends-follow nodes bound tabled (suc k) x h =
    follow_by nodes bound k x (link nodes bound x) refl (λ y e. Ends-follow nodes bound tabled k y (omega (arith, h, steps-falls nodes bound tabled x y e)))

pub Ends-end_at : (nodes : List TyNode) (bound : Bound) → IsTabled nodes bound → (x : TyId) → Ends nodes bound x (end_at nodes bound x)
unfolding end_at
Ends-end_at nodes bound tabled x = Ends-follow nodes bound tabled (2 ^ 64 + 1) x (omega (arith, steps-le nodes x))

pub link-within : (nodes : List TyNode) (bound : Bound) → IsTabled nodes bound → (x y : TyId) → link nodes bound x ≡ Some y → y.0 < length nodes
link-within nodes bound tabled x y h =
    let l : (n : ℕ) × (number_at nodes x ≡ Some n) × (get_or bound n None ≡ Some y) = link-number nodes bound x y h in
    tabled.targets_in l.0 y l.2

pub none_from : {A : Type 0} (o : Option A) → ((y : A) → o ≡ Some y → ⊥) → o ≡ None
none_from None h = refl
none_from (Some y) h = absurd (h y refl)

pub end_at-is : (nodes : List TyNode) (bound : Bound) → IsTabled nodes bound → (x e : TyId) → Ends nodes bound x e → end_at nodes bound x ≡ e
end_at-is nodes bound tabled x e h = Ends-unique nodes bound x (end_at nodes bound x) e (Ends-end_at nodes bound tabled x) h

-- the kind of an end, by the node that is read there
pub kind-end : (nodes : List TyNode) (bound : Bound) → IsTabled nodes bound → (x e : TyId) (n : TyNode) (o : Option ℕ) → Ends nodes bound x e → node_at nodes e ≡ Some n → o ≡ variable_of n → kind nodes (end_at nodes bound x) ≡ kind_by e o
kind-end nodes bound tabled x e n o h p q =
    ap (kind nodes) (end_at-is nodes bound tabled x e h) ∙ ap (λ w. kind_by e (option_and_then variable_of w)) p ∙ ap (kind_by e) (sym q)

-- the end of an id that is bound is that of its target
pub end_at-link : (nodes : List TyNode) (bound : Bound) → IsTabled nodes bound → (x y : TyId) → link nodes bound x ≡ Some y → end_at nodes bound x ≡ end_at nodes bound y
end_at-link nodes bound tabled x y h = end_at-is nodes bound tabled x (end_at nodes bound y) (there x y _ h (Ends-end_at nodes bound tabled y))

-- an id that is not bound is its own end
pub end_at-self : (nodes : List TyNode) (bound : Bound) → IsTabled nodes bound → (x : TyId) → link nodes bound x ≡ None → end_at nodes bound x ≡ x
end_at-self nodes bound tabled x h = end_at-is nodes bound tabled x x (here x h)

-- a node with a head is not bound
pub head-none : (n : TyNode) (h : Head) → head_of n ≡ Some h → variable_of n ≡ None
head-none (Var m) h e = absurd cc
head-none (Con d args) h e = refl
head-none (Tuple parts) h e = refl
head-none (Arrow slot a b) h e = refl

none-head : (n : TyNode) → variable_of n ≡ None → (h : Head) × (head_of n ≡ Some h)
none-head (Var m) e = absurd cc
none-head (Con d args) e = (_, refl)
none-head (Tuple parts) e = (_, refl)
none-head (Arrow slot a b) e = (_, refl)

pub headed : (n : TyNode) → variable_of n ≡ None → (h : Head) × (head_of n ≡ Some h)
headed n e = none-head n e

pub head-number : (nodes : List TyNode) (x : TyId) (n : TyNode) (h : Head) → node_at nodes x ≡ Some n → head_of n ≡ Some h → number_at nodes x ≡ None
head-number nodes x n h p q = ap (option_and_then variable_of) p ∙ head-none n h q

pub head-link : (nodes : List TyNode) (bound : Bound) (x : TyId) (n : TyNode) (h : Head) → node_at nodes x ≡ Some n → head_of n ≡ Some h → link nodes bound x ≡ None
head-link nodes bound x n h p q = ap (option_and_then (λ k. get_or bound k None)) (head-number nodes x n h p q)

pub head-kind : (nodes : List TyNode) (bound : Bound) → IsTabled nodes bound → (x : TyId) (n : TyNode) (h : Head) → node_at nodes x ≡ Some n → head_of n ≡ Some h → kind nodes (end_at nodes bound x) ≡ Built x.0
head-kind nodes bound tabled x n h p q =
    ap (kind nodes) (end_at-self nodes bound tabled x (head-link nodes bound x n h p q)) ∙ ap (kind_by x) (head-number nodes x n h p q)

-- ends lie in the table
pub Ends-within : (nodes : List TyNode) (bound : Bound) → IsTabled nodes bound → (x e : TyId) → Ends nodes bound x e → x.0 < length nodes → e.0 < length nodes
Ends-within nodes bound tabled x e (here w p) h = h
Ends-within nodes bound tabled x e (there w y g p q) h = Ends-within nodes bound tabled y g q (link-within nodes bound tabled w y p)
