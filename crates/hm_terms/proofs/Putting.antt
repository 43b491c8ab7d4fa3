-- What is put for variables.
use Rattle.std.proofs.Common.{◌≡◌, ℕ, zero, suc, List, [], ◌∷◌, Some, None, Bor, refl, sym, ◌∙◌, subst}
use Rattle.std.specs.List.{slice_get}
use Rattle.ml_types.specs.declared.node.TyId.{TyId}
use Rattle.ml_types.specs.declared.node.TyNode.TheVariants.{Tuple}
use Rattle.ml_types.specs.Types.{TupleHead}
use Rattle.ml_typing.specs.declared.equation.Unknown.TheVariants.{Fresh}
use Rattle.ml_typing.specs.Terms.{Shape, no_shape, shape_at}
use Rattle.hm_terms.specs.Stores.{Store, AddsNode, Knows, IsReady, Grows}
use Rattle.hm_terms.specs.Shapes.{Holds, HoldAll, Lowers, Puts}
use Rattle.hm_terms.specs.declared.instances.Put.{Put}
use Rattle.hm_terms.specs.declared.instances.Put.TheVariants as p
use Rattle.hm_terms.proofs.Growth.{grows_same}
use Rattle.hm_terms.proofs.Holding.{knows_lowers, node_lowers, hold_all_grows}

pub fresh_put : (old new : Store) (put : Put) (node number : ℕ) (x : TyId) → put ≡ p.Fresh node → Knows old new (Fresh node number) x → (f : ℕ → Shape) → IsReady old → Puts old put f → Lowers old new (f number) x
fresh_put old new put node number x is k f r puts =
    let fresh = subst (λ q. Puts old q f) is puts in
    subst (λ h. Lowers old new h x) (sym (fresh number)) (knows_lowers old new (Fresh node number) x r k)

pub hold_at : (s : Store) (hs : List Shape) (xs : List TyId) (n : ℕ) (x : TyId) → HoldAll s hs xs → slice_get xs n ≡ Some x → Holds s (shape_at hs n) x
hold_at s [] [] n x k e = absurd (let q : None ≡ Some x = e in cc)
hold_at s [] (y ∷ xs) n x k e = absurd k
hold_at s (h ∷ hs) [] n x k e = absurd k
hold_at s (h ∷ hs) (y ∷ xs) zero x k e = let q : y ≡ x = cc in subst (Holds s h) q k.0
hold_at s (h ∷ hs) (y ∷ xs) (suc n) x k e = hold_at s hs xs n x k.1 e

pub hold_past : (s : Store) (hs : List Shape) (xs : List TyId) (n : ℕ) → HoldAll s hs xs → slice_get xs n ≡ None → shape_at hs n ≡ no_shape
hold_past s [] [] n k e = refl
hold_past s [] (y ∷ xs) n k e = absurd k
hold_past s (h ∷ hs) [] n k e = absurd k
hold_past s (h ∷ hs) (y ∷ xs) zero k e = absurd (let q : Some y ≡ None = e in cc)
hold_past s (h ∷ hs) (y ∷ xs) (suc n) k e = hold_past s hs xs n k.1 e

pub argument_put : (s : Store) (put : Put) (args : Bor (List TyId)) (number : ℕ) (x : TyId) → put ≡ p.Arguments args → slice_get args.now number ≡ Some x → (f : ℕ → Shape) → IsReady s → Puts s put f → Lowers s s (f number) x
argument_put s put args number x is at f r puts =
    let k = subst (λ q. Puts s q f) is puts in
    record { grows = grows_same s; holds = subst (λ h. Holds s h x) (sym (k.2 number)) (hold_at s k.0 args.now number x k.1 at) }

pub nothing_lowers : (old new : Store) (x : TyId) → AddsNode old new (Tuple []) x → IsReady old → Lowers old new no_shape x
nothing_lowers old new x a r = node_lowers old new (Tuple []) (TupleHead 0) x r a refl [] tt

pub past_put : (old new : Store) (put : Put) (args : Bor (List TyId)) (number : ℕ) (x : TyId) → put ≡ p.Arguments args → slice_get args.now number ≡ None → AddsNode old new (Tuple []) x → (f : ℕ → Shape) → IsReady old → Puts old put f → Lowers old new (f number) x
past_put old new put args number x is past a f r puts =
    let k = subst (λ q. Puts old q f) is puts in
    subst (λ h. Lowers old new h x) (sym (k.2 number ∙ hold_past old k.0 args.now number k.1 past)) (nothing_lowers old new x a r)

pub puts_grow : (old new : Store) → IsReady old → Grows old new → (put : Put) (f : ℕ → Shape) → Puts old put f → Puts new put f
puts_grow old new r g (p.Arguments args) f k = (k.0, hold_all_grows old new r g k.0 args.now k.1, k.2)
puts_grow old new r g (p.Fresh node) f k = k
