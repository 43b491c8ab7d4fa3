-- Steps whose value has exactly the numbers that were handed out, in their order.
use Rattle.std.proofs.Common.{◌≡◌, ℕ, zero, suc, ◌+◌, ◌≤◌, List, [], ◌∷◌, ◌++◌, map, Option, Some, None, refl, sym, ap, ◌∙◌, subst, arith}
use Rattle.std.specs.List.{range_with_len}
use Rattle.ml_numbers.specs.declared.next.Next.{Next}
use Rattle.ml_numbers.specs.Steps.{Step, done, ◌>>=◌, node, of_type, one, two, three, each}
use Rattle.ml_numbers.specs.Ids.{Ids, no_ids, node_id, type_id, joined, all}

-- the list counts up from one number to before another
abbrev pub From : List ℕ → ℕ → ℕ → Type 0
From [] a b = a ≡ b
From (x ∷ xs) a b = (x ≡ a) × From xs (a + 1) b

from_joined : (xs ys : List ℕ) (a k b : ℕ) → From xs a k → From ys k b → From (xs ++ ys) a b
from_joined [] ys a k b e h = subst (λ m. From ys m b) (sym e) h
from_joined (x ∷ xs) ys a k b h g = (h.0, from_joined xs ys (a + 1) k b h.1 g)

above : (xs : List ℕ) (a b : ℕ) → From xs a b → a ≤ b
above [] a b e = omega (arith, e)
above (x ∷ xs) a b h = omega (arith, above xs (a + 1) b h.1)

pub counted : (xs : List ℕ) (a b n : ℕ) → From xs a b → a + n ≡ b → xs ≡ range_with_len a n
counted [] a b zero e s = refl
counted [] a b (suc n) e s = absurd (omega (arith, e, s))
counted (x ∷ xs) a b zero h s = absurd (omega (arith, above xs (a + 1) b h.1, s))
counted (x ∷ xs) a b (suc n) h s = ap (λ y. y ∷ xs) h.0 ∙ ap (λ ys. a ∷ ys) (counted xs (a + 1) b n h.1 (omega (arith, s)))

pub record Run (i : Ids) (n m : Next) : Type 0 where
  pub nodes : From i.nodes n.nodes m.nodes
  pub types : From i.types n.types m.types

run_joined : (i j : Ids) (n k m : Next) → Run i n k → Run j k m → Run (joined i j) n m
run_joined i j n k m h g = record { nodes = from_joined i.nodes j.nodes n.nodes k.nodes m.nodes h.nodes g.nodes; types = from_joined i.types j.types n.types k.types m.types h.types g.types }

pub record Numbers {A : Type 0} (ids : A → Ids) (s : Step A) : Type 0 where
  pub by : (n : Next) → Run (ids (s n).0) n (s n).1

abbrev pub list_of : {A : Type 0} → (A → Ids) → List A → Ids
list_of ids xs = all (map ids xs)

abbrev pub maybe_of : {A : Type 0} → (A → Ids) → Option A → Ids
maybe_of ids None = no_ids
maybe_of ids (Some x) = ids x

pub numbers_node : Numbers node_id node
numbers_node = record { by = λ n. record { nodes = (refl, refl); types = refl } }

pub numbers_of_type : Numbers type_id of_type
numbers_of_type = record { by = λ n. record { nodes = refl; types = (refl, refl) } }

pub numbers_done : {A : Type 0} (ids : A → Ids) (x : A) → ids x ≡ no_ids → Numbers ids (done x)
numbers_done ids x e = record { by = λ n. subst (λ i. Run i n n) (sym e) (record { nodes = refl; types = refl }) }

pub numbers_one : {A B : Type 0} (ia : A → Ids) (ib : B → Ids) (m : Step A) (f : A → B) → ((x : A) → ib (f x) ≡ ia x) → Numbers ia m → Numbers ib (one m f)
numbers_one ia ib m f law h = record { by = λ n. subst (λ i. Run i n (m n).1) (sym (law (m n).0)) (h.by n) }

pub numbers_two : {A B C : Type 0} (ia : A → Ids) (ib : B → Ids) (ic : C → Ids) (m : Step A) (p : Step B) (f : A → B → C) → ((x : A) (y : B) → ic (f x y) ≡ joined (ia x) (ib y)) → Numbers ia m → Numbers ib p → Numbers ic (two m p f)
numbers_two ia ib ic m p f law h g = record {
  by = λ n.
      subst (λ i. Run i n (p (m n).1).1) (sym (law (m n).0 (p (m n).1).0))
      (run_joined (ia (m n).0) (ib (p (m n).1).0) n (m n).1 (p (m n).1).1 (h.by n) (g.by (m n).1));
}

pub numbers_three : {A B C D : Type 0} (ia : A → Ids) (ib : B → Ids) (ic : C → Ids) (id : D → Ids) (m : Step A) (p : Step B) (q : Step C) (f : A → B → C → D) → ((x : A) (y : B) (z : C) → id (f x y z) ≡ joined (ia x) (joined (ib y) (ic z))) → Numbers ia m → Numbers ib p → Numbers ic q → Numbers id (three m p q f)
numbers_three ia ib ic id m p q f law h g j = record {
  by = λ n.
      let k = (m n).1 in let l = (p k).1 in
      subst (λ i. Run i n (q l).1) (sym (law (m n).0 (p k).0 (q l).0))
      (run_joined (ia (m n).0) (joined (ib (p k).0) (ic (q l).0)) n k (q l).1 (h.by n)
      (run_joined (ib (p k).0) (ic (q l).0) k l (q l).1 (g.by k) (j.by l)));
}

pub numbers_four : {A B C D E : Type 0} (ia : A → Ids) (ib : B → Ids) (ic : C → Ids) (id : D → Ids) (ie : E → Ids) (m : Step A) (p : Step B) (q : Step C) (r : Step D) (f : A → B → C → D → E) → ((x : A) (y : B) (z : C) (w : D) → ie (f x y z w) ≡ joined (ia x) (joined (ib y) (joined (ic z) (id w)))) → Numbers ia m → Numbers ib p → Numbers ic q → Numbers id r → Numbers ie (m >>= λ x. three p q r (f x))
numbers_four ia ib ic id ie m p q r f law h g j t = record {
  by = λ n.
      let k = (m n).1 in let l = (p k).1 in let o = (q l).1 in
      subst (λ i. Run i n (r o).1) (sym (law (m n).0 (p k).0 (q l).0 (r o).0))
      (run_joined (ia (m n).0) (joined (ib (p k).0) (joined (ic (q l).0) (id (r o).0))) n k (r o).1 (h.by n)
      (run_joined (ib (p k).0) (joined (ic (q l).0) (id (r o).0)) k l (r o).1 (g.by k)
      (run_joined (ic (q l).0) (id (r o).0) l o (r o).1 (j.by l) (t.by o))));
}

pub numbers_each : {A : Type 0} (ids : A → Ids) (f : A → Step A) → ((x : A) → Numbers ids (f x)) → (xs : List A) → Numbers (list_of ids) (each (map f xs))
numbers_each ids f h [] = numbers_done (list_of ids) [] refl
numbers_each ids f h (x ∷ xs) = numbers_two ids (list_of ids) (list_of ids) (f x) (each (map f xs)) ◌∷◌ (λ y ys. refl) (h x) (numbers_each ids f h xs)

pub numbers_parts : {A : Type 0} (ids : A → Ids) (f : A → Step A) (xs : List ((x : A) × Numbers ids (f x))) → Numbers (list_of ids) (each (map f (map (λ q. q.0) xs)))
numbers_parts ids f [] = numbers_done (list_of ids) [] refl
numbers_parts ids f (q ∷ qs) = numbers_two ids (list_of ids) (list_of ids) (f q.0) (each (map f (map (λ q. q.0) qs))) ◌∷◌ (λ y ys. refl) q.1 (numbers_parts ids f qs)
