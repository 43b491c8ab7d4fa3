-- Steps whose value is the tree that it was made from, but for the numbers.
use Rattle.std.proofs.Common.{◌≡◌, List, [], ◌∷◌, map, refl, ap, ◌∙◌}
use Rattle.ml_numbers.specs.declared.next.Next.{Next}
use Rattle.ml_numbers.specs.Steps.{Step, done, ◌>>=◌, one, two, three, each}

-- whatever the next numbers are, the value looks like this
pub record Stays {A V : Type 0} (view : A → V) (v : V) (m : Step A) : Type 0 where
  pub by : (n : Next) → view (m n).0 ≡ v

pub stays_done : {A V : Type 0} (view : A → V) (x : A) (v : V) → view x ≡ v → Stays view v (done x)
stays_done view x v e = record { by = λ n. e }

pub stays_one : {A B V W : Type 0} (va : A → V) (vb : B → W) (v : V) (m : Step A) (f : A → B) (g : V → W) → ((x : A) → vb (f x) ≡ g (va x)) → Stays va v m → Stays vb (g v) (one m f)
stays_one va vb v m f g law h = record { by = λ n. law (m n).0 ∙ ap g (h.by n) }

pub stays_two : {A B C V W U : Type 0} (va : A → V) (vb : B → W) (vc : C → U) (v : V) (w : W) (m : Step A) (p : Step B) (f : A → B → C) (g : V → W → U) → ((x : A) (y : B) → vc (f x y) ≡ g (va x) (vb y)) → Stays va v m → Stays vb w p → Stays vc (g v w) (two m p f)
stays_two va vb vc v w m p f g law h j = record { by = λ n. law (m n).0 (p (m n).1).0 ∙ (ap (λ s. g s (vb (p (m n).1).0)) (h.by n) ∙ ap (g v) (j.by (m n).1)) }

-- a number is not looked at
pub stays_behind : {A B C V W : Type 0} (vb : B → V) (vc : C → W) (w : V) (m : Step A) (p : Step B) (f : A → B → C) (g : V → W) → ((x : A) (y : B) → vc (f x y) ≡ g (vb y)) → Stays vb w p → Stays vc (g w) (two m p f)
stays_behind vb vc w m p f g law j = record { by = λ n. law (m n).0 (p (m n).1).0 ∙ ap g (j.by (m n).1) }

pub stays_three : {A B C D V W U T : Type 0} (va : A → V) (vb : B → W) (vc : C → U) (vd : D → T) (v : V) (w : W) (u : U) (m : Step A) (p : Step B) (q : Step C) (f : A → B → C → D) (g : V → W → U → T) → ((x : A) (y : B) (z : C) → vd (f x y z) ≡ g (va x) (vb y) (vc z)) → Stays va v m → Stays vb w p → Stays vc u q → Stays vd (g v w u) (three m p q f)
stays_three va vb vc vd v w u m p q f g law h j i = record {
  by = λ n.
      let k = (m n).1 in let l = (p k).1 in
      law (m n).0 (p k).0 (q l).0 ∙ (ap (λ s. g s (vb (p k).0) (vc (q l).0)) (h.by n) ∙ (ap (λ s. g v s (vc (q l).0)) (j.by k) ∙ ap (g v w) (i.by l)));
}

pub stays_four : {A B C D E V W U T R : Type 0} (va : A → V) (vb : B → W) (vc : C → U) (vd : D → T) (ve : E → R) (v : V) (w : W) (u : U) (t : T) (m : Step A) (p : Step B) (q : Step C) (r : Step D) (f : A → B → C → D → E) (g : V → W → U → T → R) → ((x : A) (y : B) (z : C) (o : D) → ve (f x y z o) ≡ g (va x) (vb y) (vc z) (vd o)) → Stays va v m → Stays vb w p → Stays vc u q → Stays vd t r → Stays ve (g v w u t) (m >>= λ x. three p q r (f x))
stays_four va vb vc vd ve v w u t m p q r f g law h j i o = record {
  by = λ n.
      let k = (m n).1 in let l = (p k).1 in let b = (q l).1 in
      law (m n).0 (p k).0 (q l).0 (r b).0 ∙ (ap (λ s. g s (vb (p k).0) (vc (q l).0) (vd (r b).0)) (h.by n) ∙ (ap (λ s. g v s (vc (q l).0) (vd (r b).0)) (j.by k) ∙ (ap (λ s. g v w s (vd (r b).0)) (i.by l) ∙ ap (g v w u) (o.by b))));
}

pub stays_each : {A : Type 0} (view : A → A) (f : A → Step A) → ((x : A) → Stays view (view x) (f x)) → (xs : List A) → Stays (map view) (map view xs) (each (map f xs))
stays_each view f h [] = stays_done (map view) [] [] refl
stays_each view f h (x ∷ xs) = stays_two view (map view) (map view) (view x) (map view xs) (f x) (each (map f xs)) ◌∷◌ ◌∷◌ (λ y ys. refl) (h x) (stays_each view f h xs)

pub stays_parts : {A : Type 0} (view : A → A) (f : A → Step A) (xs : List ((x : A) × Stays view (view x) (f x))) → Stays (map view) (map view (map (λ q. q.0) xs)) (each (map f (map (λ q. q.0) xs)))
stays_parts view f [] = stays_done (map view) [] [] refl
stays_parts view f (q ∷ qs) = stays_two view (map view) (map view) (view q.0) (map view (map (λ r. r.0) qs)) (f q.0) (each (map f (map (λ r. r.0) qs))) ◌∷◌ ◌∷◌ (λ y ys. refl) q.1 (stays_parts view f qs)
