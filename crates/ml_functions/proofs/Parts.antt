-- A list that grows by one part after the other grows by their whole.
use Rattle.std.proofs.Common.{◌≡◌, List, [], ◌++◌, Result, Ok, Err, refl, sym, ap, ◌∙◌, append_assoc}
use Rattle.std.specs.Prelude.{OnOk}
use Rattle.std.proofs.lemmas.List.{append-nil}

pub one_part : {R E A : Type 0} (r : Result R E) (old new part whole : List A) → OnOk r (new ≡ old ++ part) → whole ≡ part → OnOk r (new ≡ old ++ whole)
one_part (Ok x) old new part whole n w = n ∙ ap (λ xs. old ++ xs) (sym w)
one_part (Err e) old new part whole n w = tt

joined : {A : Type 0} (old one new a b whole : List A) → one ≡ old ++ a → new ≡ one ++ b → whole ≡ a ++ b → new ≡ old ++ whole
joined old one new a b whole m n w = n ∙ (ap (λ xs. xs ++ b) m ∙ (append_assoc old a b ∙ ap (λ xs. old ++ xs) (sym w)))

pub two_parts : {R E A : Type 0} (r : Result R E) (old one new a b whole : List A) → one ≡ old ++ a → OnOk r (new ≡ one ++ b) → whole ≡ a ++ b → OnOk r (new ≡ old ++ whole)
two_parts (Ok x) old one new a b whole m n w = joined old one new a b whole m n w
two_parts (Err e) old one new a b whole m n w = tt

pub three_parts : {R E A : Type 0} (r : Result R E) (old one two new a b d whole : List A) → one ≡ old ++ a → two ≡ one ++ b → OnOk r (new ≡ two ++ d) → whole ≡ a ++ (b ++ d) → OnOk r (new ≡ old ++ whole)
three_parts r old one two new a b d whole m n o w = two_parts r old two new (a ++ b) d whole (joined old one two a b (a ++ b) m n refl) o (w ∙ sym (append_assoc a b d))

pub two_parts_alone : {A : Type 0} (old one two a b whole : List A) → one ≡ old ++ a → two ≡ one ++ b → whole ≡ a ++ (b ++ []) → two ≡ old ++ whole
two_parts_alone old one two a b whole m n w = joined old one two a b whole m n (w ∙ ap (λ xs. a ++ xs) (append-nil b))

pub no_part : {A : Type 0} (old whole : List A) → whole ≡ [] → old ≡ old ++ whole
no_part old whole w = sym (append-nil old) ∙ ap (λ xs. old ++ xs) (sym w)
