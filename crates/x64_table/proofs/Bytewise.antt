-- Accesses that go byte by byte.
use Rattle.std.proofs.Common.{ℕ, zero, suc, ◌+◌, ◌<◌, ◌≤◌, ◌%◌, ◌^◌, ◌≡◌, ◌≢◌, ◌⊎◌, inl, inr, Bool, true, false, ◌&&◌, List, [], ◌∷◌, ◌++◌, length, take, drop, set, get_or, Option, Some, None, refl, sym, ap, ◌∙◌, arith, add-one, cond, find, drop-cons, if◌then◌else◌, true≢false, append_assoc, append-nil, ◌-◌}
use Rattle.std.proofs.lemmas.Bool.Decides.{eqb_tells}
use Rattle.std.proofs.Math.Seq.{take-suc-set}
use Rattle.std.proofs.Math.ListN.{drop_of_length-le}
use Rattle.x64_table.specs.declared.cpu.Cpu.{Cpu}
use Rattle.x64_table.specs.Machine.{each_byte, each_place, push_last, Loaded, has_some, has_writable, change_first, stored, stored_each, run_of_bytes}

-- ---- places that all pass

and_stays : (a b : Bool) → a ≡ false → (a && b) ≡ false
and_stays a b h = rw h refl

and_last : (a b : Bool) → b ≡ false → (a && b) ≡ false
and_last true b h = h
and_last false b h = refl

pub place_zero : (test : ℕ → Bool) (a : ℕ) → each_place test 0 a ≡ true
unfolding each_place
place_zero test a = refl

pub place_more : (test : ℕ → Bool) (i a : ℕ) → each_place test i a ≡ true → test ((a + i) % 2 ^ 64) ≡ true → each_place test (i + 1) a ≡ true
unfolding each_place
place_more test i a all one = rw (add-one, all) one

place_by : (test : ℕ → Bool) (i n a : ℕ) → ((i < n → each_place test n a ≡ false)) → i < suc n → test ((a + i) % 2 ^ 64) ≡ false → (i ≡ n) ⊎ (i ≢ n) → (each_place test n a && test ((a + n) % 2 ^ 64)) ≡ false
place_by test i n a before h e (inl is) =
    and_last _ _ (sym (ap (λ k. test ((a + k) % 2 ^ 64)) is) ∙ e)
place_by test i n a before h e (inr not_is) = and_stays _ _ (before (omega arith))

tells : (i n : ℕ) → (i ≡ n) ⊎ (i ≢ n)
tells i n = elim (eqb_tells i n) [ inl w ↦ inl w.1 | inr w ↦ inr w.1 ]

-- one that fails makes all fail
pub place_stays : (test : ℕ → Bool) (i n a : ℕ) → i < n → test ((a + i) % 2 ^ 64) ≡ false → each_place test n a ≡ false
unfolding each_place
place_stays test i zero a h e = absurd (omega arith)
place_stays test i (suc n) a h e =
    place_by test i n a (λ below. place_stays test i n a below e) h e (tells i n)

-- ---- bytes that are all there

pub byte_zero : (byte : ℕ → Option ℕ) (part : List ℕ) (a : ℕ) → each_byte byte 0 a ≡ Some (take 0 part)
unfolding each_byte
byte_zero byte part a = refl

pub byte_more : (byte : ℕ → Option ℕ) (part : List ℕ) (i a b : ℕ) → each_byte byte i a ≡ Some (take i part) → byte ((a + i) % 2 ^ 64) ≡ Some b → i < length part → each_byte byte (i + 1) a ≡ Some (take (i + 1) (set part i b))
unfolding each_byte
byte_more byte part i a b all one h =
    rw (add-one, all, one) (ap Some (sym (take-suc-set part i b h)))

push_none : (o : Option (List ℕ)) (q : Option ℕ) → o ≡ None → push_last o q ≡ None
push_none o q h = rw h refl

push_last_none : (o : Option (List ℕ)) (q : Option ℕ) → q ≡ None → push_last o q ≡ None
push_last_none None q h = refl
push_last_none (Some bytes) q h = rw h refl

byte_by : (byte : ℕ → Option ℕ) (i n a : ℕ) → ((i < n → each_byte byte n a ≡ None)) → i < suc n → byte ((a + i) % 2 ^ 64) ≡ None → (i ≡ n) ⊎ (i ≢ n) → push_last (each_byte byte n a) (byte ((a + n) % 2 ^ 64)) ≡ None
byte_by byte i n a before h e (inl is) =
    push_last_none _ _ (sym (ap (λ k. byte ((a + k) % 2 ^ 64)) is) ∙ e)
byte_by byte i n a before h e (inr not_is) = push_none _ _ (before (omega arith))

-- one that is missing makes the access fail
pub byte_stays : (byte : ℕ → Option ℕ) (i n a : ℕ) → i < n → byte ((a + i) % 2 ^ 64) ≡ None → each_byte byte n a ≡ None
unfolding each_byte
byte_stays byte i zero a h e = absurd (omega arith)
byte_stays byte i (suc n) a h e =
    byte_by byte i n a (λ below. byte_stays byte i n a below e) h e (tells i n)

-- ---- bytes that are written one after another

keep_first : (b : Bool) (x : Loaded) (c : Loaded → Loaded) (rest more : List Loaded) (o : Option Loaded) → has_some (cond b (Some x) o) ≡ false → (has_some o ≡ false → more ≡ rest) → (if b then c x ∷ rest else x ∷ more) ≡ x ∷ rest
keep_first true x c rest more o h same = absurd (true≢false h)
keep_first false x c rest more o h same = ap (λ l. x ∷ l) (same h)

change_none : (p : Loaded → Bool) (c : Loaded → Loaded) (xs : List Loaded) → has_some (find p xs) ≡ false → change_first p c xs ≡ xs
change_none p c [] h = refl
change_none p c (x ∷ xs) h = keep_first (p x) x c xs _ (find p xs) h (change_none p c xs)

stored_by : (w : Bool) (cpu : Cpu) (a : ℕ) (bytes : List ℕ) (xs : List Loaded) → has_writable cpu xs (length bytes) a ≡ w → (if w then stored cpu a bytes xs else xs) ≡ stored cpu a bytes xs
stored_by true cpu a bytes xs h = refl
stored_by false cpu a bytes xs h = sym (change_none _ _ xs h)

-- a write that no segment takes changes nothing
pub stored_anyway : (w : Bool) (cpu : Cpu) (a : ℕ) (bytes : List ℕ) (xs ys : List Loaded) → w ≡ has_writable cpu xs (length bytes) a → ys ≡ (if w then stored cpu a bytes xs else xs) → ys ≡ stored cpu a bytes xs
stored_anyway w cpu a bytes xs ys h e = e ∙ stored_by w cpu a bytes xs (sym h)

stored_cons : (cpu : Cpu) (a b : ℕ) (bytes : List ℕ) (xs : List Loaded) → stored_each cpu a (b ∷ bytes) xs ≡ stored_each cpu ((a + 1) % 2 ^ 64) bytes (stored cpu a (b ∷ []) xs)
unfolding stored_each
stored_cons cpu a b bytes xs = refl

pub stored_more : (cpu : Cpu) (bytes : List ℕ) (i a : ℕ) (xs ys : List Loaded) → i < length bytes → ys ≡ stored cpu a (get_or bytes i 0 ∷ []) xs → stored_each cpu ((a + 1) % 2 ^ 64) (drop (i + 1) bytes) ys ≡ stored_each cpu a (drop i bytes) xs
stored_more cpu bytes i a xs ys h e =
    let to = (a + 1) % 2 ^ 64 in
    let one : i + 1 ≡ suc i = omega arith in
    ap (λ k. stored_each cpu to (drop k bytes) ys) one ∙ ap (stored_each cpu to (drop (suc i) bytes)) e ∙ sym (stored_cons cpu a (get_or bytes i 0) (drop (suc i) bytes) xs) ∙ sym (ap (λ l. stored_each cpu a l xs) (drop-cons bytes i 0 h))

stored_nil : (cpu : Cpu) (a : ℕ) (xs : List Loaded) → stored_each cpu a [] xs ≡ xs
unfolding stored_each
stored_nil cpu a xs = refl

pub stored_done : (cpu : Cpu) (bytes : List ℕ) (i a : ℕ) (xs : List Loaded) → length bytes ≤ i → stored_each cpu a (drop i bytes) xs ≡ xs
stored_done cpu bytes i a xs h =
    ap (λ l. stored_each cpu a l xs) (drop_of_length-le bytes h) ∙ stored_nil cpu a xs

pub stored_start : (cpu : Cpu) (bytes : List ℕ) (a : ℕ) (xs : List Loaded) → stored_each cpu a (drop 0 bytes) xs ≡ stored_each cpu a bytes xs
stored_start cpu bytes a xs = refl

-- ---- a run of bytes up to the first that is missing

one_byte : (byte : ℕ → Option ℕ) (n p b : ℕ) → byte p ≡ Some b → run_of_bytes byte (suc n) p ≡ b ∷ run_of_bytes byte n ((p + 1) % 2 ^ 64)
unfolding run_of_bytes
one_byte byte n p b is = rw is refl

no_byte : (byte : ℕ → Option ℕ) (n p : ℕ) → byte p ≡ None → run_of_bytes byte (suc n) p ≡ []
unfolding run_of_bytes
no_byte byte n p is = rw is refl

pub run_more : (byte : ℕ → Option ℕ) (part all : List ℕ) (i n a b : ℕ) → i < n → i < length part → byte ((a + i) % 2 ^ 64) ≡ Some b → take i part ++ run_of_bytes byte (n - i) ((a + i) % 2 ^ 64) ≡ all → take (i + 1) (set part i b) ++ run_of_bytes byte (n - (i + 1)) ((a + (i + 1)) % 2 ^ 64) ≡ all
run_more byte part all i n a b below within one before =
    let k : n - i ≡ suc (n - (i + 1)) = omega arith in
    let p : ((a + i) % 2 ^ 64 + 1) % 2 ^ 64 ≡ (a + (i + 1)) % 2 ^ 64 = omega arith in
    let here = one_byte byte (n - (i + 1)) ((a + i) % 2 ^ 64) b one in
    let one_more : i + 1 ≡ suc i = omega arith in
    let front = ap (λ j. take j (set part i b)) one_more ∙ take-suc-set part i b within in
    ap (λ l. l ++ run_of_bytes byte (n - (i + 1)) ((a + (i + 1)) % 2 ^ 64)) front ∙ append_assoc (take i part) (b ∷ []) _ ∙ ap (λ q. take i part ++ (b ∷ run_of_bytes byte (n - (i + 1)) q)) (sym p) ∙ ap (λ l. take i part ++ l) (sym here) ∙ ap (λ j. take i part ++ run_of_bytes byte j ((a + i) % 2 ^ 64)) (sym k) ∙ before

pub run_stops : (byte : ℕ → Option ℕ) (part all : List ℕ) (i n a : ℕ) → i < n → byte ((a + i) % 2 ^ 64) ≡ None → take i part ++ run_of_bytes byte (n - i) ((a + i) % 2 ^ 64) ≡ all → take i part ≡ all
run_stops byte part all i n a below none before =
    let k : n - i ≡ suc (n - (i + 1)) = omega arith in
    sym (append-nil (take i part)) ∙ ap (λ l. take i part ++ l) (sym (no_byte byte (n - (i + 1)) ((a + i) % 2 ^ 64) none)) ∙ ap (λ j. take i part ++ run_of_bytes byte j ((a + i) % 2 ^ 64)) (sym k) ∙ before

run_nil : (byte : ℕ → Option ℕ) (p : ℕ) → run_of_bytes byte 0 p ≡ []
unfolding run_of_bytes
run_nil byte p = refl

pub run_ends : (byte : ℕ → Option ℕ) (part all : List ℕ) (i n p : ℕ) → n ≤ i → take i part ++ run_of_bytes byte (n - i) p ≡ all → take i part ≡ all
run_ends byte part all i n p past before =
    let k : n - i ≡ 0 = omega arith in
    sym (append-nil (take i part)) ∙ ap (λ l. take i part ++ l) (sym (run_nil byte p)) ∙ ap (λ j. take i part ++ run_of_bytes byte j p) (sym k) ∙ before
