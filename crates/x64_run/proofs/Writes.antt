-- The bytes of a write, one after another.
use Rattle.std.proofs.Common.{ℕ, zero, suc, ◌+◌, ◌-◌, ◌≤◌, ◌≡◌, List, [], ◌∷◌, ◌++◌, refl, sym, ap, ◌∙◌, arith, append_assoc, unwrap_or, Bool, true, false, if◌then◌else◌}
use Rattle.std.proofs.lemmas.List.{map-append}
use Rattle.x64_table.specs.Machine.{Loaded, byte_at}
use Rattle.x64_table.specs.Kernel.{put_bytes}
use Rattle.x64_run.specs.declared.put.Put.{Put}
use Rattle.x64_run.specs.Simulation.{pairs, PartlyAppended}

pub put_zero : (segments : List Loaded) (channel a : ℕ) → put_bytes segments channel a 0 ≡ []
unfolding put_bytes
put_zero segments channel a = refl

put_suc : (segments : List Loaded) (channel a n : ℕ) → put_bytes segments channel a (suc n) ≡ (channel, unwrap_or (byte_at segments a) 0) ∷ put_bytes segments channel (a + 1) n
unfolding put_bytes
put_suc segments channel a n = refl

-- the first k, and then the rest
pub put-append : (segments : List Loaded) (channel k a n : ℕ) → put_bytes segments channel a (k + n) ≡ put_bytes segments channel a k ++ put_bytes segments channel (a + k) n
put-append segments channel zero a n =
    let one : zero + n ≡ n = omega arith in
    let two : a ≡ a + zero = omega arith in
    ap (put_bytes segments channel a) one ∙ ap (λ p. put_bytes segments channel p n) two ∙ sym (ap (λ l. l ++ put_bytes segments channel (a + zero) n) (put_zero segments channel a))
put-append segments channel (suc k) a n =
    let one : suc k + n ≡ suc (k + n) = omega arith in
    let two : a + 1 + k ≡ a + suc k = omega arith in
    let front : ℕ × ℕ = (channel, unwrap_or (byte_at segments a) 0) in
    ap (put_bytes segments channel a) one ∙ put_suc segments channel a (k + n) ∙ ap (λ l. front ∷ l) (put-append segments channel k (a + 1) n ∙ ap (λ p. put_bytes segments channel (a + 1) k ++ put_bytes segments channel p n) two) ∙ sym (ap (λ l. l ++ put_bytes segments channel (a + suc k) n) (put_suc segments channel a k))

put_one : (segments : List Loaded) (channel a : ℕ) → put_bytes segments channel a 1 ≡ (channel, unwrap_or (byte_at segments a) 0) ∷ []
put_one segments channel a =
    put_suc segments channel a 0 ∙ ap (λ l. (channel, unwrap_or (byte_at segments a) 0) ∷ l) (put_zero segments channel (a + 1))

pub pairs-push : (puts : List Put) (p : Put) → pairs (puts ++ p ∷ []) ≡ pairs puts ++ (p.channel, p.byte) ∷ []
pairs-push puts p = map-append (λ (q : Put). (q.channel, q.byte)) puts (p ∷ [])

-- one byte more
pub put_more : (segments : List Loaded) (channel a k : ℕ) (before now next : List Put) (b : ℕ) → pairs now ≡ pairs before ++ put_bytes segments channel a k → b ≡ unwrap_or (byte_at segments (a + k)) 0 → pairs next ≡ pairs now ++ (channel, b) ∷ [] → pairs next ≡ pairs before ++ put_bytes segments channel a (k + 1)
put_more segments channel a k before now next b so_far is pushed =
    pushed ∙ ap (λ l. l ++ (channel, b) ∷ []) so_far ∙ append_assoc (pairs before) (put_bytes segments channel a k) ((channel, b) ∷ []) ∙ ap (λ l. pairs before ++ (put_bytes segments channel a k ++ l)) (ap (λ (n : ℕ). let p : ℕ × ℕ = (channel, n) in p ∷ []) is ∙ sym (put_one segments channel (a + k))) ∙ sym (ap (λ l. pairs before ++ l) (put-append segments channel k a 1))

-- the first k are a part of n
pub put_part : (segments : List Loaded) (channel a k n : ℕ) (before now : List Put) → k ≤ n → pairs now ≡ pairs before ++ put_bytes segments channel a k → PartlyAppended before now (put_bytes segments channel a n)
put_part segments channel a k n before now h e =
    let sum : n ≡ k + (n - k) = omega arith in
    record {
      more = put_bytes segments channel a k;
      rest = put_bytes segments channel (a + k) (n - k);
      appended = e;
      front = ap (put_bytes segments channel a) sum ∙ put-append segments channel k a (n - k);
    }

pub pushed_ok : (b : Bool) (old new : List Put) (p : Put) → new ≡ (if b then old ++ p ∷ [] else old) → b ≡ true → pairs new ≡ pairs old ++ (p.channel, p.byte) ∷ []
pushed_ok b old new p e ok =
    ap pairs (e ∙ ap (λ (v : Bool). if v then old ++ p ∷ [] else old) ok) ∙ pairs-push old p

pub pushed_err : (b : Bool) (old new : List Put) (p : Put) → new ≡ (if b then old ++ p ∷ [] else old) → b ≡ false → pairs new ≡ pairs old
pushed_err b old new p e failed =
    ap pairs (e ∙ ap (λ (v : Bool). if v then old ++ p ∷ [] else old) failed)
