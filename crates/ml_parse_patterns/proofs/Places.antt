-- Places of a list of tokens.
use Rattle.std.proofs.Common.{◌≡◌, ℕ, ◌+◌, ◌≤◌, min, List, length, drop, sym, ap, ◌∙◌, arith}
use Rattle.std.proofs.Math.Decide.{dec_lt}
use Rattle.std.proofs.lemmas.List.{drop-drop}
use Rattle.std.proofs.Math.ListN.{drop_of_length-le}

-- going past so many tokens, where the place stops at the greatest number
pub drop_capped : {A : Type 0} (n m most : ℕ) (xs : List A) → length xs ≤ most → drop (min (n + m) most) xs ≡ drop m (drop n xs)
drop_capped n m most xs h = elim (dec_lt (n + m) most) [
  | yes lt ↦ (let e : min (n + m) most ≡ n + m = omega arith in ap (λ k. drop k xs) e ∙ sym (drop-drop m n xs))
  | no ge ↦ (let low : length xs ≤ min (n + m) most = omega (arith, ge) in
      let high : length xs ≤ n + m = omega (arith, ge) in
      drop_of_length-le xs low ∙ sym (drop-drop m n xs ∙ drop_of_length-le xs high))
]
