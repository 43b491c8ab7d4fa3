-- Spans of tokens in order.
use Rattle.std.proofs.Common.{ℕ, zero, suc, ◌<◌, ◌≤◌, List, [], ◌∷◌, drop, length, arith}
use Rattle.std.specs.Prelude.{take}
use Rattle.std.specs.List.{All}
use Rattle.ml_lexer.specs.declared.token.Token.{Token}
use Rattle.ml_lexer.specs.Tokens.{AreInOrder}
use Rattle.ml_cursor.specs.Places.{first_span}
use Rattle.tree_laws.specs.Spans.{Edge, Nests, Within}

begins : (from to count : ℕ) (ts : List Token) (i : ℕ) → AreInOrder from (take count ts) to → i < count → i < length ts → from ≤ (first_span (drop i ts)).start
begins from to count [] i h lt le = absurd (omega (arith, le))
begins from to zero (t ∷ ts) i h lt le = absurd (omega (arith, lt))
begins from to (suc count) (t ∷ ts) zero h lt le = h.0
begins from to (suc count) (t ∷ ts) (suc i) h lt le =
    let g = begins t.span.end to count ts i h.2 (omega (arith, lt)) (omega (arith, le)) in omega (arith, g, h.0, h.1)

goes : (from to count : ℕ) (ts : List Token) (i : ℕ) → AreInOrder from (take count ts) to → i < count → i < length ts → (first_span (drop i ts)).start ≤ (first_span (drop i ts)).end
goes from to count [] i h lt le = absurd (omega (arith, le))
goes from to zero (t ∷ ts) i h lt le = absurd (omega (arith, lt))
goes from to (suc count) (t ∷ ts) zero h lt le = omega (arith, h.1)
goes from to (suc count) (t ∷ ts) (suc i) h lt le = goes t.span.end to count ts i h.2 (omega (arith, lt)) (omega (arith, le))

starts_up : (from to count : ℕ) (ts : List Token) (i j : ℕ) → AreInOrder from (take count ts) to → i ≤ j → j < count → j < length ts → (first_span (drop i ts)).start ≤ (first_span (drop j ts)).start
starts_up from to count [] i j h le lt in_list = absurd (omega (arith, in_list))
starts_up from to zero (t ∷ ts) i j h le lt in_list = absurd (omega (arith, lt))
starts_up from to (suc count) (t ∷ ts) zero zero h le lt in_list = omega arith
starts_up from to (suc count) (t ∷ ts) zero (suc j) h le lt in_list =
    let g = begins t.span.end to count ts j h.2 (omega (arith, lt)) (omega (arith, in_list)) in omega (arith, g, h.1)
starts_up from to (suc count) (t ∷ ts) (suc i) zero h le lt in_list = absurd (omega (arith, le))
starts_up from to (suc count) (t ∷ ts) (suc i) (suc j) h le lt in_list = starts_up t.span.end to count ts i j h.2 (omega (arith, le)) (omega (arith, lt)) (omega (arith, in_list))

ends_up : (from to count : ℕ) (ts : List Token) (i j : ℕ) → AreInOrder from (take count ts) to → i ≤ j → j < count → j < length ts → (first_span (drop i ts)).end ≤ (first_span (drop j ts)).end
ends_up from to count [] i j h le lt in_list = absurd (omega (arith, in_list))
ends_up from to zero (t ∷ ts) i j h le lt in_list = absurd (omega (arith, lt))
ends_up from to (suc count) (t ∷ ts) zero zero h le lt in_list = omega arith
ends_up from to (suc count) (t ∷ ts) zero (suc j) h le lt in_list =
    let g = begins t.span.end to count ts j h.2 (omega (arith, lt)) (omega (arith, in_list)) in
    let k = goes t.span.end to count ts j h.2 (omega (arith, lt)) (omega (arith, in_list)) in omega (arith, g, k)
ends_up from to (suc count) (t ∷ ts) (suc i) zero h le lt in_list = absurd (omega (arith, le))
ends_up from to (suc count) (t ∷ ts) (suc i) (suc j) h le lt in_list = ends_up t.span.end to count ts i j h.2 (omega (arith, le)) (omega (arith, lt)) (omega (arith, in_list))

within : (from to count : ℕ) (ts : List Token) (edge : Edge) → count ≤ length ts → AreInOrder from (take count ts) to → Nests ts count edge → Within edge
within from to count ts edge le h n =
    let a = starts_up from to count ts n.from n.first h n.starts_later (omega (arith, n.goes_up, n.ends_sooner, n.inside)) (omega (arith, n.goes_up, n.ends_sooner, n.inside, le)) in
    let b = ends_up from to count ts n.last n.to h n.ends_sooner n.inside (omega (arith, n.inside, le)) in
    let c = starts_up from to count ts n.first n.last h n.goes_up (omega (arith, n.ends_sooner, n.inside)) (omega (arith, n.ends_sooner, n.inside, le)) in
    let d = goes from to count ts n.last h (omega (arith, n.ends_sooner, n.inside)) (omega (arith, n.ends_sooner, n.inside, le)) in
    record {
      starts = omega (arith, a, n.outer_is.starts, n.inner_is.starts);
      goes_up = omega (arith, c, d, n.inner_is.starts, n.inner_is.ends);
      ends = omega (arith, b, n.outer_is.ends, n.inner_is.ends);
    }

pub all_within : (from to count : ℕ) (ts : List Token) (edges : List Edge) → count ≤ length ts → AreInOrder from (take count ts) to → All (Nests ts count) edges → All Within edges
all_within from to count ts edges le h n k d lt = within from to count ts _ le h (n k d lt)
