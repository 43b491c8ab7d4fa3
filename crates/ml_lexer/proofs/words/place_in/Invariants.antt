use Rattle.std.proofs.Common.{◌≡◌, drop}
use Rattle.std.specs.Prelude.{map, nat_eq}
use Rattle.std.specs.List.{position_from}
use Rattle.std.specs.Cmp.Lexicographic.{pointwise}
use Rattle.ml_lexer.proofs.words.place_in.Given as goal

abbrev pub invariant-loop-n : goal.invariant-loop-n
invariant-loop-n l =
    position_from (λ t. pointwise nat_eq t l.text) l.n (map (λ t. t.now) (drop l.n l.texts)) ≡ position_from (λ t. pointwise nat_eq t l.text) 0 (map (λ t. t.now) l.texts)
