-- The line and the column of a place in a source fit 32 bits.
use Rattle.std.proofs.Common.{◌≡◌, ℕ, ◌-◌, ◌^◌, ◌≤◌, ◌==◌, Bool, not, List, length, take, reverse, arith, min}
use Rattle.std.specs.List.{take_while, prefix_len}
use Rattle.std.proofs.lemmas.List.{length-reverse}
use Rattle.std.proofs.lemmas.List.Sums.{count_by-le-length}
use Rattle.std.proofs.lemmas.Grind.{common_steps}
use Rattle.oxml_base.specs.LineColumn.{line_behind, column_behind}
use Rattle.oxml_driver.specs.Build.{most_bytes}

length-take-le_all : {X : Type 0} (n : ℕ) (xs : List X) → length (take n xs) ≤ length xs
length-take-le_all n xs = grind (arith, common_steps)

length-take_while-le : {X : Type 0} (test : X → Bool) (xs : List X) → length (take_while test xs) ≤ length xs
length-take_while-le test xs = length-take-le_all (prefix_len test xs) xs

length-take-short : (n : ℕ) (source : List ℕ) → length source ≤ most_bytes → length (take n source) ≤ most_bytes
length-take-short n source short = grind (arith, common_steps)

pub line_fits : (n : ℕ) (source : List ℕ) → length source ≤ most_bytes → min (line_behind (take n source)) (2 ^ 32 - 1) ≡ line_behind (take n source)
line_fits n source short =
    omega (arith, count_by-le-length (λ byte. byte == 10) (take n source), length-take-short n source short)

pub column_fits : (n : ℕ) (source : List ℕ) → length source ≤ most_bytes → min (column_behind (take n source)) (2 ^ 32 - 1) ≡ column_behind (take n source)
column_fits n source short =
    omega (arith, length-take_while-le (λ byte. not (byte == 10)) (reverse (take n source)), length-reverse (take n source), length-take-short n source short)
