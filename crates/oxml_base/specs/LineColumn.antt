-- Where a place stands in a text, as an editor counts.
use Rattle.std.specs.Prelude.{ℕ, ◌+◌, ◌==◌, not, List, count_by, length, take_while, reverse}

-- the line of a place behind these bytes, counted from 1
abbrev pub line_behind : List ℕ → ℕ
line_behind before = 1 + count_by (λ byte. byte == 10) before

-- its column, counted from 1 in bytes: one more than the bytes behind the last line feed
abbrev pub column_behind : List ℕ → ℕ
column_behind before = 1 + length (take_while (λ byte. not (byte == 10)) (reverse before))
