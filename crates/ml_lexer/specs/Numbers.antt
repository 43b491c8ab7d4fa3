-- The numbers that literals and escapes write.
use Rattle.std.specs.Prelude.{ℕ, ◌+◌, ◌*◌, ◌^◌, Bool, ◌||◌, ◌&&◌, ◌==◌, List, [], ◌∷◌, drop, Option, Some, None, ℤ, pos, negsuc, if◌then◌else◌, nat_lt, ◌-◌}
use Rattle.std.specs.Option.{option_and_then, option_map}
use Rattle.std.specs.Char.{digit_value}
use Rattle.ml_lexer.specs.Bytes.{byte}

-- a value with one more digit
abbrev pub with_digit : ℕ → ℕ → ℕ → Option ℕ
with_digit base value c = if nat_lt (digit_value c) base then Some (value * base + digit_value c) else None

-- the same, where `_` (95) may stand between digits
abbrev pub with_mark : ℕ → ℕ → ℕ → Option ℕ
with_mark base value c = if c == 95 then Some value else with_digit base value c

-- the value of digits of a base that follow a value
unfoldable pub digits : ℕ → ℕ → List ℕ → Option ℕ
digits base value [] = Some value
digits base value (c ∷ cs) = option_and_then (λ v. digits base v cs) (with_mark base value c)

-- the base that a run of letters and digits names: `0x`, `0o` and `0b` in either case, else ten
unfoldable pub base_of : List ℕ → ℕ
base_of run =
    if byte run 0 == 48 then
    (if (byte run 1 == 120) || (byte run 1 == 88) then 16
    else (if (byte run 1 == 111) || (byte run 1 == 79) then 8
    else (if (byte run 1 == 98) || (byte run 1 == 66) then 2
    else 10)))
    else 10

-- a value of at most 63 bits
abbrev pub small : Option ℕ → Option ℕ
small o = option_and_then (λ v. if nat_lt v (2 ^ 63) then Some v else None) o

-- 63 bits as a number with a sign
abbrev pub wrapped : ℕ → ℤ
wrapped v = if nat_lt v (2 ^ 62) then pos v else negsuc (2 ^ 63 - 1 - v)

-- the digits behind a prefix, of which the first is no mark
abbrev pub based : ℕ → List ℕ → Option ℤ
based base run =
    if nat_lt (digit_value (byte run 2)) base then option_map wrapped (small (digits base 0 (drop 2 run)))
    else None

-- a decimal value: below 2^62, or 2^62 itself behind a minus
abbrev pub decimal : Bool → ℕ → Option ℤ
decimal after_minus v =
    if nat_lt v (2 ^ 62) then Some (pos v)
    else (if after_minus && (v == 2 ^ 62) then Some (negsuc (2 ^ 62 - 1)) else None)

abbrev pub number_in : ℕ → Bool → List ℕ → Option ℤ
number_in base after_minus run =
    if base == 10 then option_and_then (decimal after_minus) (digits 10 0 run) else based base run

-- the value of a number literal, if the run is one
unfoldable pub number : Bool → List ℕ → Option ℤ
number after_minus run = number_in (base_of run) after_minus run
