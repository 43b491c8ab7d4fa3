-- Numbers that instructions are made of.
use Rattle.std.specs.Prelude.{ℕ, ◌+◌, ◌*◌, ◌%◌}

-- a register number: its top bit, and its low three bits in a byte
abbrev pub register : ℕ → ℕ → ℕ
register high low = 8 * (high % 2) + low % 8
