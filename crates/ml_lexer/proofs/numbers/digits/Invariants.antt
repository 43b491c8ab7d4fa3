use Rattle.std.proofs.Common.{◌≡◌, ◌<◌, ◌^◌, drop}
use Rattle.ml_lexer.specs.Numbers.{small, digits}
use Rattle.ml_lexer.proofs.numbers.digits.Given as goal

abbrev pub invariant-loop-c : goal.invariant-loop-c
invariant-loop-c l = record {
  same_value : small (digits l.base l.value (drop l.c-index l.run)) ≡ small (digits l.base 0 l.run);
  fits : l.value < 2 ^ 63;
}
