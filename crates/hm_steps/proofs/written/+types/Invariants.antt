use Rattle.std.proofs.Common.{◌≡◌, ◌++◌, map, drop}
use Rattle.ml_typing.specs.Written.{written}
use Rattle.ml_typing.specs.Typing.{names_of}
use Rattle.hm_steps.proofs.written.+types.Given as goal

abbrev pub invariant-all_written-loop-ty : goal.invariant-all_written-loop-ty
invariant-all_written-loop-ty l = l.terms ++ map (written (names_of l.s.refs l.s.types l.item)) (drop l.ty-index l.list) ≡ map (written (names_of l.s.refs l.s.types l.item)) l.list
