use Rattle.std.proofs.Common.{◌≡◌, ◌++◌, map, drop}
use Rattle.ml_decls.specs.Predefined.{plain_arg}
use Rattle.ml_decls.proofs.predefined.constructor.Given as goal

abbrev pub invariant-loop-ty : goal.invariant-loop-ty
invariant-loop-ty l = l.args ++ map plain_arg (drop l.ty-index l.types) ≡ map plain_arg l.types
