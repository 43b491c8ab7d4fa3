use Rattle.std.proofs.Common.{◌≤◌, ◌-◌, drop}
use Rattle.ml_parse_types.specs.Types.{read}
use Rattle.ml_parse_types.proofs.TypeParts.{NamesAlong}
use Rattle.ml_parse_types.proofs.types.read_names.Given as goal

abbrev pub decreases-names : goal.decreases-names
decreases-names l = l.left - l.found.depth

abbrev pub invariant-names : goal.invariant-names
invariant-names l = record {
  along : NamesAlong (drop l.start l.tokens) (read l.fn.atom.ty l.fn.atom.depth (drop l.fn.at l.tokens)) (read l.found.ty l.found.depth (drop l.at l.tokens));
  small : l.found.depth ≤ l.left;
}
