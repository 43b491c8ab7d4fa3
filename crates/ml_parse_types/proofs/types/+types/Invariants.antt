use Rattle.std.proofs.Common.{◌+◌, ◌*◌, ◌≤◌, length, drop}
use Rattle.ml_parse_types.proofs.Ranks.{extra}
use Rattle.ml_parse_types.proofs.TypeLists.{RowAlong}
use Rattle.ml_parse_types.proofs.types.+types.Given as goal

abbrev pub decreases-read_atom : goal.decreases-read_atom
decreases-read_atom l = 16 * l.left + 1

abbrev pub decreases-read_operand : goal.decreases-read_operand
decreases-read_operand l = 16 * l.left + 2

abbrev pub decreases-read_part : goal.decreases-read_part
decreases-read_part l = 16 * l.left + 3 + extra l.row

abbrev pub decreases-read_list : goal.decreases-read_list
decreases-read_list l = 16 * l.left + 4 + extra l.row

abbrev pub decreases-read_arrow : goal.decreases-read_arrow
decreases-read_arrow l = 16 * l.left + 5 + extra l.row

abbrev pub decreases-read_side : goal.decreases-read_side
decreases-read_side l = 16 * l.left + 6 + extra l.row

abbrev pub decreases-read_whole : goal.decreases-read_whole
decreases-read_whole l = 16 * l.left + 7 + extra l.row

abbrev pub decreases-read_group : goal.decreases-read_group
decreases-read_group l = 16 * l.left + 13

abbrev pub invariant-read_list-parts : goal.invariant-read_list-parts
invariant-read_list-parts l = record {
  along : RowAlong l.row (drop l.fn.at l.tokens) (drop l.at l.tokens) l.list l.depth;
  small : l.depth ≤ l.left;
}

abbrev pub decreases-read_list-parts : goal.decreases-read_list-parts
decreases-read_list-parts l = length (drop l.at l.tokens)
