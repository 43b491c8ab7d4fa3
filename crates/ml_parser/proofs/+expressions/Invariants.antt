-- Each call goes to a tree that may be less deep, or at the same depth to a part further down in the grammar.
use Rattle.std.proofs.Common.{◌≤◌, length, drop, ◌+◌, ◌*◌}
use Rattle.ml_grammar.specs.Looks.{behind_bar}
use Rattle.ml_grammar.specs.Grammar.{arms, binds, operators, Reads, exprs, fields}
use Rattle.ml_grammar.proofs.Items.{ListSoFar}
use Rattle.ml_grammar.specs.Readings.{IsRead}
use Rattle.ml_parser.proofs.Sequences.{LeftSoFar}
use Rattle.ml_grammar.proofs.Levels.{SimpleSoFar}
use Rattle.ml_parser.proofs.Ranks.{part_rank, parts_rank}
use Rattle.ml_parser.proofs.+expressions.Given as goal

abbrev pub decreases-arms::read_action : goal.decreases-arms::read_action
decreases-arms::read_action l = 32 * l.left + 15

abbrev pub decreases-arms::read_arm : goal.decreases-arms::read_arm
decreases-arms::read_arm l = 32 * l.left + 16

abbrev pub decreases-arms::read_arms : goal.decreases-arms::read_arms
decreases-arms::read_arms l = 32 * l.left + 17

abbrev pub decreases-arms::read_guard : goal.decreases-arms::read_guard
decreases-arms::read_guard l = 32 * l.left + 14

abbrev pub decreases-atom::read_atom : goal.decreases-atom::read_atom
decreases-atom::read_atom l = 32 * l.left + 2

abbrev pub decreases-atom::read_begin : goal.decreases-atom::read_begin
decreases-atom::read_begin l = 32 * l.left + 1

abbrev pub decreases-atom::read_elements : goal.decreases-atom::read_elements
decreases-atom::read_elements l = 32 * l.left + 1

abbrev pub decreases-atom::read_paren : goal.decreases-atom::read_paren
decreases-atom::read_paren l = 32 * l.left + 1

abbrev pub decreases-atom::read_record : goal.decreases-atom::read_record
decreases-atom::read_record l = 32 * l.left + 1

abbrev pub decreases-bind::read_bind : goal.decreases-bind::read_bind
decreases-bind::read_bind l = 32 * l.left + 14

abbrev pub decreases-bind::read_binds : goal.decreases-bind::read_binds
decreases-bind::read_binds l = 32 * l.left + 15

abbrev pub decreases-bind::read_value : goal.decreases-bind::read_value
decreases-bind::read_value l = 32 * l.left + 13

abbrev pub decreases-expression::read_behind : goal.decreases-expression::read_behind
decreases-expression::read_behind l = 32 * l.left + 13

abbrev pub decreases-expression::read_level : goal.decreases-expression::read_level
decreases-expression::read_level l = 32 * l.left + 3

abbrev pub decreases-expression::read_operators : goal.decreases-expression::read_operators
decreases-expression::read_operators l = 32 * l.left + 8

abbrev pub decreases-expression::read_second : goal.decreases-expression::read_second
decreases-expression::read_second l = 32 * l.left + 1

abbrev pub decreases-expression::read_to_left : goal.decreases-expression::read_to_left
decreases-expression::read_to_left l = 32 * l.left + 2

abbrev pub decreases-expression::read_until : goal.decreases-expression::read_until
decreases-expression::read_until l = 32 * l.left + 13

abbrev pub decreases-list::read_list : goal.decreases-list::read_list
decreases-list::read_list l = 32 * l.left + 13

abbrev pub decreases-operand::read_borrow : goal.decreases-operand::read_borrow
decreases-operand::read_borrow l = 32 * l.left + 1

abbrev pub decreases-operand::read_branches : goal.decreases-operand::read_branches
decreases-operand::read_branches l = 32 * l.left + 14

abbrev pub decreases-operand::read_else : goal.decreases-operand::read_else
decreases-operand::read_else l = 32 * l.left + 13

abbrev pub decreases-operand::read_exclave : goal.decreases-operand::read_exclave
decreases-operand::read_exclave l = 32 * l.left + 1

abbrev pub decreases-operand::read_fun : goal.decreases-operand::read_fun
decreases-operand::read_fun l = 32 * l.left + 1

abbrev pub decreases-operand::read_function : goal.decreases-operand::read_function
decreases-operand::read_function l = 32 * l.left + 1

abbrev pub decreases-operand::read_if : goal.decreases-operand::read_if
decreases-operand::read_if l = 32 * l.left + 1

abbrev pub decreases-operand::read_let : goal.decreases-operand::read_let
decreases-operand::read_let l = 32 * l.left + 1

abbrev pub decreases-operand::read_match : goal.decreases-operand::read_match
decreases-operand::read_match l = 32 * l.left + 1

abbrev pub decreases-operand::read_minus : goal.decreases-operand::read_minus
decreases-operand::read_minus l = 32 * l.left + 1

abbrev pub decreases-operand::read_operand : goal.decreases-operand::read_operand
decreases-operand::read_operand l = 32 * l.left + 7

abbrev pub decreases-operand::read_worded : goal.decreases-operand::read_worded
decreases-operand::read_worded l = 32 * l.left + 1

abbrev pub decreases-overwrite::read_block : goal.decreases-overwrite::read_block
decreases-overwrite::read_block l = 32 * l.left + 1

abbrev pub decreases-overwrite::read_cell : goal.decreases-overwrite::read_cell
decreases-overwrite::read_cell l = 32 * l.left + 1

abbrev pub decreases-overwrite::read_con : goal.decreases-overwrite::read_con
decreases-overwrite::read_con l = 32 * l.left + 2

abbrev pub decreases-overwrite::read_overwrite : goal.decreases-overwrite::read_overwrite
decreases-overwrite::read_overwrite l = 32 * l.left + 1

abbrev pub decreases-record::read_field : goal.decreases-record::read_field
decreases-record::read_field l = 32 * l.left + 13

abbrev pub decreases-record::read_fields : goal.decreases-record::read_fields
decreases-record::read_fields l = 32 * l.left + 14

abbrev pub decreases-simple::read_index : goal.decreases-simple::read_index
decreases-simple::read_index l = 32 * l.left + 1

abbrev pub decreases-simple::read_simple : goal.decreases-simple::read_simple
decreases-simple::read_simple l = 32 * l.left + 4

abbrev pub decreases-simple::read_suffix : goal.decreases-simple::read_suffix
decreases-simple::read_suffix l = 32 * l.left + 3

abbrev pub decreases-expression::read_part : goal.decreases-expression::read_part
decreases-expression::read_part l = 32 * l.left + part_rank l.kind

abbrev pub decreases-expression::read_parts : goal.decreases-expression::read_parts
decreases-expression::read_parts l = 32 * l.left + parts_rank l.kind

abbrev pub invariant-arms::read_arms-arms : goal.invariant-arms::read_arms-arms
invariant-arms::read_arms-arms l = record {
  so_far : ListSoFar l.source.text.now arms (behind_bar (drop l.fn.at l.source.tokens.now)) l.list.tree l.list.depth (drop l.at l.source.tokens.now);
  small : l.list.depth ≤ l.left;
}

abbrev pub decreases-arms::read_arms-arms : goal.decreases-arms::read_arms-arms
decreases-arms::read_arms-arms l = length (drop l.at l.source.tokens.now)

abbrev pub invariant-bind::read_binds-binds : goal.invariant-bind::read_binds-binds
invariant-bind::read_binds-binds l = record {
  so_far : ListSoFar l.source.text.now binds (drop l.fn.at l.source.tokens.now) l.list.tree l.list.depth (drop l.at l.source.tokens.now);
  small : l.list.depth ≤ l.left;
}

abbrev pub decreases-bind::read_binds-binds : goal.decreases-bind::read_binds-binds
decreases-bind::read_binds-binds l = length (drop l.at l.source.tokens.now)

abbrev pub invariant-expression::read_operators-levels : goal.invariant-expression::read_operators-levels
invariant-expression::read_operators-levels l = IsRead (Reads l.source.text.now (operators l.lower) (drop l.fn.at l.source.tokens.now)) l.left l.found.tree l.found.depth (drop l.at l.source.tokens.now)

abbrev pub invariant-expression::read_to_left-operators : goal.invariant-expression::read_to_left-operators
invariant-expression::read_to_left-operators l = record {
  so_far : LeftSoFar l.source.text.now l.lower l.fn.first.tree l.fn.first.depth (drop l.fn.at l.source.tokens.now) l.found.tree l.found.depth (drop l.at l.source.tokens.now);
  small : l.found.depth ≤ l.left;
}

abbrev pub decreases-expression::read_to_left-operators : goal.decreases-expression::read_to_left-operators
decreases-expression::read_to_left-operators l = length (drop l.at l.source.tokens.now)

abbrev pub invariant-list::read_list-parts : goal.invariant-list::read_list-parts
invariant-list::read_list-parts l = record {
  so_far : ListSoFar l.source.text.now (exprs l.kind) (drop l.fn.at l.source.tokens.now) l.list.tree l.list.depth (drop l.at l.source.tokens.now);
  small : l.list.depth ≤ l.left;
}

abbrev pub decreases-list::read_list-parts : goal.decreases-list::read_list-parts
decreases-list::read_list-parts l = length (drop l.at l.source.tokens.now)

abbrev pub invariant-record::read_fields-fields : goal.invariant-record::read_fields-fields
invariant-record::read_fields-fields l = record {
  so_far : ListSoFar l.source.text.now fields (drop l.fn.at l.source.tokens.now) l.list.tree l.list.depth (drop l.at l.source.tokens.now);
  small : l.list.depth ≤ l.left;
}

abbrev pub decreases-record::read_fields-fields : goal.decreases-record::read_fields-fields
decreases-record::read_fields-fields l = length (drop l.at l.source.tokens.now)

abbrev pub invariant-simple::read_simple-suffixes : goal.invariant-simple::read_simple-suffixes
invariant-simple::read_simple-suffixes l = record {
  so_far : SimpleSoFar l.source.text.now (drop l.fn.at l.source.tokens.now) l.found.tree l.found.depth (drop l.at l.source.tokens.now);
  small : l.found.depth ≤ l.left;
}

abbrev pub decreases-simple::read_simple-suffixes : goal.decreases-simple::read_simple-suffixes
decreases-simple::read_simple-suffixes l = length (drop l.at l.source.tokens.now)
