use Rattle.std.proofs.Common.{◌+◌, ◌*◌, [], length, drop}
use Rattle.ml_parse_patterns.proofs.Chains.{OthersSoFar}
use Rattle.ml_parse_patterns.proofs.ListReadings.{SoFar, PatList, FieldList}
use Rattle.ml_parse_patterns.proofs.+patterns.Given as goal

abbrev pub decreases-simple::read_simple : goal.decreases-simple::read_simple
decreases-simple::read_simple l = 16 * l.left

abbrev pub decreases-simple::read_operand : goal.decreases-simple::read_operand
decreases-simple::read_operand l = 16 * l.left + 1

abbrev pub decreases-levels::add_cons : goal.decreases-levels::add_cons
decreases-levels::add_cons l = 16 * l.left + 2

abbrev pub decreases-levels::read_cons : goal.decreases-levels::read_cons
decreases-levels::read_cons l = 16 * l.left + 3

abbrev pub decreases-levels::add_tuple : goal.decreases-levels::add_tuple
decreases-levels::add_tuple l = 16 * l.left + 2

abbrev pub decreases-levels::read_tuple : goal.decreases-levels::read_tuple
decreases-levels::read_tuple l = 16 * l.left + 4

abbrev pub decreases-levels::add_other : goal.decreases-levels::add_other
decreases-levels::add_other l = 16 * l.left + 2

abbrev pub decreases-levels::add_others : goal.decreases-levels::add_others
decreases-levels::add_others l = 16 * l.left + 3

abbrev pub decreases-levels::read_pattern : goal.decreases-levels::read_pattern
decreases-levels::read_pattern l = 16 * l.left + 5

abbrev pub decreases-lists::read_part : goal.decreases-lists::read_part
decreases-lists::read_part l = 16 * l.left + 6

abbrev pub decreases-lists::read_list : goal.decreases-lists::read_list
decreases-lists::read_list l = 16 * l.left + 7

abbrev pub decreases-lists::read_field : goal.decreases-lists::read_field
decreases-lists::read_field l = 16 * l.left + 6

abbrev pub decreases-lists::read_fields : goal.decreases-lists::read_fields
decreases-lists::read_fields l = 16 * l.left + 7

abbrev pub decreases-simple::read_parens : goal.decreases-simple::read_parens
decreases-simple::read_parens l = 16 * l.below + 8

abbrev pub decreases-simple::read_elements : goal.decreases-simple::read_elements
decreases-simple::read_elements l = 16 * l.below + 8

abbrev pub decreases-simple::read_record : goal.decreases-simple::read_record
decreases-simple::read_record l = 16 * l.below + 8

abbrev pub invariant-lists::read_list-list : goal.invariant-lists::read_list-list
invariant-lists::read_list-list l = SoFar (PatList l.text l.listing) l.left (drop l.fn.at l.tokens) l.fn.before l.fn.depth (drop l.at l.tokens) l.list l.deepest

abbrev pub decreases-lists::read_list-list : goal.decreases-lists::read_list-list
decreases-lists::read_list-list l = length (drop l.at l.tokens)

abbrev pub invariant-lists::read_fields-fields : goal.invariant-lists::read_fields-fields
invariant-lists::read_fields-fields l = SoFar (FieldList l.text) l.left (drop l.fn.at l.tokens) [] 0 (drop l.at l.tokens) l.list l.deepest

abbrev pub decreases-lists::read_fields-fields : goal.decreases-lists::read_fields-fields
decreases-lists::read_fields-fields l = length (drop l.at l.tokens)

abbrev pub invariant-levels::add_others-others : goal.invariant-levels::add_others-others
invariant-levels::add_others-others l = OthersSoFar l.text l.left (drop l.from l.tokens) (drop l.fn.at l.tokens) l.fn.first (drop l.at l.tokens) l.found

abbrev pub decreases-levels::add_others-others : goal.decreases-levels::add_others-others
decreases-levels::add_others-others l = length (drop l.at l.tokens)
