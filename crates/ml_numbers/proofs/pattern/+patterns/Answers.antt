use Rattle.ml_tree.specs.declared.pattern.PatKind.TheVariants.{Tuple, List, Fields}
use Rattle.ml_numbers.specs.Numbered.{numbered_pattern, numbered_pattern_kind, numbered_field_pattern}
use Rattle.ml_numbers.proofs.Forms.{of_list, pattern_tuple, pattern_list, pattern_fields}
use Rattle.ml_numbers.proofs.Lists.{each_step, each_end}
use Rattle.ml_numbers.proofs.pattern.+patterns.Goals as goal

pub number_kind-returns-in_ok-number_patterns-in-Tuple : goal.number_kind-returns-in_ok-number_patterns-in-Tuple
number_kind-returns-in_ok-number_patterns-in-Tuple t c = of_list numbered_pattern_kind numbered_pattern Tuple c.args.kind.now _ _ _ _ _ pattern_tuple c.in-Tuple.is c.as_slice.ensures c.in_ok-number_patterns-in-Tuple.ensures

pub number_kind-returns-in_ok-number_patterns-in-List : goal.number_kind-returns-in_ok-number_patterns-in-List
number_kind-returns-in_ok-number_patterns-in-List t c = of_list numbered_pattern_kind numbered_pattern List c.args.kind.now _ _ _ _ _ pattern_list c.in-List.is c.as_slice-in-List.ensures c.in_ok-number_patterns-in-List.ensures

pub number_kind-returns-in_ok-list-in-Fields : goal.number_kind-returns-in_ok-list-in-Fields
number_kind-returns-in_ok-list-in-Fields t c = of_list numbered_pattern_kind numbered_field_pattern (λ list. Fields list c.in-Fields.rest) c.args.kind.now _ _ _ _ _ (pattern_fields c.in-Fields.rest) c.in-Fields.is c.as_slice-in-Fields.ensures c.in_ok-list-in-Fields.ensures

pub number_patterns-loop-one-preserved : goal.number_patterns-loop-one-preserved
number_patterns-loop-one-preserved t c = each_step numbered_pattern c.args.list.now c.loop-one.one-index _ _ _ _ _ _ _ c.loop-one-test.true c.one-item.is c.in_ok-number_pattern.ensures c.in_ok-push.ensures.ok c.loop-one.invariant

pub number_patterns-returns : goal.number_patterns-returns
number_patterns-returns t c = each_end numbered_pattern c.args.list.now c.loop-one.one-index _ _ _ c.loop-one-test.false c.loop-one.invariant

pub number_fields-loop-one-preserved : goal.number_fields-loop-one-preserved
number_fields-loop-one-preserved t c = each_step numbered_field_pattern c.args.list.now c.loop-one.one-index _ _ _ _ _ _ _ c.loop-one-test.true c.one-item.is c.in_ok-number_field.ensures c.in_ok-push.ensures.ok c.loop-one.invariant

pub number_fields-returns : goal.number_fields-returns
number_fields-returns t c = each_end numbered_field_pattern c.args.list.now c.loop-one.one-index _ _ _ c.loop-one-test.false c.loop-one.invariant
