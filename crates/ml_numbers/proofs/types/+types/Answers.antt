use Rattle.ml_tree.specs.declared.types.TyKind.TheVariants.{Con, Tuple}
use Rattle.ml_numbers.specs.Numbered.{numbered_type, numbered_type_kind}
use Rattle.ml_numbers.proofs.Forms.{of_list, type_con, type_tuple}
use Rattle.ml_numbers.proofs.Lists.{each_step, each_end}
use Rattle.ml_numbers.proofs.types.+types.Goals as goal

pub number_kind-returns-in_ok-args-in-Con : goal.number_kind-returns-in_ok-args-in-Con
number_kind-returns-in_ok-args-in-Con t c = of_list numbered_type_kind numbered_type (Con c.in-Con.name) c.args.kind.now _ _ _ _ _ (type_con c.in-Con.name) c.in-Con.is c.as_slice.ensures c.in_ok-args-in-Con.ensures

pub number_kind-returns-in_ok-number_types-in-Tuple : goal.number_kind-returns-in_ok-number_types-in-Tuple
number_kind-returns-in_ok-number_types-in-Tuple t c = of_list numbered_type_kind numbered_type Tuple c.args.kind.now _ _ _ _ _ type_tuple c.in-Tuple.is c.as_slice-in-Tuple.ensures c.in_ok-number_types-in-Tuple.ensures

pub number_types-loop-one-preserved : goal.number_types-loop-one-preserved
number_types-loop-one-preserved t c = each_step numbered_type c.args.list.now c.loop-one.one-index _ _ _ _ _ _ _ c.loop-one-test.true c.one-item.is c.in_ok-number_type.ensures c.in_ok-push.ensures.ok c.loop-one.invariant

pub number_types-returns : goal.number_types-returns
number_types-returns t c = each_end numbered_type c.args.list.now c.loop-one.one-index _ _ _ c.loop-one-test.false c.loop-one.invariant
