use Rattle.std.proofs.Common.{List, [], map, sym, subst}
use Rattle.std.proofs.lemmas.Result.{IfOk-weaker}
use Rattle.ml_types.specs.declared.node.TyId.{TyId}
use Rattle.ml_typing.specs.declared.equation.Term.{Term}
use Rattle.ml_typing.specs.declared.equation.Term.TheVariants as v
use Rattle.ml_typing.specs.Terms.{shape_of}
use Rattle.hm_terms.specs.Stores.{store, Grows}
use Rattle.hm_terms.specs.Shapes.{LowersAll}
use Rattle.hm_terms.proofs.Holding.{knows_lowers}
use Rattle.hm_terms.proofs.Building.{lowers_none}
use Rattle.hm_terms.proofs.Layers.{of_is, top_is, operation_is}
use Rattle.hm_terms.proofs.Walking.{term_lowers, take_all}
use Rattle.hm_terms.proofs.Terms.{argument_term, field_term, con_term, tuple_term, function_term, term_next}
use Rattle.hm_terms.specs.Spelling.{SpellAll, is_top, is_operation, is_made, is_argument, is_field, no_term}
use Rattle.hm_terms.proofs.Growth.{grows_same}
use Rattle.hm_terms.proofs.SpellSteps.{unknown_spells, no_slot, ok_then, named_spells, tuple_spells, function_spells, spell_next}
use Rattle.hm_terms.proofs.lowering.+terms.Goals as goal

pub type_of-returns-in-Of-clause-lowers : goal.type_of-returns-in-Of-clause-lowers
type_of-returns-in-Of-clause-lowers t c = IfOk-weaker c.unknown.result _ _
    (λ x n d k. term_lowers (store c.args.solver.now) (store c.unknown.new.self) d c.args.term.now (v.Of c.in-Of.unknown) _ x c.in-Of.is (of_is d c.in-Of.unknown) (knows_lowers (store c.args.solver.now) (store c.unknown.new.self) c.in-Of.unknown x k.ready n))
    c.unknown.ensures.knows

pub type_of-returns-in-Top-clause-lowers : goal.type_of-returns-in-Top-clause-lowers
type_of-returns-in-Top-clause-lowers t c = IfOk-weaker c.top_type.result _ _
    (λ x l d k. term_lowers (store c.args.solver.now) (store c.top_type.new.solver) d c.args.term.now (v.Top c.in-Top.binder c.in-Top.node) _ x c.in-Top.is (top_is d c.in-Top.binder c.in-Top.node) (l d k))
    c.top_type.ensures.lowers

pub type_of-returns-in-Operation-clause-lowers : goal.type_of-returns-in-Operation-clause-lowers
type_of-returns-in-Operation-clause-lowers t c = IfOk-weaker c.operation_type.result _ _
    (λ x l d k. term_lowers (store c.args.solver.now) (store c.operation_type.new.solver) d c.args.term.now (v.Operation c.in-Operation.op c.in-Operation.node) _ x c.in-Operation.is (operation_is d c.in-Operation.op c.in-Operation.node) (l d k))
    c.operation_type.ensures.lowers

pub type_of-returns-in-Argument-clause-lowers : goal.type_of-returns-in-Argument-clause-lowers
type_of-returns-in-Argument-clause-lowers t c = IfOk-weaker c.argument_type.result _ _
    (λ x l d k. argument_term (store c.args.solver.now) (store c.argument_type.new.solver) c.args.d.now.types d c.args.term.now c.in-Argument.decl c.in-Argument.con c.in-Argument.node x c.in-Argument.is k (l d k))
    c.argument_type.ensures.lowers

pub type_of-returns-in-Field-clause-lowers : goal.type_of-returns-in-Field-clause-lowers
type_of-returns-in-Field-clause-lowers t c = IfOk-weaker c.field_type.result _ _
    (λ x l d k. field_term (store c.args.solver.now) (store c.field_type.new.solver) c.args.d.now.types d c.args.term.now c.in-Field.decl c.in-Field.field c.in-Field.node x c.in-Field.is k (l d k))
    c.field_type.ensures.lowers

pub type_of-returns-in_ok-ids-in-Con-clause-lowers : goal.type_of-returns-in_ok-ids-in-Con-clause-lowers
type_of-returns-in_ok-ids-in-Con-clause-lowers t c = IfOk-weaker c.named_type.result _ _
    (λ x l d k. con_term (store c.args.solver.now) (store c.types_of.new.solver) (store c.named_type.new.solver) c.args.d.now.types d c.args.term.now c.in-Con.decl c.in-Con.args c.as_slice.result.now c.in_ok-ids-in-Con.ids x c.in-Con.is c.as_slice.ensures k (c.in_ok-ids-in-Con.ensures.lowers d k) l)
    c.named_type.ensures.lowers

pub type_of-returns-in_ok-ids-in-Tuple-clause-lowers : goal.type_of-returns-in_ok-ids-in-Tuple-clause-lowers
type_of-returns-in_ok-ids-in-Tuple-clause-lowers t c = IfOk-weaker c.add.result _ _
    (λ x a d k. tuple_term (store c.args.solver.now) (store c.types_of-in-Tuple.new.solver) (store c.add.new.self) c.args.d.now.types d c.args.term.now c.in-Tuple.parts c.as_slice-in-Tuple.result.now c.in_ok-ids-in-Tuple.ids x c.in-Tuple.is c.as_slice-in-Tuple.ensures k (c.in_ok-ids-in-Tuple.ensures.lowers d k) a)
    c.add.ensures.adds

pub type_of-returns-in_ok-to-in-Function-clause-lowers : goal.type_of-returns-in_ok-to-in-Function-clause-lowers
type_of-returns-in_ok-to-in-Function-clause-lowers t c = IfOk-weaker c.function_type.result _ _
    (λ x l d k. function_term (store c.args.solver.now) (store c.types_of-in-Function.new.solver) (store c.type_of.new.solver) (store c.function_type.new.solver) c.args.d.now.types d c.args.term.now c.in-Function.result c.get.result.now c.in-Function.params c.as_slice-in-Function.result.now c.in_ok-ids-in-Function.ids c.as_slice-in-Function-2.result.now c.in_ok-to-in-Function.to x
    c.in-Function.is c.as_slice-in-Function.ensures c.get.ensures c.as_slice-in-Function-2.ensures k (c.in_ok-ids-in-Function.ensures.lowers d k) c.in_ok-to-in-Function.ensures.lowers l)
    c.function_type.ensures.lowers

pub type_of-returns-in-Of-clause-spells : goal.type_of-returns-in-Of-clause-spells
type_of-returns-in-Of-clause-spells t c = IfOk-weaker c.unknown.result _ _
    (λ x n r. unknown_spells (store c.args.solver.now) (store c.unknown.new.self) c.args.d.now.types c.args.solver.now.slots c.unknown.new.self.slots c.args.term.now c.in-Of.unknown x c.in-Of.is c.unknown.ensures.slots n)
    c.unknown.ensures.knows

pub type_of-returns-in-Top-clause-spells : goal.type_of-returns-in-Top-clause-spells
type_of-returns-in-Top-clause-spells t c = ok_then c.top_type.result _ _ _
    (λ x same k r. (let m = k r in (m.0, no_slot (store c.top_type.new.solver) c.args.d.now.types c.args.solver.now.slots c.top_type.new.solver.slots c.args.term.now x same (is_top c.args.solver.now.slots c.args.term.now x c.in-Top.binder c.in-Top.node c.in-Top.is m.1))))
    c.top_type.ensures.slots c.top_type.ensures.copies

pub type_of-returns-in-Operation-clause-spells : goal.type_of-returns-in-Operation-clause-spells
type_of-returns-in-Operation-clause-spells t c = ok_then c.operation_type.result _ _ _
    (λ x same k r. (let m = k r in (m.0, no_slot (store c.operation_type.new.solver) c.args.d.now.types c.args.solver.now.slots c.operation_type.new.solver.slots c.args.term.now x same (is_operation c.args.solver.now.slots c.args.term.now x c.in-Operation.op c.in-Operation.node c.in-Operation.is m.1))))
    c.operation_type.ensures.slots c.operation_type.ensures.copies

pub type_of-returns-in-Made-clause-spells : goal.type_of-returns-in-Made-clause-spells
type_of-returns-in-Made-clause-spells t c = ok_then c.made_type.result _ _ _
    (λ x same k r. (let m = k in (m.0, no_slot (store c.made_type.new.solver) c.args.d.now.types c.args.solver.now.slots c.made_type.new.solver.slots c.args.term.now x same (is_made c.args.solver.now.slots c.args.term.now x c.in-Made.decl c.in-Made.node c.in-Made.is m.1))))
    c.made_type.ensures.slots c.made_type.ensures.makes

pub type_of-returns-in-Argument-clause-spells : goal.type_of-returns-in-Argument-clause-spells
type_of-returns-in-Argument-clause-spells t c = ok_then c.argument_type.result _ _ _
    (λ x same k r. (let m = k r in (m.0, no_slot (store c.argument_type.new.solver) c.args.d.now.types c.args.solver.now.slots c.argument_type.new.solver.slots c.args.term.now x same (is_argument c.args.solver.now.slots c.args.term.now x c.in-Argument.decl c.in-Argument.con c.in-Argument.node c.in-Argument.is m.1))))
    c.argument_type.ensures.slots c.argument_type.ensures.copies

pub type_of-returns-in-Field-clause-spells : goal.type_of-returns-in-Field-clause-spells
type_of-returns-in-Field-clause-spells t c = ok_then c.field_type.result _ _ _
    (λ x same k r. (let m = k r in (m.0, no_slot (store c.field_type.new.solver) c.args.d.now.types c.args.solver.now.slots c.field_type.new.solver.slots c.args.term.now x same (is_field c.args.solver.now.slots c.args.term.now x c.in-Field.decl c.in-Field.field c.in-Field.node c.in-Field.is m.1))))
    c.field_type.ensures.slots c.field_type.ensures.copies

pub type_of-returns-in_ok-ids-in-Con-clause-spells : goal.type_of-returns-in_ok-ids-in-Con-clause-spells
type_of-returns-in_ok-ids-in-Con-clause-spells t c = ok_then c.named_type.result _ _ _
    (λ x same l r. named_spells (store c.args.solver.now) (store c.types_of.new.solver) (store c.named_type.new.solver) c.args.d.now.types c.args.solver.now.slots c.types_of.new.solver.slots c.named_type.new.solver.slots c.args.term.now c.in-Con.decl c.in-Con.args c.as_slice.result.now c.in_ok-ids-in-Con.ids x c.in-Con.is c.as_slice.ensures r (c.in_ok-ids-in-Con.ensures.spells r) same l)
    c.named_type.ensures.slots c.named_type.ensures.makes

pub type_of-returns-in_ok-ids-in-Tuple-clause-spells : goal.type_of-returns-in_ok-ids-in-Tuple-clause-spells
type_of-returns-in_ok-ids-in-Tuple-clause-spells t c = IfOk-weaker c.add.result _ _
    (λ x a r. tuple_spells (store c.args.solver.now) (store c.types_of-in-Tuple.new.solver) (store c.add.new.self) c.args.d.now.types c.args.solver.now.slots c.types_of-in-Tuple.new.solver.slots c.add.new.self.slots c.args.term.now c.in-Tuple.parts c.as_slice-in-Tuple.result.now c.in_ok-ids-in-Tuple.ids x c.in-Tuple.is c.as_slice-in-Tuple.ensures r (c.in_ok-ids-in-Tuple.ensures.spells r) c.add.ensures.slots a)
    c.add.ensures.adds

pub type_of-returns-in_ok-to-in-Function-clause-spells : goal.type_of-returns-in_ok-to-in-Function-clause-spells
type_of-returns-in_ok-to-in-Function-clause-spells t c = IfOk-weaker c.function_type.result _ _
    (λ x arrows r. function_spells (store c.args.solver.now) (store c.types_of-in-Function.new.solver) (store c.type_of.new.solver) (store c.function_type.new.solver) c.args.d.now.types c.args.solver.now.slots c.types_of-in-Function.new.solver.slots c.type_of.new.solver.slots c.function_type.new.solver.slots c.args.term.now c.in-Function.result c.get.result.now c.in-Function.params c.as_slice-in-Function.result.now c.in_ok-ids-in-Function.ids c.as_slice-in-Function-2.result.now c.in_ok-to-in-Function.to x
    c.in-Function.is c.as_slice-in-Function.ensures c.get.ensures c.as_slice-in-Function-2.ensures r (c.in_ok-ids-in-Function.ensures.spells r) c.in_ok-to-in-Function.ensures.spells arrows)
    c.function_type.ensures.arrows

pub types_of-loop-term-init : goal.types_of-loop-term-init
types_of-loop-term-init t c = record {
  lowers = λ d k. subst (λ (xs : List TyId). LowersAll (store c.args.solver.now) (store c.args.solver.now) [] xs) (sym c.new-ids.ensures) (lowers_none (store c.args.solver.now));
  spells = λ r. (grows_same (store c.args.solver.now), subst (λ (xs : List TyId). SpellAll (store c.args.solver.now) c.args.d.now.types c.args.solver.now.slots [] c.args.solver.now.slots xs) (sym c.new-ids.ensures) (no_term c.args.solver.now.slots));
}

pub types_of-loop-term-preserved : goal.types_of-loop-term-preserved
types_of-loop-term-preserved t c = record {
  lowers = λ d k.
      term_next (store c.args.solver.now) (store c.loop-term.solver) (store c.type_of.new.solver) c.args.d.now.types d c.args.terms.now c.loop-term.term-index _ c.in_ok-id.id c.loop-term.ids _ c.loop-term-test.true c.term-item.is k (c.loop-term.invariant.lowers d k) c.in_ok-id.ensures.lowers c.in_ok-push.ensures.ok;
  spells = λ r.
      spell_next (store c.args.solver.now) (store c.loop-term.solver) (store c.type_of.new.solver) c.args.d.now.types c.args.solver.now.slots c.loop-term.solver.slots c.type_of.new.solver.slots c.args.terms.now c.loop-term.term-index _ c.in_ok-id.id c.loop-term.ids _ c.loop-term-test.true c.term-item.is r (c.loop-term.invariant.spells r) c.in_ok-id.ensures.spells c.in_ok-push.ensures.ok;
}

pub types_of-returns-clause-lowers : goal.types_of-returns-clause-lowers
types_of-returns-clause-lowers t c = λ d k.
    subst (λ (ts : List Term). LowersAll (store c.args.solver.now) (store c.loop-term.solver) (map (shape_of d) ts) c.loop-term.ids) (take_all c.args.terms.now c.loop-term.term-index c.loop-term-test.false) (c.loop-term.invariant.lowers d k)

pub types_of-returns-clause-spells : goal.types_of-returns-clause-spells
types_of-returns-clause-spells t c = λ r.
    subst (λ (ts : List Term). Grows (store c.args.solver.now) (store c.loop-term.solver) × SpellAll (store c.loop-term.solver) c.args.d.now.types c.args.solver.now.slots ts c.loop-term.solver.slots c.loop-term.ids) (take_all c.args.terms.now c.loop-term.term-index c.loop-term-test.false) (c.loop-term.invariant.spells r)
