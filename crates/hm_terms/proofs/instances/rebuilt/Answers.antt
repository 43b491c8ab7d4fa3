use Rattle.std.proofs.Common.{List, nat_eq, refl, sym, ◌∙◌, subst}
use Rattle.std.specs.HashMap.{get}
use Rattle.std.proofs.lemmas.Result.{IfOk-weaker}
use Rattle.ml_types.specs.declared.node.TyId.{TyId}
use Rattle.hm_terms.specs.Stores.{store}
use Rattle.hm_terms.specs.Copies.{AreCopies}
use Rattle.hm_terms.proofs.Rebuilding.{con_new, con_same, tuple_new, tuple_same, arrow_new, arrow_same}
use Rattle.hm_terms.proofs.instances.rebuilt.Goals as goal

pub returns-then-same_ids-clause-rebuilt : goal.returns-then-same_ids-clause-rebuilt
returns-then-same_ids-clause-rebuilt c =
    con_same (store c.args.solver.now) (get nat_eq c.args.copies.now) c.args.id c.in-Some.node.now c.in-Con.number c.in-Con.parts c.in_ok-others-in-Con.others c.in-Some.ensures.some c.in-Con.is
    (subst (λ (ps : List TyId). AreCopies (get nat_eq c.args.copies.now) ps c.in_ok-others-in-Con.others) c.as_slice.ensures c.in_ok-others-in-Con.ensures)
    (sym c.as_slice-in-Con.ensures ∙ c.if-same_ids.ensures refl ∙ c.as_slice-in-Con-2.ensures)

pub returns-else-same_ids-clause-rebuilt : goal.returns-else-same_ids-clause-rebuilt
returns-else-same_ids-clause-rebuilt c =
    IfOk-weaker c.add.result _ _ (λ x k. con_new (store c.args.solver.now) (store c.add.new.self) (get nat_eq c.args.copies.now) c.args.id x c.in-Some.node.now c.in-Con.number c.in-Con.parts c.in_ok-others-in-Con.others c.in-Some.ensures.some c.in-Con.is
    (subst (λ (ps : List TyId). AreCopies (get nat_eq c.args.copies.now) ps c.in_ok-others-in-Con.others) c.as_slice.ensures c.in_ok-others-in-Con.ensures) k) c.add.ensures.adds

pub returns-then-same_ids-2-clause-rebuilt : goal.returns-then-same_ids-2-clause-rebuilt
returns-then-same_ids-2-clause-rebuilt c =
    tuple_same (store c.args.solver.now) (get nat_eq c.args.copies.now) c.args.id c.in-Some.node.now c.in-Tuple.parts c.in_ok-others-in-Tuple.others c.in-Some.ensures.some c.in-Tuple.is
    (subst (λ (ps : List TyId). AreCopies (get nat_eq c.args.copies.now) ps c.in_ok-others-in-Tuple.others) c.as_slice-in-Tuple.ensures c.in_ok-others-in-Tuple.ensures)
    (sym c.as_slice-in-Tuple-2.ensures ∙ c.if-same_ids-2.ensures refl ∙ c.as_slice-in-Tuple-3.ensures)

pub returns-else-same_ids-2-clause-rebuilt : goal.returns-else-same_ids-2-clause-rebuilt
returns-else-same_ids-2-clause-rebuilt c =
    IfOk-weaker c.add-in-Tuple.result _ _ (λ x k. tuple_new (store c.args.solver.now) (store c.add-in-Tuple.new.self) (get nat_eq c.args.copies.now) c.args.id x c.in-Some.node.now c.in-Tuple.parts c.in_ok-others-in-Tuple.others c.in-Some.ensures.some c.in-Tuple.is
    (subst (λ (ps : List TyId). AreCopies (get nat_eq c.args.copies.now) ps c.in_ok-others-in-Tuple.others) c.as_slice-in-Tuple.ensures c.in_ok-others-in-Tuple.ensures) k) c.add-in-Tuple.ensures.adds

pub returns-then-same_two-clause-rebuilt : goal.returns-then-same_two-clause-rebuilt
returns-then-same_two-clause-rebuilt c =
    let same = c.if-same_two.ensures refl in
    arrow_same (store c.args.solver.now) (get nat_eq c.args.copies.now) c.args.id c.in-Some.node.now c.in-Arrow.slot c.in-Arrow.from c.in-Arrow.to c.in_ok-first-in-Arrow.first c.in_ok-second-in-Arrow.second c.in-Some.ensures.some c.in-Arrow.is c.in_ok-first-in-Arrow.ensures c.in_ok-second-in-Arrow.ensures same.0 same.1

pub returns-else-same_two-clause-rebuilt : goal.returns-else-same_two-clause-rebuilt
returns-else-same_two-clause-rebuilt c =
    IfOk-weaker c.add-in-Arrow.result _ _ (λ x k. arrow_new (store c.args.solver.now) (store c.add-in-Arrow.new.self) (get nat_eq c.args.copies.now) c.args.id x c.in-Some.node.now c.in-Arrow.slot c.in-Arrow.from c.in-Arrow.to c.in_ok-first-in-Arrow.first c.in_ok-second-in-Arrow.second c.in-Some.ensures.some c.in-Arrow.is c.in_ok-first-in-Arrow.ensures c.in_ok-second-in-Arrow.ensures k) c.add-in-Arrow.ensures.adds
