use Rattle.hm_terms.specs.Stores.{store}
use Rattle.hm_terms.specs.Copies.{AreCopies}
use Rattle.hm_infer.proofs.Declaring.{variable_found, con_found, tuple_found, arrow_found, some_ids}
use Rattle.hm_infer.proofs.declared.built.Goals as goal

pub returns-in-Var : goal.returns-in-Var
returns-in-Var c = λ declared w b. variable_found (store c.args.solver.now) declared w c.args.node.now _ c.variable.result c.in-Var.is c.variable.ensures b

pub returns-in_ok-id-in-Con : goal.returns-in_ok-id-in-Con
returns-in_ok-id-in-Con c = λ declared w b.
    let are : AreCopies (store c.args.solver.now).declared c.in-Con.parts c.in-Some.ids = some_ids (store c.args.solver.now) _ c.in-Con.parts _ c.in-Some.ids c.as_slice.ensures c.in_ok-ids-in-Con.ensures c.in-Some.is in
    con_found (store c.args.solver.now) (store c.add.new.self) declared w c.args.node.now _ c.in-Con.parts c.in-Some.ids c.in_ok-id-in-Con.id c.in-Con.is are c.in_ok-id-in-Con.ensures.adds b

pub returns-in_ok-id-in-Tuple : goal.returns-in_ok-id-in-Tuple
returns-in_ok-id-in-Tuple c = λ declared w b.
    let are : AreCopies (store c.args.solver.now).declared c.in-Tuple.parts c.in-Some-2.ids = some_ids (store c.args.solver.now) _ c.in-Tuple.parts _ c.in-Some-2.ids c.as_slice-in-Tuple.ensures c.in_ok-ids-in-Tuple.ensures c.in-Some-2.is in
    tuple_found (store c.args.solver.now) (store c.add-in-Tuple.new.self) declared w c.args.node.now c.in-Tuple.parts c.in-Some-2.ids c.in_ok-id-in-Tuple.id c.in-Tuple.is are c.in_ok-id-in-Tuple.ensures.adds b

pub returns-in_ok-id-in-Arrow : goal.returns-in_ok-id-in-Arrow
returns-in_ok-id-in-Arrow c = λ declared w b.
    arrow_found (store c.args.solver.now) (store c.add-in-Arrow.new.self) declared w c.args.node.now _ _ _ c.in-Some-declared.first c.in-Some-declared-2.second c.in_ok-id-in-Arrow.id c.in-Arrow.is c.in-Some-declared.ensures c.in-Some-declared-2.ensures c.in_ok-id-in-Arrow.ensures.adds b
