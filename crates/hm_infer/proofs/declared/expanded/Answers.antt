use Rattle.hm_terms.specs.Stores.{store}
use Rattle.hm_terms.specs.Copies.{AreCopies}
use Rattle.hm_infer.proofs.Declaring.{some_ids, expansion_at}
use Rattle.hm_infer.proofs.declared.expanded.Goals as goal

pub returns : goal.returns
returns c = λ declared.
    let are : AreCopies (store c.args.solver.now).declared c.in-Con.parts c.in-Some-2.arguments = some_ids (store c.args.solver.now) _ c.in-Con.parts _ c.in-Some-2.arguments c.as_slice.ensures c.in_ok-arguments.ensures c.in-Some-2.is in
    expansion_at (store c.args.solver.now) (store c.instance.new.solver) declared c.args.node.now _ c.args.body c.in-Some.root c.in_ok-id.id c.in-Con.parts c.in-Some-2.arguments c.as_slice-2.result c.in-Con.is c.in-Some.ensures are c.as_slice-2.ensures c.sound.ensures c.in_ok-id.ensures.lowers
