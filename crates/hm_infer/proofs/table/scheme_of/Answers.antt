use Rattle.std.proofs.Common.{refl, rules}
use Rattle.hm_terms.specs.Stores.{store}
use Rattle.hm_infer.proofs.Uses.{walking_first, walking_next, walking_last}
use Rattle.hm_infer.proofs.table.scheme_of.Goals as goal

pub loop-node-init : goal.loop-node-init
loop-node-init c = record {
  walking = walking_first (store c.args.solver.now) c.args.ty c.new-vars.result c.push.new.self.items c.new-vars.ensures (search rules);
  seen = search rules;
}

pub returns-in_default : goal.returns-in_default
returns-in_default c = λ w stands. record {
  ty_is = refl;
  vars_are = walking_last (store c.args.solver.now) c.args.ty c.loop-node.vars c.loop-node.stack.items c.loop-node.invariant.walking (search rules) w stands;
}

pub loop-node-preserved : goal.loop-node-preserved
loop-node-preserved c =
    let v = c.in_ok-visit.ensures c.loop-node.invariant.seen in
    record {
      walking = walking_next (store c.args.solver.now) c.args.ty c.loop-node.vars c.visit.new.vars c.loop-node.stack.items c.pop.new.self.items c.visit.new.stack.items c.in-Some.id c.in-Some-head.node.now c.loop-node.invariant.walking (search rules) c.in-Some-head.ensures.some v.0;
      seen = v.1;
    }
