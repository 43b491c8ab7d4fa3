use Rattle.std.proofs.Common.{◌≡◌, rules}
use Rattle.ml_types.specs.Types.{head_of}
use Rattle.hm_unify.proofs.Joins.{their_parts-from}
use Rattle.hm_unify.proofs.closure.push_common.Goals as goal

pub returns-clause-yes : goal.returns-clause-yes
returns-clause-yes c =
    let same : head_of c.node-one.result.now ≡ head_of c.node-other.result.now = search rules in
    let done = c.in_ok-push_parts.ensures in
    their_parts-from _ _ _ _ _ _ _ _ _ c.in-Built.is c.in-Built-right.is c.requires.built_left c.node-one.ensures c.node-other.ensures same (record { old = done.old; parts = done.parts; new = done.new; within = done.within })
