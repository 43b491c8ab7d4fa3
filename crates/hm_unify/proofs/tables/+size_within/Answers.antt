use Rattle.std.proofs.Common.{◌<◌, sym, ◌∙◌, arith}
use Rattle.ml_types.specs.Types.{parts_of}
use Rattle.hm_unify.proofs.Ends.{none_from}
use Rattle.hm_unify.proofs.Sizes.{Counts-more, Counts-full, Counts-all}
use Rattle.hm_unify.proofs.tables.+size_within.Goals as goal

pub returns-then-count-most-clause-value : goal.returns-then-count-most-clause-value
returns-then-count-most-clause-value t c =
    Counts-full c.args.nodes.now c.args.bound.now c.args.id c.end_of.result c.node-top.result.now c.loop-at.at c.loop-at.count c.args.most c.end_of.ensures.ends c.node-top.ensures c.loop-at.invariant.counts c.if-count-most.true

pub returns-in_default-clause-value : goal.returns-in_default-clause-value
returns-in_default-clause-value t c =
    Counts-all c.args.nodes.now c.args.bound.now c.args.id c.end_of.result c.node-top.result.now c.loop-at.at c.loop-at.count c.args.most c.end_of.ensures.ends c.node-top.ensures c.loop-at.invariant.counts (sym c.part.ensures ∙ none_from _ c.in_default.not-Some)

pub loop-at-preserved : goal.loop-at-preserved
loop-at-preserved t c =
    let v = c.size_within-count.ensures.value in
    let m = c.size_within-count.ensures.most in
    let left : c.loop-at.count < c.args.most = (let w = c.loop-at.invariant.most in let d = c.if-count-most.false in omega (arith, w, d)) in
    let s = c.size_within-count.ensures.some (omega (arith, left)) in
    record {
      counts = Counts-more c.args.nodes.now c.args.bound.now (parts_of c.node-top.result.now) c.loop-at.at c.in-Some.inner c.loop-at.count c.size_within-count.result c.args.most c.loop-at.invariant.counts (sym c.in-Some.ensures) c.loop-at.invariant.most v;
      below = (let w = c.loop-at.invariant.below in omega (arith, w, s));
      most = omega (arith, left, m);
    }
