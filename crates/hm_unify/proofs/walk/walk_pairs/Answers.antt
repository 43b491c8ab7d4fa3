use Rattle.std.proofs.Common.{take, get_or, sym, subst}
use Rattle.std.proofs.lemmas.Option.{slice_get-get_or, slice_get_past}
use Rattle.std.proofs.lemmas.List.{take_more}
use Rattle.ml_types.specs.declared.node.TyId.{TyId}
use Rattle.hm_unify.specs.Walks.{WalkPairs, all_walked}
use Rattle.hm_unify.proofs.Equations.{PairsWithin-at, Equates-at, IsIdOf-at, take-end}
use Rattle.hm_unify.proofs.Walks.{WalkPairs-push, Walk-back}
use Rattle.hm_unify.proofs.walk.walk_pairs.Goals as goal

abbrev none : TyId × TyId
none = (record { 0 = 0 }, record { 0 = 0 })

pub loop-pair-init : goal.loop-pair-init
loop-pair-init c = record { tabled = c.requires.tabled; walk = all_walked; solved = λ t s e. s }

pub walk-requires : goal.walk-requires
walk-requires c =
    let xs = c.args.pairs.now in
    let i = c.loop-pair.pair-index in
    let at = slice_get-get_or xs i none c.loop-pair-test.true in
    let within = PairsWithin-at _ xs i (get_or xs i none) c.requires.within at in
    let small = c.requires.small in
    record {
      tabled = c.loop-pair.invariant.tabled;
      within_left = within.0;
      within_right = within.1;
      instance = (small.0, c.loop-pair.invariant.solved small.0 small.1 small.2, Equates-at small.0 xs i (get_or xs i none) small.2 at, small.3 _ (IsIdOf-at xs i (get_or xs i none) at));
    }

pub loop-pair-preserved : goal.loop-pair-preserved
loop-pair-preserved c =
    let xs = c.args.pairs.now in
    let i = c.loop-pair.pair-index in
    let p = get_or xs i none in
    let at = slice_get-get_or xs i none c.loop-pair-test.true in
    record {
      tabled = c.walk.ensures.tabled;
      walk = subst (λ v. WalkPairs c.args.nodes.now c.args.bound.now v c.walk.new.bound) (sym (take_more xs i none c.loop-pair-test.true)) (WalkPairs-push c.args.nodes.now c.args.bound.now (take i xs) c.loop-pair.bound c.walk.new.bound p.0 p.1 c.loop-pair.invariant.walk c.walk.ensures.walk);
      solved = λ t s e. Walk-back c.args.nodes.now c.loop-pair.bound p.0 p.1 c.walk.new.bound t c.walk.ensures.walk (c.loop-pair.invariant.solved t s e) (Equates-at t xs i p e at);
    }

pub returns-clause-walk : goal.returns-clause-walk
returns-clause-walk c =
    subst (λ v. WalkPairs c.args.nodes.now c.args.bound.now v c.loop-pair.bound) (take-end c.args.pairs.now c.loop-pair.pair-index (slice_get_past c.args.pairs.now c.loop-pair.pair-index c.loop-pair-test.false)) c.loop-pair.invariant.walk
