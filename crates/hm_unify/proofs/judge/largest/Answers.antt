use Rattle.std.proofs.Common.{[], ◌∷◌, ◌++◌, take, get_or, sym, subst}
use Rattle.std.proofs.lemmas.Option.{slice_get-get_or, slice_get_past}
use Rattle.std.proofs.lemmas.List.{take_more}
use Rattle.ml_types.specs.declared.node.TyId.{TyId}
use Rattle.hm_unify.specs.Closing.{class_of}
use Rattle.hm_unify.specs.Shapes.{FindsAll, AreMeasured}
use Rattle.hm_unify.proofs.Equations.{PairsWithin-at, take-end}
use Rattle.hm_unify.proofs.Verdicts.{AreMeasured-append}
use Rattle.hm_unify.proofs.judge.largest.Goals as goal

abbrev none : TyId × TyId
none = (record { 0 = 0 }, record { 0 = 0 })

pub larger-requires-clause-within_first : goal.larger-requires-clause-within_first
larger-requires-clause-within_first c = (PairsWithin-at _ c.args.list.now c.loop-pair.pair-index (get_or c.args.list.now c.loop-pair.pair-index none) c.requires.within (slice_get-get_or c.args.list.now c.loop-pair.pair-index none c.loop-pair-test.true)).0

pub larger-requires-clause-within_second : goal.larger-requires-clause-within_second
larger-requires-clause-within_second c = (PairsWithin-at _ c.args.list.now c.loop-pair.pair-index (get_or c.args.list.now c.loop-pair.pair-index none) c.requires.within (slice_get-get_or c.args.list.now c.loop-pair.pair-index none c.loop-pair-test.true)).1

pub returns-in_default : goal.returns-in_default
returns-in_default c = λ pairs seen k m.
    subst (FindsAll c.args.nodes.now c.args.bound.now pairs (class_of c.args.nodes.now c.args.bound.now k.root_of) (get_or c.args.list.now c.loop-pair.pair-index none ∷ []) c.larger.new.marks) c.in_default.is (c.in_ok-found.ensures pairs seen k (c.loop-pair.invariant pairs seen k m).1)

pub loop-pair-preserved : goal.loop-pair-preserved
loop-pair-preserved c = λ pairs seen k m.
    let name = class_of c.args.nodes.now c.args.bound.now k.root_of in
    let xs = c.args.list.now in
    let i = c.loop-pair.pair-index in
    let old = c.loop-pair.invariant pairs seen k m in
    let f = subst (FindsAll c.args.nodes.now c.args.bound.now pairs name (get_or xs i none ∷ []) c.larger.new.marks) c.in-Some.is (c.in_ok-found.ensures pairs seen k old.1) in (
      subst (λ v. AreMeasured c.args.nodes.now name v c.max-size.result) (sym (take_more xs i none c.loop-pair-test.true))
          (subst (AreMeasured c.args.nodes.now name (take i xs ++ get_or xs i none ∷ [])) (sym c.max-size.ensures)
          (AreMeasured-append c.args.nodes.now name (take i xs) (get_or xs i none ∷ []) c.loop-pair.size c.in-Some.more old.0 f.0)),
      f.1,
    )

pub returns : goal.returns
returns c = λ pairs seen k m.
    let old = c.loop-pair.invariant pairs seen k m in
    (subst (λ v. AreMeasured c.args.nodes.now (class_of c.args.nodes.now c.args.bound.now k.root_of) v c.loop-pair.size) (take-end c.args.list.now c.loop-pair.pair-index (slice_get_past c.args.list.now c.loop-pair.pair-index c.loop-pair-test.false)) old.0, old.1)
