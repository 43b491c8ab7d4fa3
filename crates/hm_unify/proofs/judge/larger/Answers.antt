use Rattle.std.proofs.Common.{[], ◌∷◌, sym, subst}
use Rattle.hm_unify.specs.Closing.{class_of}
use Rattle.hm_unify.specs.Shapes.{Finds, AreMeasured}
use Rattle.hm_unify.proofs.Verdicts.{AreMeasured-pair}
use Rattle.hm_unify.proofs.judge.larger.Goals as goal

pub returns-in_default : goal.returns-in_default
returns-in_default c = λ pairs seen k m.
    subst (Finds c.args.nodes.now c.args.bound.now pairs (class_of c.args.nodes.now c.args.bound.now k.root_of) c.args.first c.measure.new.marks) c.in_default.is (c.in_ok-one.ensures pairs seen k m)

pub returns-in_default-other : goal.returns-in_default-other
returns-in_default-other c = λ pairs seen k m.
    let f = subst (Finds c.args.nodes.now c.args.bound.now pairs (class_of c.args.nodes.now c.args.bound.now k.root_of) c.args.first c.measure.new.marks) c.in-Some.is (c.in_ok-one.ensures pairs seen k m) in
    subst (Finds c.args.nodes.now c.args.bound.now pairs (class_of c.args.nodes.now c.args.bound.now k.root_of) c.args.second c.measure-2.new.marks) c.in_default-other.is (c.in_ok-other.ensures pairs seen k f.1)

pub returns : goal.returns
returns c = λ pairs seen k m.
    let name = class_of c.args.nodes.now c.args.bound.now k.root_of in
    let f = subst (Finds c.args.nodes.now c.args.bound.now pairs name c.args.first c.measure.new.marks) c.in-Some.is (c.in_ok-one.ensures pairs seen k m) in
    let g = subst (Finds c.args.nodes.now c.args.bound.now pairs name c.args.second c.measure-2.new.marks) c.in-Some-other.is (c.in_ok-other.ensures pairs seen k f.1) in
    (subst (AreMeasured c.args.nodes.now name ((c.args.first, c.args.second) ∷ [])) (sym c.max.ensures) (AreMeasured-pair c.args.nodes.now name c.args.first c.args.second c.in-Some.left c.in-Some-other.right f.0 g.0), g.1)
