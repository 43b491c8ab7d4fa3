use Rattle.std.proofs.Common.{[], take}
use Rattle.hm_unify.specs.Solutions.{Pairs}
use Rattle.hm_unify.specs.Closing.{class_of, IsClosure}
use Rattle.hm_unify.specs.Shapes.{IsMarked, AreMeasured}
use Rattle.hm_unify.proofs.judge.largest.Given as goal

abbrev pub invariant-loop-pair : goal.invariant-loop-pair
invariant-loop-pair l =
    (pairs seen : Pairs) (k : IsClosure l.nodes l.bound pairs l.classes [] seen) → IsMarked l.nodes (class_of l.nodes l.bound k.root_of) l.initial.marks [] → AreMeasured l.nodes (class_of l.nodes l.bound k.root_of) (take l.pair-index l.list) l.size × IsMarked l.nodes (class_of l.nodes l.bound k.root_of) l.marks []
