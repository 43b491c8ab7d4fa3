use Rattle.std.proofs.Common.{[], length}
use Rattle.hm_unify.specs.Solutions.{Pairs}
use Rattle.hm_unify.specs.Closing.{class_of, IsClosure, IsBuiltRoot}
use Rattle.hm_unify.specs.Shapes.{FramesWithin, IsSearching, IsMarked}
use Rattle.hm_unify.proofs.measure.search.Given as goal

abbrev pub invariant-loop-step : goal.invariant-loop-step
invariant-loop-step l = record {
  frames : FramesWithin (length l.nodes) l.stack.items;
  searching : (pairs seen : Pairs) (k : IsClosure l.nodes l.bound pairs l.classes [] seen) → IsBuiltRoot l.nodes (class_of l.nodes l.bound k.root_of) l.fn.top → IsMarked l.nodes (class_of l.nodes l.bound k.root_of) l.fn.marks [] → IsSearching l.nodes (class_of l.nodes l.bound k.root_of) l.marks l.stack.items l.fn.top;
}
