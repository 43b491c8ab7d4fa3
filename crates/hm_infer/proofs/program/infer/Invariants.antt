use Rattle.std.proofs.Common.{map, take}
use Rattle.ml_types.specs.declared.node.TyId.{TyId as TyIdValue}
use Rattle.ml_types.specs.Types.{Tree}
use Rattle.ml_typing.specs.Typing.{Reads, first_context, steps_of_item}
use Rattle.hm_terms.specs.Stores.{store}
use Rattle.hm_infer.specs.Answers.{SomeBehind}
use Rattle.hm_infer.specs.Spelled.{ItemsRun}
use Rattle.hm_infer.proofs.program.infer.Given as goal

abbrev pub invariant-loop-number : goal.invariant-loop-number
invariant-loop-number l = record {
  behind : (declared : TyIdValue → Tree) → Reads l.d.types l.fn.t.nodes declared → SomeBehind (store l.solver) l.d.types (first_context l.d.types declared) (map (steps_of_item l.s.refs l.s.types) (take l.number l.items)) l.found;
  runs : (declared : TyIdValue → Tree) → Reads l.d.types l.fn.t.nodes declared → ItemsRun l.d.types (store l.initial.solver) l.initial.solver.slots (map (steps_of_item l.s.refs l.s.types) (take l.number l.items)) (store l.solver) l.solver.slots;
}
