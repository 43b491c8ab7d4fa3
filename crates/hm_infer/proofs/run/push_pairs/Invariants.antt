use Rattle.std.proofs.Common.{List, ◌++◌, map, take}
use Rattle.ml_typing.specs.Terms.{Context}
use Rattle.ml_typing.specs.Typing.{Pair, pair_of}
use Rattle.hm_terms.specs.Stores.{store, IsReady}
use Rattle.hm_terms.specs.Contexts.{IsRead}
use Rattle.hm_infer.specs.Running.{HoldPairs, LowersPairs}
use Rattle.hm_infer.specs.Spelled.{PushesSpelled}
use Rattle.hm_infer.proofs.run.push_pairs.Given as goal

abbrev pub invariant-loop-equation : goal.invariant-loop-equation
invariant-loop-equation l = record {
  lowers : (c : Context) (before : List Pair) → IsRead (store l.initial.solver) l.d.types c → HoldPairs (store l.initial.solver) before l.initial.pairs.items → LowersPairs (store l.initial.solver) (store l.solver) (before ++ map (pair_of c) (take l.equation-index l.equations)) l.pairs.items;
  spells : IsReady (store l.initial.solver) → PushesSpelled (store l.initial.solver) (store l.solver) l.d.types l.initial.solver.slots (take l.equation-index l.equations) l.solver.slots l.initial.pairs.items l.pairs.items;
}
