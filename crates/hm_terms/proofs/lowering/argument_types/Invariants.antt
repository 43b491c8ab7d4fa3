use Rattle.std.proofs.Common.{◌≡◌, List, map, take}
use Rattle.ml_types.specs.declared.declared.ArgInfo.{ArgInfo}
use Rattle.ml_types.specs.declared.declared.DeclInfo.{DeclInfo}
use Rattle.ml_typing.specs.Terms.{Context, at_fresh}
use Rattle.hm_terms.specs.Stores.{store, Grows, IsReady}
use Rattle.hm_terms.specs.Shapes.{LowersAll}
use Rattle.hm_terms.specs.Contexts.{IsRead}
use Rattle.hm_terms.specs.Spelling.{AreAtFresh}
use Rattle.hm_terms.proofs.lowering.argument_types.Given as goal

abbrev pub invariant-loop-number : goal.invariant-loop-number
invariant-loop-number l = record {
  lowers : (decls : List DeclInfo) (c : Context) → IsRead (store l.initial.solver) decls c → LowersAll (store l.initial.solver) (store l.solver) (map (λ (a : ArgInfo). at_fresh l.node (c.declared a.ty)) (take l.number l.args)) l.ids;
  copies : IsReady (store l.initial.solver) → Grows (store l.initial.solver) (store l.solver) × AreAtFresh (store l.solver) l.node (take l.number l.args) l.ids;
  slots : l.solver.slots ≡ l.initial.solver.slots;
}
