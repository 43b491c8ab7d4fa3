use Rattle.std.proofs.Common.{[], ◌∷◌}
use Rattle.ml_types.specs.Types.{Leaf}
use Rattle.ml_decls.proofs.Trees.{type_var, type_con, type_grows, grows_push}
use Rattle.ml_decls.proofs.Infos.{predefined_say}
use Rattle.ml_decls.proofs.predefined.predefined.Goals as goal

pub returns : goal.returns
returns c =
    let one = type_var _ _ 0 _ c.in_ok-element.ensures.id c.in_ok-element.ensures.nodes in
    let two = type_con _ _ 5 _ (Leaf 0 ∷ []) _ c.in_ok-list.ensures.id c.in_ok-list.ensures.nodes (one, tt) in
    rw c.in_ok-infos.ensures (predefined_say _ _ _ (type_grows _ _ _ _ (grows_push _ _ _ c.in_ok-list.ensures.nodes) one) two)
