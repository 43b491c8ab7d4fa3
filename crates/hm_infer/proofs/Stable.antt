-- What stands at the ids from before an item stays, while the item's own variables are bound.
use Rattle.std.proofs.Common.{◌≡◌, ℕ, suc, ◌<◌, List, [], ◌∷◌, Some, refl, ◌∙◌}
use Rattle.std.specs.List.{slice_get}
use Rattle.ml_types.specs.declared.node.TyId.{TyId}
use Rattle.ml_types.specs.declared.node.TyNode.{TyNode}
use Rattle.ml_types.specs.Types.{parts_of, Tree, Trees}
use Rattle.hm_unify.specs.Solutions.{Bound, node_at, link, Ends, here, there, Stands, variable, built, StandAll, none, more}

-- the ids below a mark are closed under parts and bindings, and are the same in two states
pub record SameBelow (mark : ℕ) (nodes others : List TyNode) (m k : Bound) : Type 0 where
  pub node_is : (x : TyId) → x.0 < mark → node_at others x ≡ node_at nodes x
  pub link_is : (x : TyId) → x.0 < mark → link others k x ≡ link nodes m x
  pub linked : (x y : TyId) → x.0 < mark → link nodes m x ≡ Some y → y.0 < mark
  pub part : (x : TyId) (n : TyNode) (i : ℕ) (p : TyId) → x.0 < mark → node_at nodes x ≡ Some n → slice_get (parts_of n) i ≡ Some p → p.0 < mark

end_below : (mark : ℕ) (nodes others : List TyNode) (m k : Bound) → SameBelow mark nodes others m k → (x e : TyId) → x.0 < mark → Ends nodes m x e → e.0 < mark
end_below mark nodes others m k s x e h (here w p) = h
end_below mark nodes others m k s x e h (there w y g p q) = end_below mark nodes others m k s y g (s.linked w y h p) q

ends_stay : (mark : ℕ) (nodes others : List TyNode) (m k : Bound) → SameBelow mark nodes others m k → (x e : TyId) → x.0 < mark → Ends nodes m x e → Ends others k x e
ends_stay mark nodes others m k s x e h (here w p) = here w (s.link_is w h ∙ p)
ends_stay mark nodes others m k s x e h (there w y g p q) = there w y g (s.link_is w h ∙ p) (ends_stay mark nodes others m k s y g (s.linked w y h p) q)

abbrev AllBelow : ℕ → List TyId → Type 0
AllBelow mark [] = Unit {0}
AllBelow mark (p ∷ ps) = (p.0 < mark) × AllBelow mark ps

all_below : (mark : ℕ) (ps : List TyId) → ((i : ℕ) (p : TyId) → slice_get ps i ≡ Some p → p.0 < mark) → AllBelow mark ps
all_below mark [] h = tt
all_below mark (p ∷ ps) h = (h 0 p refl, all_below mark ps (λ i q e. h (suc i) q e))

mutual
  pub stands_stays : (mark : ℕ) (nodes others : List TyNode) (m k : Bound) → SameBelow mark nodes others m k → (x : TyId) (w : Tree) → x.0 < mark → Stands nodes m x w → Stands others k x w
  stands_stays mark nodes others m k s x w h (variable y e n ends at) =
      let below = end_below mark nodes others m k s y e h ends in
      variable y e n (ends_stay mark nodes others m k s y e h ends) (s.node_is e below ∙ at)
  stands_stays mark nodes others m k s x w h (built y e n i ws ends at head all) =
      let below = end_below mark nodes others m k s y e h ends in
      built y e n i ws (ends_stay mark nodes others m k s y e h ends) (s.node_is e below ∙ at) head
      (stand_all_stays mark nodes others m k s (parts_of n) ws (all_below mark (parts_of n) (λ j p q. s.part e n j p below at q)) all)

  stand_all_stays : (mark : ℕ) (nodes others : List TyNode) (m k : Bound) → SameBelow mark nodes others m k → (xs : List TyId) (ws : Trees) → AllBelow mark xs → StandAll nodes m xs ws → StandAll others k xs ws
  stand_all_stays mark nodes others m k s xs ws h none = none
  stand_all_stays mark nodes others m k s xs ws h (more x ys w us one all) =
      more x ys w us (stands_stays mark nodes others m k s x w h.0 one) (stand_all_stays mark nodes others m k s ys us h.1 all)
