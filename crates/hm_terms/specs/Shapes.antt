-- Ids that are the types of shapes.
use Rattle.std.specs.Prelude.{◌≡◌, ℕ, ◌<◌, List, [], ◌∷◌, length, Some}
use Rattle.ml_types.specs.declared.node.TyId.{TyId}
use Rattle.ml_types.specs.Types.{Tree}
use Rattle.ml_typing.specs.declared.equation.Unknown.{Unknown}
use Rattle.ml_typing.specs.declared.equation.Unknown.TheVariants.{Fresh}
use Rattle.ml_typing.specs.Terms.{Shape, Is, shape_at}
use Rattle.ml_typing.specs.Typing.{Assignment, tree_of, StandsIn}
use Rattle.hm_terms.specs.Stores.{Store, Reading, IsOwn, Grows}
use Rattle.hm_terms.specs.declared.instances.Put.{Put}
use Rattle.hm_terms.specs.declared.instances.Put.TheVariants.{Arguments, Fresh as FreshAt}

-- in each reading the id has the type that the shape then is; each unknown of the shape has a type, and
-- the id is the item's own
pub record Holds (s : Store) (shape : Shape) (x : TyId) : Type 0 where
  pub within : x.0 < length s.nodes
  pub of : (t : TyId → Tree) (a : Assignment) → Reading s t a → t x ≡ tree_of a shape
  pub known : (u : Unknown) → StandsIn u shape → (y : TyId) × (s.ids u ≡ Some y)
  pub own : IsOwn s x

-- one id for each shape
abbrev pub HoldAll : Store → List Shape → List TyId → Type 0
HoldAll s [] [] = Unit {0}
HoldAll s [] (x ∷ xs) = ⊥
HoldAll s (h ∷ hs) [] = ⊥
HoldAll s (h ∷ hs) (x ∷ xs) = Holds s h x × HoldAll s hs xs

-- the solver grows, and the id is the type of the shape
pub record Lowers (old new : Store) (shape : Shape) (x : TyId) : Type 0 where
  pub grows : Grows old new
  pub holds : Holds new shape x

pub record LowersAll (old new : Store) (shapes : List Shape) (xs : List TyId) : Type 0 where
  pub grows : Grows old new
  pub hold : HoldAll new shapes xs

-- f gives each variable the shape whose type is put for it
abbrev pub Puts : Store → Put → (ℕ → Shape) → Type 0
Puts s (Arguments args) f = (shapes : List Shape) × HoldAll s shapes args.now × ((n : ℕ) → f n ≡ shape_at shapes n)
Puts s (FreshAt node) f = (n : ℕ) → f n ≡ Is (Fresh node n)
