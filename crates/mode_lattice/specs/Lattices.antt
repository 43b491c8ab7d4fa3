-- Lattices, by an order that is a test and by the bounds of each two values.
use Rattle.std.specs.Prelude.{◌≡◌, Bool, true}

pub record IsOrder {A : Type 0} (leq : A → A → Bool) : Type 0 where
  pub reflexive : (a : A) → leq a a ≡ true
  pub transitive : (a b c : A) → leq a b ≡ true → leq b c ≡ true → leq a c ≡ true
  pub antisymmetric : (a b : A) → leq a b ≡ true → leq b a ≡ true → a ≡ b

-- an upper bound of each two values, below each other one
pub record IsJoin {A : Type 0} (leq : A → A → Bool) (join : A → A → A) : Type 0 where
  pub left : (a b : A) → leq a (join a b) ≡ true
  pub right : (a b : A) → leq b (join a b) ≡ true
  pub least : (a b c : A) → leq a c ≡ true → leq b c ≡ true → leq (join a b) c ≡ true

-- a lower bound of each two values, above each other one
pub record IsMeet {A : Type 0} (leq : A → A → Bool) (meet : A → A → A) : Type 0 where
  pub left : (a b : A) → leq (meet a b) a ≡ true
  pub right : (a b : A) → leq (meet a b) b ≡ true
  pub greatest : (a b c : A) → leq c a ≡ true → leq c b ≡ true → leq c (meet a b) ≡ true

pub record IsLattice {A : Type 0} (leq : A → A → Bool) (join meet : A → A → A) : Type 0 where
  pub order : IsOrder leq
  pub joins : IsJoin leq join
  pub meets : IsMeet leq meet
