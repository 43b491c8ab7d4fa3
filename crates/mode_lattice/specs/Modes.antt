-- The axes of a mode: their orders, and what a boundary makes of a locality.
use Rattle.std.specs.Prelude.{◌≡◌, ℕ, Bool, true, nat_le, cond, Option, Some, None}
use Rattle.std.proofs.Common.{refl, arith}
use Rattle.ml_tree.specs.declared.words.Loc.{Loc}
use Rattle.ml_tree.specs.declared.words.Loc.TheVariants.{Global, Regional, Local}
use Rattle.ml_tree.specs.declared.words.Uni.{Uni}
use Rattle.ml_tree.specs.declared.words.Uni.TheVariants.{Unique, Shared}
use Rattle.ml_tree.specs.declared.words.Aff.{Aff}
use Rattle.ml_tree.specs.declared.words.Aff.TheVariants.{Many, Once}
use Rattle.mode_lattice.specs.Lattices.{IsLattice}
use Rattle.mode_lattice.specs.Ranked.{IsLattice-ranked}

-- global < regional < local
abbrev pub loc_rank : Loc → ℕ
loc_rank Global = 0
loc_rank Regional = 1
loc_rank Local = 2

abbrev pub loc_leq : Loc → Loc → Bool
loc_leq a b = nat_le (loc_rank a) (loc_rank b)

abbrev pub loc_join : Loc → Loc → Loc
loc_join a b = cond (loc_leq a b) b a

abbrev pub loc_meet : Loc → Loc → Loc
loc_meet a b = cond (loc_leq a b) a b

loc_distinct : (a b : Loc) → loc_rank a ≡ loc_rank b → a ≡ b
loc_distinct Global Global e = refl
loc_distinct Regional Regional e = refl
loc_distinct Local Local e = refl
loc_distinct Global Regional e = absurd (omega arith)
loc_distinct Global Local e = absurd (omega arith)
loc_distinct Regional Global e = absurd (omega arith)
loc_distinct Regional Local e = absurd (omega arith)
loc_distinct Local Global e = absurd (omega arith)
loc_distinct Local Regional e = absurd (omega arith)

pub loc_laws : IsLattice loc_leq loc_join loc_meet
loc_laws = IsLattice-ranked loc_rank loc_distinct

-- unique < shared
abbrev pub uni_rank : Uni → ℕ
uni_rank Unique = 0
uni_rank Shared = 1

abbrev pub uni_leq : Uni → Uni → Bool
uni_leq a b = nat_le (uni_rank a) (uni_rank b)

abbrev pub uni_join : Uni → Uni → Uni
uni_join a b = cond (uni_leq a b) b a

abbrev pub uni_meet : Uni → Uni → Uni
uni_meet a b = cond (uni_leq a b) a b

uni_distinct : (a b : Uni) → uni_rank a ≡ uni_rank b → a ≡ b
uni_distinct Unique Unique e = refl
uni_distinct Shared Shared e = refl
uni_distinct Unique Shared e = absurd (omega arith)
uni_distinct Shared Unique e = absurd (omega arith)

pub uni_laws : IsLattice uni_leq uni_join uni_meet
uni_laws = IsLattice-ranked uni_rank uni_distinct

-- many < once
abbrev pub aff_rank : Aff → ℕ
aff_rank Many = 0
aff_rank Once = 1

abbrev pub aff_leq : Aff → Aff → Bool
aff_leq a b = nat_le (aff_rank a) (aff_rank b)

abbrev pub aff_join : Aff → Aff → Aff
aff_join a b = cond (aff_leq a b) b a

abbrev pub aff_meet : Aff → Aff → Aff
aff_meet a b = cond (aff_leq a b) a b

aff_distinct : (a b : Aff) → aff_rank a ≡ aff_rank b → a ≡ b
aff_distinct Many Many e = refl
aff_distinct Once Once e = refl
aff_distinct Many Once e = absurd (omega arith)
aff_distinct Once Many e = absurd (omega arith)

pub aff_laws : IsLattice aff_leq aff_join aff_meet
aff_laws = IsLattice-ranked aff_rank aff_distinct

-- inside a function or a borrow, local and regional are regional
abbrev pub inwards_of : Loc → Loc
inwards_of Global = Global
inwards_of Regional = Regional
inwards_of Local = Regional

-- outside a call, regional is local
abbrev pub outwards_of : Loc → Loc
outwards_of Global = Global
outwards_of Regional = Local
outwards_of Local = Local

-- where a region is closed before its end, regional is local, and local is gone
abbrev pub exclave_of : Loc → Option Loc
exclave_of Global = Some Global
exclave_of Regional = Some Local
exclave_of Local = None

-- the image of a smaller locality is there where that of the greater one is, and is at most that
abbrev pub ExclaveKeeps : Option Loc → Option Loc → Type 0
ExclaveKeeps a None = Unit {0}
ExclaveKeeps None (Some b) = ⊥
ExclaveKeeps (Some a) (Some b) = loc_leq a b ≡ true
