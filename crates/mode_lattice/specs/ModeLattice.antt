-- Modes are ordered in each part.
use Rattle.std.specs.Prelude.{◌≡◌, Bool, true, false, ◌&&◌}
use Rattle.std.proofs.Common.{refl, ap, ◌∙◌}
use Rattle.ml_tree.specs.declared.words.Loc.{Loc}
use Rattle.ml_tree.specs.declared.words.Uni.{Uni}
use Rattle.ml_tree.specs.declared.words.Aff.{Aff}
use Rattle.mode_lattice.specs.declared.mode.Mode.{Mode}
use Rattle.mode_lattice.specs.Lattices.{IsLattice}
use Rattle.mode_lattice.specs.Modes.{loc_leq, loc_join, loc_meet, loc_laws, uni_leq, uni_join, uni_meet, uni_laws, aff_leq, aff_join, aff_meet, aff_laws}

abbrev pub mode_leq : Mode → Mode → Bool
mode_leq a b = (loc_leq a.loc b.loc && uni_leq a.uni b.uni) && aff_leq a.aff b.aff

abbrev pub mode_join : Mode → Mode → Mode
mode_join a b = record { loc = loc_join a.loc b.loc; uni = uni_join a.uni b.uni; aff = aff_join a.aff b.aff }

abbrev pub mode_meet : Mode → Mode → Mode
mode_meet a b = record { loc = loc_meet a.loc b.loc; uni = uni_meet a.uni b.uni; aff = aff_meet a.aff b.aff }

all : (p q r : Bool) → p ≡ true → q ≡ true → r ≡ true → (p && q) && r ≡ true
all p q r a b c = rw (a, b, c) refl

parts : (p q r : Bool) → (p && q) && r ≡ true → (p ≡ true) × (q ≡ true) × (r ≡ true)
parts true true true e = (refl, refl, refl)
parts true true false e = let no' : ⊥ = cc in absurd no'
parts true false r e = let no' : ⊥ = cc in absurd no'
parts false q r e = let no' : ⊥ = cc in absurd no'

same : (a b : Mode) → a.loc ≡ b.loc → a.uni ≡ b.uni → a.aff ≡ b.aff → a ≡ b
same a b l u f =
    let of_loc : Loc → Mode = λ x. record { loc = x; uni = a.uni; aff = a.aff } in
    let of_uni : Uni → Mode = λ x. record { loc = b.loc; uni = x; aff = a.aff } in
    let of_aff : Aff → Mode = λ x. record { loc = b.loc; uni = b.uni; aff = x } in
    ap of_loc l ∙ (ap of_uni u ∙ ap of_aff f)

pub mode_laws : IsLattice mode_leq mode_join mode_meet
mode_laws = record {
  order = record {
    reflexive = λ a. all _ _ _ (loc_laws.order.reflexive a.loc) (uni_laws.order.reflexive a.uni) (aff_laws.order.reflexive a.aff);
    transitive = λ a b c h i.
        let p = parts (loc_leq a.loc b.loc) (uni_leq a.uni b.uni) (aff_leq a.aff b.aff) h in
        let q = parts (loc_leq b.loc c.loc) (uni_leq b.uni c.uni) (aff_leq b.aff c.aff) i in
        all _ _ _ (loc_laws.order.transitive a.loc b.loc c.loc p.0 q.0) (uni_laws.order.transitive a.uni b.uni c.uni p.1 q.1) (aff_laws.order.transitive a.aff b.aff c.aff p.2 q.2);
    antisymmetric = λ a b h i.
        let p = parts (loc_leq a.loc b.loc) (uni_leq a.uni b.uni) (aff_leq a.aff b.aff) h in
        let q = parts (loc_leq b.loc a.loc) (uni_leq b.uni a.uni) (aff_leq b.aff a.aff) i in
        same a b (loc_laws.order.antisymmetric a.loc b.loc p.0 q.0) (uni_laws.order.antisymmetric a.uni b.uni p.1 q.1) (aff_laws.order.antisymmetric a.aff b.aff p.2 q.2);
  };
  joins = record {
    left = λ a b. all _ _ _ (loc_laws.joins.left a.loc b.loc) (uni_laws.joins.left a.uni b.uni) (aff_laws.joins.left a.aff b.aff);
    right = λ a b. all _ _ _ (loc_laws.joins.right a.loc b.loc) (uni_laws.joins.right a.uni b.uni) (aff_laws.joins.right a.aff b.aff);
    least = λ a b c h i.
        let p = parts (loc_leq a.loc c.loc) (uni_leq a.uni c.uni) (aff_leq a.aff c.aff) h in
        let q = parts (loc_leq b.loc c.loc) (uni_leq b.uni c.uni) (aff_leq b.aff c.aff) i in
        all _ _ _ (loc_laws.joins.least a.loc b.loc c.loc p.0 q.0) (uni_laws.joins.least a.uni b.uni c.uni p.1 q.1) (aff_laws.joins.least a.aff b.aff c.aff p.2 q.2);
  };
  meets = record {
    left = λ a b. all _ _ _ (loc_laws.meets.left a.loc b.loc) (uni_laws.meets.left a.uni b.uni) (aff_laws.meets.left a.aff b.aff);
    right = λ a b. all _ _ _ (loc_laws.meets.right a.loc b.loc) (uni_laws.meets.right a.uni b.uni) (aff_laws.meets.right a.aff b.aff);
    greatest = λ a b c h i.
        let p = parts (loc_leq c.loc a.loc) (uni_leq c.uni a.uni) (aff_leq c.aff a.aff) h in
        let q = parts (loc_leq c.loc b.loc) (uni_leq c.uni b.uni) (aff_leq c.aff b.aff) i in
        all _ _ _ (loc_laws.meets.greatest a.loc b.loc c.loc p.0 q.0) (uni_laws.meets.greatest a.uni b.uni c.uni p.1 q.1) (aff_laws.meets.greatest a.aff b.aff c.aff p.2 q.2);
  };
}
