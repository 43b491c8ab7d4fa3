-- The parts of a type, one lemma for each way out of its reader.
use Rattle.std.proofs.Common.{◌≡◌, ◌≢◌, ◌<◌, ◌≤◌, ◌+◌, ◌-◌, ℕ, suc, max, Bool, true, false, List, [], ◌∷◌, drop, refl, subst, sym, ap, ◌∙◌, arith}
use Rattle.std.specs.Prelude.{Some, None}
use Rattle.ml_lexer.specs.declared.token.Token.{Token}
use Rattle.ml_tree.specs.declared.words.Words.{Words}
use Rattle.ml_tree.specs.declared.types.TyExpr.{TyExpr}
use Rattle.ml_tree.specs.declared.types.Arg.{Arg}
use Rattle.ml_cursor.specs.Fronts.{front}
use Rattle.ml_cursor.specs.Places.{first_span, extent}
use Rattle.ml_parse_types.specs.declared.looks.Row.{Row}
use Rattle.ml_parse_types.specs.declared.looks.Row.TheVariants.{Alone, Factors, Arguments}
use Rattle.ml_parse_types.specs.declared.looks.TypeStart.{TypeStart}
use Rattle.ml_parse_types.specs.declared.looks.TypeStart.TheVariants.{Variable, Named, Group, Other}
use Rattle.ml_parse_types.specs.Looks.{type_start, is_name, is_arrow, no_words}
use Rattle.ml_parse_types.specs.Types.{Got, got, Read, read, ReadsWords, variable, applied, an_arg, an_arrow, product, product_by, group, group_by, arguments_by, postfix, NamesBy, no_name, one_name, NamesFrom, AtomBy, a_variable, a_name, a_group, ReadsOperand, operand, ReadsPart, alone, factor, argument, ReadsList, ReadsSide, side, SideBy, no_arrow, to_arrow, SideFrom, ReadsType}
use Rattle.ml_parse_types.specs.Readers.{IsFound, IsDeep, IsNone, ReadsAtom, ReadsWhole}
use Rattle.ml_parse_types.proofs.Unique.{same_words, same_atom, same_list, same_side}
use Rattle.ml_parse_types.proofs.Shorter.{some-some, none-some}

-- atoms
pub a_lone_variable : (ts us : List Token) (t : TyExpr) → t ≡ variable (first_span ts) → us ≡ drop 1 ts → AtomBy Variable ts (read t 1 us)
a_lone_variable ts us t e f = subst (λ (x : TyExpr). AtomBy Variable ts (read x 1 us)) (sym e) (subst (λ (x : List Token). AtomBy Variable ts (read (variable (first_span ts)) 1 x)) (sym f) a_variable)

pub a_lone_name : (ts us : List Token) (t : TyExpr) → t ≡ applied (first_span ts) (first_span ts) [] → us ≡ drop 1 ts → AtomBy Named ts (read t 1 us)
a_lone_name ts us t e f = subst (λ (x : TyExpr). AtomBy Named ts (read x 1 us)) (sym e) (subst (λ (x : List Token). AtomBy Named ts (read (applied (first_span ts) (first_span ts) []) 1 x)) (sym f) a_name)

arguments_depth : (ts : List Token) (l : Read (List TyExpr)) (b : Bool) (o : Read TyExpr) → arguments_by ts l b ≡ Some o → o.depth ≡ suc l.depth
arguments_depth ts l true o h = ap (λ (x : Read TyExpr). x.depth) (sym (some-some h))
arguments_depth ts l false o h = none-some _ h

group_depth : (ts : List Token) (l : Read (List TyExpr)) (list : List TyExpr) (o : Read TyExpr) → group_by ts l list ≡ Some o → o.depth ≡ suc l.depth
group_depth ts l [] o h = arguments_depth ts l _ o h
group_depth ts l (t ∷ []) o h = ap (λ (x : Read TyExpr). x.depth) (sym (some-some h))
group_depth ts l (t ∷ u ∷ list) o h = arguments_depth ts l _ o h

atom_depth : {k : TypeStart} {ts : List Token} {o : Read TyExpr} → AtomBy k ts o → 0 < o.depth
atom_depth a_variable = omega arith
atom_depth a_name = omega arith
atom_depth (a_group {ts = ts} {l = l} {o = o} a g) = omega (arith, group_depth ts l l.value o g)

pub atom_zero : (ts : List Token) (left : ℕ) → left ≡ 0 → IsDeep (ReadsAtom ts) left
atom_zero ts left e = record { deep = λ o d. omega (arith, e, atom_depth d) }

pub atom_by : (ts : List Token) (k v : TypeStart) (left : ℕ) (o : Read TyExpr) → k ≡ type_start (front ts) → k ≡ v → AtomBy v ts o → o.depth ≤ left → IsFound (ReadsAtom ts) left o
atom_by ts k v left o e f d s = record { reads = subst (λ (x : TypeStart). AtomBy x ts o) (sym f ∙ e) d; small = s }

from_start : (ts : List Token) (k v : TypeStart) (o : Read TyExpr) → k ≡ type_start (front ts) → k ≡ v → ReadsAtom ts o → AtomBy v ts o
from_start ts k v o e f d = subst (λ (x : TypeStart). AtomBy x ts o) (sym e ∙ f) d

pub atom_grouped : (ts : List Token) (k : TypeStart) (left : ℕ) (o : Read TyExpr) → k ≡ type_start (front ts) → k ≡ Group → left ≢ 0 → IsFound (AtomBy Group ts) (left - 1 + 1) o → IsFound (ReadsAtom ts) left o
atom_grouped ts k left o e f z d = atom_by ts k Group left o e f d.reads (omega (arith, d.small, z))

pub atom_no_group : (ts : List Token) (k : TypeStart) (left : ℕ) → k ≡ type_start (front ts) → k ≡ Group → left ≢ 0 → IsDeep (AtomBy Group ts) (left - 1 + 1) → IsDeep (ReadsAtom ts) left
atom_no_group ts k left e f z n = record { deep = λ o d. omega (arith, n.deep o (from_start ts k Group o e f d), z) }

none_other : {P : Type 0} {ts : List Token} {o : Read TyExpr} → AtomBy Other ts o → P
none_other d = elim d [ ]

pub atom_other : (ts : List Token) (k : TypeStart) (left : ℕ) → k ≡ type_start (front ts) → k ≡ Other → IsDeep (ReadsAtom ts) left
atom_other ts k left e f = record { deep = λ o d. none_other (from_start ts k Other o e f d) }

-- groups
pub group_read : (ts us : List Token) (left : ℕ) (l : Read (List TyExpr)) (o : Read TyExpr) → us ≡ drop 1 ts → IsFound (ReadsList Arguments us) left l → group ts l ≡ Some o → IsFound (AtomBy Group ts) (left + 1) o
group_read ts us left l o e d g = record {
  reads = a_group (subst (λ (x : List Token). ReadsList Arguments x l) e d.reads) g;
  small = omega (arith, d.small, group_depth ts l l.value o g);
}

group_parts : {P : Type 0} {ts : List Token} {o : Read TyExpr} → ((l : Read (List TyExpr)) → ReadsList Arguments (drop 1 ts) l → group ts l ≡ Some o → P) → AtomBy Group ts o → P
group_parts f (a_group {l = l} a g) = f l a g

pub group_no_list : (ts us : List Token) (left : ℕ) → us ≡ drop 1 ts → IsDeep (ReadsList Arguments us) left → IsDeep (AtomBy Group ts) (left + 1)
group_no_list ts us left e n = record {
  deep = λ o d. group_parts (λ l a g. omega (arith, n.deep l (subst (λ (x : List Token). ReadsList Arguments x l) (sym e) a), group_depth ts l l.value o g)) d;
}

pub group_no_name : (ts us : List Token) (left : ℕ) (l : Read (List TyExpr)) → us ≡ drop 1 ts → IsFound (ReadsList Arguments us) left l → group ts l ≡ None → IsDeep (AtomBy Group ts) (left + 1)
group_no_name ts us left l e d g = record {
  deep = λ o x. group_parts (λ m a h. none-some _ (sym g ∙ (ap (group ts) (same_list (subst (λ (y : List Token). ReadsList Arguments y l) e d.reads) a) ∙ h))) x;
}

-- the names behind a type
names_depth : {ts : List Token} {k : Bool} {a o : Read TyExpr} → NamesBy ts k a o → a.depth ≤ o.depth
names_depth no_name = omega arith
names_depth (one_name d) = omega (arith, names_depth d)

-- the names that go on behind b are those behind a
pub record NamesAlong (ts : List Token) (a b : Read TyExpr) : Type 0 where
  forth : (o : Read TyExpr) → NamesFrom ts b o → NamesFrom ts a o
  back : (o : Read TyExpr) → NamesFrom ts a o → NamesFrom ts b o

pub names_none : (ts : List Token) (a : Read TyExpr) → NamesAlong ts a a
names_none ts a = record { forth = λ o d. d; back = λ o d. d }

unname : {ts : List Token} {a o : Read TyExpr} → NamesBy ts true a o → NamesFrom ts (postfix ts a) o
unname (one_name d) = d

pub names_more : (ts : List Token) (a b c : Read TyExpr) (k : Bool) → NamesAlong ts a b → k ≡ is_name (front b.rest) → k ≡ true → c ≡ postfix ts b → NamesAlong ts a c
names_more ts a b c k along e f p = record {
  forth = λ o d. along.forth o (subst (λ (x : Bool). NamesBy ts x b o) (sym f ∙ e) (one_name (subst (λ (x : Read TyExpr). NamesFrom ts x o) p d)));
  back = λ o d. subst (λ (x : Read TyExpr). NamesFrom ts x o) (sym p) (unname (subst (λ (x : Bool). NamesBy ts x b o) (sym e ∙ f) (along.back o d)));
}

pub names_end : (ts : List Token) (a b : Read TyExpr) (k : Bool) (left : ℕ) → NamesAlong ts a b → k ≡ is_name (front b.rest) → k ≡ false → b.depth ≤ left → IsFound (NamesFrom ts a) left b
names_end ts a b k left along e f s = record { reads = along.forth b (subst (λ (x : Bool). NamesBy ts x b b) (sym f ∙ e) no_name); small = s }

pub names_deep : (ts : List Token) (a b : Read TyExpr) (k : Bool) (left : ℕ) → NamesAlong ts a b → k ≡ is_name (front b.rest) → k ≡ true → left ≤ b.depth → IsDeep (NamesFrom ts a) left
names_deep ts a b k left along e f s = record {
  deep = λ o d. omega (arith, names_depth (unname (subst (λ (x : Bool). NamesBy ts x b o) (sym e ∙ f) (along.back o d))), s);
}

-- operands
pub operand_read : (ts : List Token) (left : ℕ) (a o : Read TyExpr) → IsFound (ReadsAtom ts) left a → IsFound (NamesFrom ts a) left o → IsFound (ReadsOperand ts) left o
operand_read ts left a o d e = record { reads = operand d.reads e.reads; small = e.small }

operand_parts : {P : Type 0} {ts : List Token} {o : Read TyExpr} → ((a : Read TyExpr) → ReadsAtom ts a → NamesFrom ts a o → P) → ReadsOperand ts o → P
operand_parts f (operand {a = a} d e) = f a d e

pub operand_no_atom : (ts : List Token) (left : ℕ) → IsDeep (ReadsAtom ts) left → IsDeep (ReadsOperand ts) left
operand_no_atom ts left n = record { deep = λ o d. operand_parts (λ a b c. omega (arith, n.deep a b, names_depth c)) d }

pub operand_no_names : (ts : List Token) (left : ℕ) (a : Read TyExpr) → IsFound (ReadsAtom ts) left a → IsDeep (NamesFrom ts a) left → IsDeep (ReadsOperand ts) left
operand_no_names ts left a d n = record {
  deep = λ o e. operand_parts (λ b c f. n.deep o (subst (λ (x : Read TyExpr). NamesFrom ts x o) (sym (same_atom d.reads c)) f)) e;
}

-- parts of a row
pub part_alone : (ts : List Token) (left : ℕ) (k : Row) (o : Read TyExpr) → k ≡ Alone → IsFound (ReadsOperand ts) left o → IsFound (ReadsPart k ts) left o
part_alone ts left k o e d = record { reads = subst (λ (x : Row). ReadsPart x ts o) (sym e) (alone d.reads); small = d.small }

pub part_factor : (ts : List Token) (left : ℕ) (k : Row) (o : Read TyExpr) → k ≡ Factors → IsFound (ReadsOperand ts) left o → IsFound (ReadsPart k ts) left o
part_factor ts left k o e d = record { reads = subst (λ (x : Row). ReadsPart x ts o) (sym e) (factor d.reads); small = d.small }

pub part_argument : (ts : List Token) (left : ℕ) (k : Row) (o : Read TyExpr) → k ≡ Arguments → IsFound (ReadsWhole Factors ts) left o → IsFound (ReadsPart k ts) left o
part_argument ts left k o e d = record { reads = subst (λ (x : Row). ReadsPart x ts o) (sym e) (argument d.reads); small = d.small }

of_alone : {ts : List Token} {o : Read TyExpr} → ReadsPart Alone ts o → ReadsOperand ts o
of_alone (alone d) = d

of_factor : {ts : List Token} {o : Read TyExpr} → ReadsPart Factors ts o → ReadsOperand ts o
of_factor (factor d) = d

of_argument : {ts : List Token} {o : Read TyExpr} → ReadsPart Arguments ts o → ReadsWhole Factors ts o
of_argument (argument d) = d

pub no_alone : (ts : List Token) (left : ℕ) (k : Row) → k ≡ Alone → IsDeep (ReadsOperand ts) left → IsDeep (ReadsPart k ts) left
no_alone ts left k e n = record { deep = λ o d. n.deep o (of_alone (subst (λ (x : Row). ReadsPart x ts o) e d)) }

pub no_factor : (ts : List Token) (left : ℕ) (k : Row) → k ≡ Factors → IsDeep (ReadsOperand ts) left → IsDeep (ReadsPart k ts) left
no_factor ts left k e n = record { deep = λ o d. n.deep o (of_factor (subst (λ (x : Row). ReadsPart x ts o) e d)) }

pub no_argument : (ts : List Token) (left : ℕ) (k : Row) → k ≡ Arguments → IsDeep (ReadsWhole Factors ts) left → IsDeep (ReadsPart k ts) left
no_argument ts left k e n = record { deep = λ o d. n.deep o (of_argument (subst (λ (x : Row). ReadsPart x ts o) e d)) }

-- sides
product_depth : (ts rest : List Token) (d : ℕ) (list : List TyExpr) → d ≤ (product_by ts d rest list).depth
product_depth ts rest d [] = omega arith
product_depth ts rest d (t ∷ []) = omega arith
product_depth ts rest d (t ∷ u ∷ list) = omega arith

side_depth : {k : Row} {w : Bool} {ts : List Token} {v : Words} {q : Read TyExpr} {o : Read Arg} → SideBy k w ts v q o → q.depth ≤ o.depth
side_depth no_arrow = omega arith
side_depth (to_arrow {p = p} {a = a} d) = omega arith

side_words : {P : Type 0} {k : Row} {ts : List Token} {o : Read Arg} → ((w : Got Words) → ReadsWords ts w → P) → ReadsSide k ts o → P
side_words f (side {w = w} v a b) = f w v

side_parts : {P : Type 0} {k : Row} {ts us : List Token} {w : Words} {o : Read Arg} → ReadsWords ts (got w us) → ((l : Read (List TyExpr)) → ReadsList k us l → SideFrom k ts w (product us l) o → P) → ReadsSide k ts o → P
side_parts {k = k} {ts = ts} {o = o} d f (side {l = l} v a b) =
    let e = same_words v d in
    f l (subst (λ (x : Got Words). ReadsList k x.rest l) e a) (subst (λ (x : Got Words). SideFrom k ts x.value (product x.rest l) o) e b)

pub side_no_words : (k : Row) (ts : List Token) (left : ℕ) → IsNone ReadsWords ts → IsDeep (ReadsSide k ts) left
side_no_words k ts left n = record { deep = λ o d. side_words (λ w v. absurd (n.none w v)) d }

pub side_no_list : (k : Row) (ts us : List Token) (left : ℕ) (w : Words) → ReadsWords ts (got w us) → IsDeep (ReadsList k us) left → IsDeep (ReadsSide k ts) left
side_no_list k ts us left w v n = record {
  deep = λ o d. side_parts v (λ l a b. omega (arith, n.deep l a, product_depth us l.rest l.depth l.value, side_depth b)) d;
}

pub side_no_product : (k : Row) (ts us : List Token) (left : ℕ) (w : Words) (l : Read (List TyExpr)) → ReadsWords ts (got w us) → IsFound (ReadsList k us) left l → left < (product us l).depth → IsDeep (ReadsSide k ts) left
side_no_product k ts us left w l v d s = record {
  deep = λ o e. side_parts v (λ m a b. let deeper = subst (λ (x : Read (List TyExpr)). left < (product us x).depth) (same_list d.reads a) s in omega (arith, deeper, side_depth b)) e;
}

pub side_read : (k : Row) (ts us : List Token) (left : ℕ) (w : Words) (l : Read (List TyExpr)) (p : Read TyExpr) (o : Read Arg) → ReadsWords ts (got w us) → IsFound (ReadsList k us) left l → product us l ≡ p → IsFound (SideFrom k ts w p) left o → IsFound (ReadsSide k ts) left o
side_read k ts us left w l p o v d e s = record {
  reads = side v d.reads (subst (λ (x : Read TyExpr). SideFrom k ts w x o) (sym e) s.reads);
  small = s.small;
}

pub side_no_arrow : (k : Row) (ts us : List Token) (left : ℕ) (w : Words) (l : Read (List TyExpr)) (p : Read TyExpr) → ReadsWords ts (got w us) → IsFound (ReadsList k us) left l → product us l ≡ p → IsDeep (SideFrom k ts w p) left → IsDeep (ReadsSide k ts) left
side_no_arrow k ts us left w l p v d e n = record {
  deep = λ o x. side_parts v (λ m a b. n.deep o (subst (λ (y : Read TyExpr). SideFrom k ts w y o) (ap (product us) (sym (same_list d.reads a)) ∙ e) b)) x;
}

-- arrows
pub arrow_none : (k : Row) (ts : List Token) (left : ℕ) (w : Words) (p : Read TyExpr) (b : Bool) (a : Arg) → b ≡ is_arrow (front p.rest) → b ≡ false → a ≡ an_arg w p.value → p.depth ≤ left → IsFound (SideFrom k ts w p) left (read a p.depth p.rest)
arrow_none k ts left w p b a e f g s = record {
  reads = subst (λ (x : Bool). SideBy k x ts w p (read a p.depth p.rest)) (sym f ∙ e) (subst (λ (x : Arg). SideBy k false ts w p (read x p.depth p.rest)) (sym g) no_arrow);
  small = s;
}

arrow_parts : {P : Type 0} {k : Row} {ts : List Token} {w : Words} {p : Read TyExpr} {o : Read Arg} → ((a : Read Arg) → ReadsSide k (drop 1 p.rest) a → o.depth ≡ suc (max p.depth a.depth) → P) → SideBy k true ts w p o → P
arrow_parts f (to_arrow {a = a} d) = f a d refl

pub arrow_deep : (k : Row) (ts : List Token) (left : ℕ) (w : Words) (p : Read TyExpr) (b : Bool) → b ≡ is_arrow (front p.rest) → b ≡ true → left ≤ p.depth → IsDeep (SideFrom k ts w p) left
arrow_deep k ts left w p b e f s = record {
  deep = λ o d. arrow_parts (λ a c g. omega (arith, g, s)) (subst (λ (x : Bool). SideBy k x ts w p o) (sym e ∙ f) d);
}

pub arrow_no_side : (k : Row) (ts us : List Token) (left : ℕ) (w : Words) (p : Read TyExpr) (b : Bool) → b ≡ is_arrow (front p.rest) → b ≡ true → us ≡ drop 1 p.rest → p.depth < left → IsDeep (ReadsSide k us) (left - 1) → IsDeep (SideFrom k ts w p) left
arrow_no_side k ts us left w p b e f g s n = record {
  deep = λ o d. arrow_parts (λ a c h. omega (arith, h, s, n.deep a (subst (λ (x : List Token). ReadsSide k x a) (sym g) c))) (subst (λ (x : Bool). SideBy k x ts w p o) (sym e ∙ f) d);
}

pub arrow_read : (k : Row) (ts us : List Token) (left : ℕ) (w : Words) (p : Read TyExpr) (b : Bool) (a : Read Arg) (t : Arg) (d : ℕ) → b ≡ is_arrow (front p.rest) → b ≡ true → us ≡ drop 1 p.rest → p.depth < left → IsFound (ReadsSide k us) (left - 1) a → t ≡ an_arg no_words (an_arrow (extent ts a.rest) (an_arg w p.value) a.value) → d ≡ suc (max p.depth a.depth) → IsFound (SideFrom k ts w p) left (read t d a.rest)
arrow_read k ts us left w p b a t d e f g s found h i =
    let whole : SideBy k true ts w p (read (an_arg no_words (an_arrow (extent ts a.rest) (an_arg w p.value) a.value)) (suc (max p.depth a.depth)) a.rest) = to_arrow (subst (λ (x : List Token). ReadsSide k x a) g found.reads) in
    let named = subst (λ (x : Arg). SideBy k true ts w p (read x (suc (max p.depth a.depth)) a.rest)) (sym h) whole in
    record {
      reads = subst (λ (x : Bool). SideBy k x ts w p (read t d a.rest)) (sym f ∙ e) (subst (λ (x : ℕ). SideBy k true ts w p (read t x a.rest)) (sym i) named);
      small = omega (arith, i, s, found.small);
    }

-- types
pub whole_read : (k : Row) (ts r : List Token) (left d : ℕ) (a : Arg) (t : TyExpr) → IsFound (ReadsSide k ts) left (read a d r) → a ≡ an_arg no_words t → IsFound (ReadsWhole k ts) left (read t d r)
whole_read k ts r left d a t f e = record { reads = subst (λ (x : Arg). ReadsSide k ts (read x d r)) e f.reads; small = f.small }

pub whole_worded : (k : Row) (ts r : List Token) (left d : ℕ) (a : Arg) → IsFound (ReadsSide k ts) left (read a d r) → ((t : TyExpr) → a ≢ an_arg no_words t) → IsDeep (ReadsWhole k ts) left
whole_worded k ts r left d a f n = record { deep = λ o e. absurd (n o.value (ap (λ (x : Read Arg). x.value) (same_side f.reads e))) }

pub whole_no_side : (k : Row) (ts : List Token) (left : ℕ) → IsDeep (ReadsSide k ts) left → IsDeep (ReadsWhole k ts) left
whole_no_side k ts left n = record { deep = λ o d. n.deep (read (an_arg no_words o.value) o.depth o.rest) d }

pub type_read : (k : Row) (ts r : List Token) (d : ℕ) (t : TyExpr) → IsFound (ReadsWhole k ts) 1000 (read t d r) → ReadsType k ts (got t r)
type_read k ts r d t f = record { depth = d; reads = f.reads; within = f.small }

pub type_none : (k : Row) (ts : List Token) → IsDeep (ReadsWhole k ts) 1000 → IsNone (ReadsType k) ts
type_none k ts n = record { none = λ o d. omega (arith, n.deep (read o.value d.depth o.rest) d.reads, d.within) }
