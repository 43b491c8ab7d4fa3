-- Lists, fields and parameters, which are read one by one.
use Rattle.std.proofs.Common.{◌≡◌, ℕ, ◌≤◌, ◌<◌, max, Bool, true, false, List, [], ◌∷◌, ◌++◌, drop, refl, sym, ap, ap₂, ◌∙◌, subst, arith}
use Rattle.std.proofs.lemmas.List.{append_assoc, append-nil}
use Rattle.ml_lexer.specs.declared.token.Token.{Token}
use Rattle.ml_tree.specs.declared.pattern.Pat.{Pat}
use Rattle.ml_tree.specs.declared.pattern.FieldPat.{FieldPat}
use Rattle.ml_tree.specs.declared.pattern.Param.{Param}
use Rattle.ml_parse_patterns.specs.declared.looks.Listing.{Listing}
use Rattle.ml_parse_patterns.specs.declared.looks.After.TheVariants.{Goes, Stops, Fails}
use Rattle.ml_parse_patterns.specs.declared.looks.AfterField.TheVariants.{Next, Ends, Broken}
use Rattle.ml_parse_patterns.specs.declared.found.Found.{Found}
use Rattle.ml_parse_patterns.specs.declared.found.FoundList.{FoundList}
use Rattle.ml_parse_patterns.specs.declared.found.FoundField.{FoundField}
use Rattle.ml_parse_patterns.specs.declared.found.FoundFields.{FoundFields}
use Rattle.ml_parse_patterns.specs.declared.found.FoundParam.{FoundParam}
use Rattle.ml_parse_patterns.specs.declared.found.FoundParams.{FoundParams}
use Rattle.ml_parse_patterns.specs.Looks.{after, after_field, param_lead, is_param}
use Rattle.ml_parse_patterns.specs.Patterns.{level_of, Reads, ReadsList, last_one, one_more, ReadsField, ReadsFields, last_field, next_field, ReadsParam, ReadsParams, last_param, next_param}
use Rattle.ml_parse_patterns.specs.Readings.{IsFound, NoTree, IsLonger, NoList, IsField, NoField, AreFields, NoFields, IsParam, NoParam, AreParams, NoParams}
use Rattle.ml_parse_patterns.proofs.Unique.{same, same_field, same_param}

-- the elements of a list so far, behind others of a depth, and those to come; E is what is known at the end
pub record SoFar {A E : Type 0} (R : List Token → List A → ℕ → E → Type 0) (n : ℕ) (start : List Token) (before : List A) (depth : ℕ) (now : List Token) (list : List A) (deepest : ℕ) : Type 0 where
  pub done : List A
  pub list_is : list ≡ before ++ done
  pub small : deepest ≤ n
  pub forth : (ps : List A) (e : ℕ) (r : E) → R now ps e r → (f : ℕ) × (R start (done ++ ps) f r × (max depth f ≡ max deepest e))
  pub back : (ps : List A) (d : ℕ) (r : E) → R start ps d r → (qs : List A) × ((e : ℕ) × (R now qs e r × (e ≤ d)))

-- one element more is read, and the list goes on behind it
pub record Step {A E : Type 0} (R : List Token → List A → ℕ → E → Type 0) (now next : List Token) (x : A) (d : ℕ) : Type 0 where
  pub forth : (ps : List A) (e : ℕ) (r : E) → R next ps e r → R now (x ∷ ps) (max d e) r
  pub back : (ps : List A) (e : ℕ) (r : E) → R now ps e r → (qs : List A) × ((f : ℕ) × (R next qs f r × (f ≤ e)))

pub begins : {A E : Type 0} (R : List Token → List A → ℕ → E → Type 0) (n : ℕ) (start : List Token) (before : List A) (depth : ℕ) → depth ≤ n → SoFar R n start before depth start before depth
begins R n start before depth le = record {
  done = [];
  list_is = sym (append-nil before);
  small = le;
  forth = λ ps e r a. (e, (a, refl));
  back = λ ps d r a. (ps, (d, (a, omega arith)));
}

one_more_element : {A : Type 0} (list before done : List A) (x : A) → list ≡ before ++ done → list ++ x ∷ [] ≡ before ++ (done ++ x ∷ [])
one_more_element list before done x e = ap (λ l. l ++ x ∷ []) e ∙ append_assoc before done (x ∷ [])

pub goes_on : {A E : Type 0} (R : List Token → List A → ℕ → E → Type 0) (n : ℕ) (start : List Token) (before : List A) (depth : ℕ) (now next : List Token) (list : List A) (deepest d : ℕ) (x : A) → SoFar R n start before depth now list deepest → Step R now next x d → d ≤ n → SoFar R n start before depth next (list ++ x ∷ []) (max deepest d)
goes_on {E = E} R n start before depth now next list deepest d x s t le = record {
  done = s.done ++ x ∷ [];
  list_is = one_more_element list before s.done x s.list_is;
  small = (let h = s.small in omega arith);
  forth = λ ps e r a. (
      let g = s.forth (x ∷ ps) (max d e) r (t.forth ps e r a) in
      let f : ℕ = g.0 in
      let moved : R start ((s.done ++ x ∷ []) ++ ps) f r = subst (λ l. R start l f r) (sym (append_assoc s.done (x ∷ []) ps)) g.1.0 in
      let same : max depth f ≡ max deepest (max d e) = g.1.1 in
      (f, (moved, omega arith)));
  back = λ ps e r a. (
      let g = s.back ps e r a in
      let h = t.back g.0 g.1.0 r g.1.1.0 in
      let le1 : g.1.0 ≤ e = g.1.1.1 in
      let le2 : h.1.0 ≤ g.1.0 = h.1.1.1 in
      (h.0, (h.1.0, (h.1.1.0, omega arith))));
}

-- what is read where the last element is
pub record Done {A E : Type 0} (R : List Token → List A → ℕ → E → Type 0) (n : ℕ) (start : List Token) (before : List A) (depth : ℕ) (list : List A) (deepest : ℕ) (r : E) : Type 0 where
  pub more : List A
  pub depth_of : ℕ
  pub reads : R start more depth_of r
  pub list_is : list ≡ before ++ more
  pub depth_is : deepest ≡ max depth depth_of
  pub small : deepest ≤ n

pub ends : {A E : Type 0} (R : List Token → List A → ℕ → E → Type 0) (n : ℕ) (start : List Token) (before : List A) (depth : ℕ) (now : List Token) (list : List A) (deepest d : ℕ) (x : A) (r : E) → SoFar R n start before depth now list deepest → R now (x ∷ []) d r → d ≤ n → Done R n start before depth (list ++ x ∷ []) (max deepest d) r
ends R n start before depth now list deepest d x r s a le =
    let g = s.forth (x ∷ []) d r a in
    let f : ℕ = g.0 in
    let same : max depth f ≡ max deepest d = g.1.1 in
    record {
      more = s.done ++ x ∷ [];
      depth_of = f;
      reads = g.1.0;
      list_is = one_more_element list before s.done x s.list_is;
      depth_is = sym same;
      small = (let h = s.small in omega arith);
    }

-- where all that is to come is too deep, all is
pub refused : {A E : Type 0} (R : List Token → List A → ℕ → E → Type 0) (n : ℕ) (start : List Token) (before : List A) (depth : ℕ) (now : List Token) (list : List A) (deepest : ℕ) → SoFar R n start before depth now list deepest → ((ps : List A) (d : ℕ) (r : E) → R now ps d r → n < d) → (ps : List A) (d : ℕ) (r : E) → R start ps d r → n < d
refused R n start before depth now list deepest s h ps d r a =
    let g = s.back ps d r a in
    let lt = h g.0 g.1.0 r g.1.1.0 in
    let le : g.1.0 ≤ d = g.1.1.1 in
    omega arith

-- lists of patterns
abbrev pub PatList : List ℕ → Listing → List Token → List Pat → ℕ → List Token → Type 0
PatList text k = λ ts ps d r. ReadsList text k ts ps d r

stops-goes : {m n : ℕ} {P : Type 0} → Stops m ≡ Goes n → P
stops-goes h = absurd (cc)

stops-fails : {m : ℕ} {P : Type 0} → Stops m ≡ Fails → P
stops-fails h = absurd (cc)

goes-fails : {m : ℕ} {P : Type 0} → Goes m ≡ Fails → P
goes-fails h = absurd (cc)

goes-goes : {m n : ℕ} → Goes m ≡ Goes n → m ≡ n
goes-goes h = cc

list_back : {text : List ℕ} {k : Listing} {m : ℕ} {ts us r : List Token} {p : Pat} {d : ℕ} → Reads text (level_of k) ts p d us → after k us ≡ Goes m → (ps : List Pat) (e : ℕ) → ReadsList text k ts ps e r → (qs : List Pat) × ((f : ℕ) × (ReadsList text k (drop m us) qs f r × (f ≤ e)))
list_back {k = k} b g ps e (last_one a f) = stops-goes (sym f ∙ ap (after k) (same b a).rest ∙ g)
list_back {text = text} {k = k} {m = m} {us = us} b g ps e (one_more {ps = qs} {e = o} {n = n} {us = vs} {r = r} a f c) =
    let s = (same b a).rest in
    let count : n ≡ m = goes-goes (sym f ∙ ap (after k) s ∙ g) in
    let there : drop n vs ≡ drop m us = ap₂ (λ (i : ℕ) (x : List Token). drop i x) count s in
    (qs, (o, (subst (λ (x : List Token). ReadsList text k x qs o r) there c, omega arith)))

pub list_step : (text : List ℕ) (k : Listing) (n m : ℕ) (now us next : List Token) (f : Found) → IsFound text (level_of k) n now us f → after k us ≡ Goes m → next ≡ drop m us → Step (PatList text k) now next f.pat f.depth
list_step text k n m now us next f b g h = record {
  forth = λ ps e r a. one_more b.reads g (subst (λ (x : List Token). ReadsList text k x ps e r) h a);
  back = λ ps e r a. (
      let o = list_back b.reads g ps e a in
      (o.0, (o.1.0, (subst (λ (x : List Token). ReadsList text k x o.0 o.1.0 r) (sym h) o.1.1.0, o.1.1.1))));
}

pub list_last : (text : List ℕ) (k : Listing) (n m : ℕ) (now us r : List Token) (f : Found) → IsFound text (level_of k) n now us f → after k us ≡ Stops m → r ≡ drop m us → ReadsList text k now (f.pat ∷ []) f.depth r
list_last text k n m now us r f b g h = subst (λ (x : List Token). ReadsList text k now (f.pat ∷ []) f.depth x) (sym h) (last_one b.reads g)

list_first : {text : List ℕ} {k : Listing} {n : ℕ} {now r : List Token} {ps : List Pat} {d : ℕ} → NoTree text (level_of k) n now → ReadsList text k now ps d r → n < d
list_first h (last_one a f) = h.deep _ _ _ a
list_first h (one_more a f c) = let g = h.deep _ _ _ a in omega arith

pub list_deep : (text : List ℕ) (k : Listing) (n : ℕ) (start : List Token) (before : List Pat) (depth : ℕ) (now : List Token) (list : List Pat) (deepest : ℕ) → SoFar (PatList text k) n start before depth now list deepest → NoTree text (level_of k) n now → NoList text k n start
list_deep text k n start before depth now list deepest s h =
    record { deep = refused (PatList text k) n start before depth now list deepest s (λ ps d r a. list_first h a) }

list_broken : {text : List ℕ} {k : Listing} {now us r : List Token} {p : Pat} {d e : ℕ} {ps : List Pat} → Reads text (level_of k) now p d us → after k us ≡ Fails → ReadsList text k now ps e r → ⊥
list_broken {k = k} b g (last_one a f) = stops-fails (sym f ∙ ap (after k) (same b a).rest ∙ g)
list_broken {k = k} b g (one_more a f c) = goes-fails (sym f ∙ ap (after k) (same b a).rest ∙ g)

pub list_fails : (text : List ℕ) (k : Listing) (n : ℕ) (start : List Token) (before : List Pat) (depth : ℕ) (now us : List Token) (list : List Pat) (deepest : ℕ) (f : Found) → SoFar (PatList text k) n start before depth now list deepest → IsFound text (level_of k) n now us f → after k us ≡ Fails → NoList text k n start
list_fails text k n start before depth now us list deepest f s b g =
    record { deep = refused (PatList text k) n start before depth now list deepest s (λ ps d r a. absurd (list_broken b.reads g a)) }

pub list_done : (text : List ℕ) (k : Listing) (n : ℕ) (start r : List Token) (before : List Pat) (depth : ℕ) (f : FoundList) → Done (PatList text k) n start before depth f.list f.depth r → IsLonger text k n start r before depth f
list_done text k n start r before depth f d = record { more = d.more; deepest = d.depth_of; reads = d.reads; list_is = d.list_is; depth_is = d.depth_is; small = d.small }

-- the fields of a record pattern
abbrev pub FieldList : List ℕ → List Token → List FieldPat → ℕ → Bool × List Token → Type 0
FieldList text = λ ts fs d e. ReadsFields text ts fs e.0 d e.1

ends-next : {b : Bool} {m : ℕ} {P : Type 0} → Ends b m ≡ Next → P
ends-next h = absurd (cc)

fields_back : {text : List ℕ} {ts us r : List Token} {more : Bool} {p : FieldPat} {d : ℕ} → ReadsField text ts p d us → after_field us ≡ Next → (ps : List FieldPat) (e : ℕ) → ReadsFields text ts ps more e r → (qs : List FieldPat) × ((f : ℕ) × (ReadsFields text (drop 1 us) qs more f r × (f ≤ e)))
fields_back b g ps e (last_field a f) = ends-next (sym f ∙ ap after_field (same_field b a).rest ∙ g)
fields_back {text = text} {more = more} b g ps e (next_field {fs = qs} {e = o} {r = r} a f c) =
    (qs, (o, (subst (λ (x : List Token). ReadsFields text (drop 1 x) qs more o r) (same_field b a).rest c, omega arith)))

pub field_step : (text : List ℕ) (n : ℕ) (now us next : List Token) (f : FoundField) → IsField text n now us f → after_field us ≡ Next → next ≡ drop 1 us → Step (FieldList text) now next f.field f.depth
field_step text n now us next f b g h = record {
  forth = λ ps e r a. next_field b.reads g (subst (λ (x : List Token). ReadsFields text x ps r.0 e r.1) h a);
  back = λ ps e r a. (
      let o = fields_back b.reads g ps e a in
      (o.0, (o.1.0, (subst (λ (x : List Token). ReadsFields text x o.0 r.0 o.1.0 r.1) (sym h) o.1.1.0, o.1.1.1))));
}

fields_first : {text : List ℕ} {n : ℕ} {now r : List Token} {more : Bool} {ps : List FieldPat} {d : ℕ} → NoField text n now → ReadsFields text now ps more d r → n < d
fields_first h (last_field a f) = h.deep _ _ _ a
fields_first h (next_field a f c) = let g = h.deep _ _ _ a in omega arith

pub fields_deep : (text : List ℕ) (n : ℕ) (start now : List Token) (list : List FieldPat) (deepest : ℕ) → SoFar (FieldList text) n start [] 0 now list deepest → NoField text n now → NoFields text n start
fields_deep text n start now list deepest s h =
    record { deep = λ fs more d r a. refused (FieldList text) n start [] 0 now list deepest s (λ ps e o b. fields_first h b) fs d (more, r) a }

ends-broken : {b : Bool} {m : ℕ} {P : Type 0} → Ends b m ≡ Broken → P
ends-broken h = absurd (cc)

next-broken : {P : Type 0} → Next ≡ Broken → P
next-broken h = absurd (cc)

fields_broken : {text : List ℕ} {now us r : List Token} {more : Bool} {p : FieldPat} {d e : ℕ} {ps : List FieldPat} → ReadsField text now p d us → after_field us ≡ Broken → ReadsFields text now ps more e r → ⊥
fields_broken b g (last_field a f) = ends-broken (sym f ∙ ap after_field (same_field b a).rest ∙ g)
fields_broken b g (next_field a f c) = next-broken (sym f ∙ ap after_field (same_field b a).rest ∙ g)

pub fields_fail : (text : List ℕ) (n : ℕ) (start now us : List Token) (list : List FieldPat) (deepest : ℕ) (f : FoundField) → SoFar (FieldList text) n start [] 0 now list deepest → IsField text n now us f → after_field us ≡ Broken → NoFields text n start
fields_fail text n start now us list deepest f s b g =
    record { deep = λ fs more d r a. refused (FieldList text) n start [] 0 now list deepest s (λ ps e o h. absurd (fields_broken b.reads g h)) fs d (more, r) a }

pub fields_end : (text : List ℕ) (n m : ℕ) (start now us r : List Token) (list : List FieldPat) (deepest : ℕ) (f : FoundField) (more : Bool) (o : FoundFields) → SoFar (FieldList text) n start [] 0 now list deepest → IsField text n now us f → after_field us ≡ Ends more m → r ≡ drop m us → o.list ≡ list ++ f.field ∷ [] → o.more ≡ more → o.depth ≡ max deepest f.depth → AreFields text n start r o
fields_end text n m start now us r list deepest f more o s b g h e1 e2 e3 =
    let last : ReadsFields text now (f.field ∷ []) more f.depth r = subst (λ (x : List Token). ReadsFields text now (f.field ∷ []) more f.depth x) (sym h) (last_field b.reads g) in
    let d = ends (FieldList text) n start [] 0 now list deepest f.depth f.field (more, r) s last b.small in
    let depth : d.depth_of ≡ o.depth = (let i = d.depth_is in omega arith) in
    let all : o.list ≡ d.more = e1 ∙ d.list_is in
    let one = subst (λ (fs : List FieldPat). ReadsFields text start fs more d.depth_of r) (sym all) d.reads in
    let two = subst (λ (c : Bool). ReadsFields text start o.list c d.depth_of r) (sym e2) one in
    record { reads = subst (λ (i : ℕ). ReadsFields text start o.list o.more i r) depth two; small = (let i = d.small in omega arith) }

-- parameters
abbrev pub ParamList : List ℕ → List Token → List Param → ℕ → List Token → Type 0
ParamList text = λ ts ps d r. ReadsParams text ts ps d r

true-false : {P : Type 0} {b : Bool} → b ≡ true → b ≡ false → P
true-false e f = absurd (cc)

params_back : {text : List ℕ} {ts us r : List Token} {p : Param} {d : ℕ} → ReadsParam text ts p d us → is_param (param_lead us) ≡ true → (ps : List Param) (e : ℕ) → ReadsParams text ts ps e r → (qs : List Param) × ((f : ℕ) × (ReadsParams text us qs f r × (f ≤ e)))
params_back b g ps e (last_param a f) = true-false g (sym (ap (λ r. is_param (param_lead r)) (same_param b a).rest) ∙ f)
params_back {text = text} b g ps e (next_param {ps = qs} {e = o} {r = r} a f c) =
    (qs, (o, (subst (λ (x : List Token). ReadsParams text x qs o r) (same_param b a).rest c, omega arith)))

pub param_step : (text : List ℕ) (n : ℕ) (now us : List Token) (f : FoundParam) → IsParam text n now us f → is_param (param_lead us) ≡ true → Step (ParamList text) now us f.param f.depth
param_step text n now us f b g = record {
  forth = λ ps e r a. next_param b.reads g a;
  back = λ ps e r a. params_back b.reads g ps e a;
}

params_first : {text : List ℕ} {n : ℕ} {now r : List Token} {ps : List Param} {d : ℕ} → NoParam text n now → ReadsParams text now ps d r → n < d
params_first h (last_param a f) = h.deep _ _ _ a
params_first h (next_param a f c) = let g = h.deep _ _ _ a in omega arith

pub params_deep : (text : List ℕ) (n : ℕ) (start now : List Token) (list : List Param) (deepest : ℕ) → SoFar (ParamList text) n start [] 0 now list deepest → NoParam text n now → NoParams text n start
params_deep text n start now list deepest s h =
    record { deep = refused (ParamList text) n start [] 0 now list deepest s (λ ps d r a. params_first h a) }

pub params_end : (text : List ℕ) (n : ℕ) (start now r : List Token) (list : List Param) (deepest : ℕ) (f : FoundParam) (o : FoundParams) → SoFar (ParamList text) n start [] 0 now list deepest → IsParam text n now r f → is_param (param_lead r) ≡ false → o.list ≡ list ++ f.param ∷ [] → o.depth ≡ max deepest f.depth → AreParams text n start r o
params_end text n start now r list deepest f o s b g e1 e2 =
    let d = ends (ParamList text) n start [] 0 now list deepest f.depth f.param r s (last_param b.reads g) b.small in
    let depth : d.depth_of ≡ o.depth = (let i = d.depth_is in omega arith) in
    let one = subst (λ (ps : List Param). ReadsParams text start ps d.depth_of r) (sym (e1 ∙ d.list_is)) d.reads in
    record { reads = subst (λ (i : ℕ). ReadsParams text start o.list i r) depth one; small = (let i = d.small in omega arith) }
