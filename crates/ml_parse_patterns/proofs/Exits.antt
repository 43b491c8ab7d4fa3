-- The exits of the readers, each at the places that its steps left.
use Rattle.std.proofs.Common.{◌≡◌, ◌≢◌, ℕ, ◌+◌, ◌<◌, max, true, List, [], ◌∷◌, ◌++◌, drop, length, refl, sym, ap, ◌∙◌, subst, arith, Some}
use Rattle.oxml_base.specs.declared.span.Span.{Span}
use Rattle.ml_lexer.specs.declared.token.Token.{Token}
use Rattle.ml_tree.specs.declared.pattern.Pat.{Pat}
use Rattle.ml_tree.specs.declared.pattern.FieldPat.{FieldPat}
use Rattle.ml_tree.specs.declared.pattern.Param.{Param}
use Rattle.ml_tree.specs.declared.pattern.PatKind.TheVariants as Kind
use Rattle.ml_tree.specs.declared.pattern.ConName.TheVariants.{Named}
use Rattle.ml_cursor.specs.declared.front.Front.TheVariants as Front
use Rattle.ml_cursor.specs.Fronts.{front}
use Rattle.ml_cursor.specs.Places.{first_span}
use Rattle.ml_parse_types.proofs.Shorter.{length-drop}
use Rattle.ml_parse_types.specs.Types.{got, ReadsWords}
use Rattle.ml_parse_types.specs.Readers.{IsNone as NoneRead}
use Rattle.ml_tree.specs.declared.words.Words.{Words}
use Rattle.ml_parse_patterns.specs.declared.looks.Lead.TheVariants.{Name, Paren, Bracket, Brace}
use Rattle.ml_parse_patterns.specs.declared.looks.Level.{Level}
use Rattle.ml_parse_patterns.specs.declared.looks.Level.TheVariants.{Simple, Operand, Cons, Tuple, Pattern}
use Rattle.ml_parse_patterns.specs.declared.looks.Listing.{Listing}
use Rattle.ml_parse_patterns.specs.declared.looks.Listing.TheVariants.{Components, Elements}
use Rattle.ml_parse_patterns.specs.declared.looks.After.TheVariants.{Goes, Stops}
use Rattle.ml_parse_patterns.specs.declared.looks.AfterField.TheVariants.{Next}
use Rattle.ml_parse_patterns.specs.declared.found.Found.{Found}
use Rattle.ml_parse_patterns.specs.declared.found.FoundList.{FoundList}
use Rattle.ml_parse_patterns.specs.declared.found.FoundField.{FoundField}
use Rattle.ml_parse_patterns.specs.declared.found.FoundParam.{FoundParam}
use Rattle.ml_parse_patterns.specs.Looks.{lead, applies, after, after_field, param_lead, is_param}
use Rattle.ml_parse_patterns.specs.Patterns.{level_of, ReadsSimple, name}
use Rattle.ml_parse_patterns.specs.Readings.{IsNode, IsFound, NoTree, IsNone, NoAnnotation, IsLonger, NoList, IsField, NoField, NoFields, IsParam, NoOthers, HasOther}
use Rattle.ml_parse_patterns.proofs.Refusals.{no_depth, by_lead, parens_deep, parens_open, parens_untyped, elements_deep, record_deep, operand_applied, cons_rest, tuple_rest}
use Rattle.ml_parse_patterns.proofs.Founds.{made, by_its_lead, elements_found, applied_found, cons_found, tuple_found}
use Rattle.ml_parse_patterns.proofs.Chains.{no_other_behind, other_found}
use Rattle.ml_parse_patterns.proofs.Shorter.{shorter, field_shorter}
use Rattle.ml_parse_patterns.proofs.ListReadings.{SoFar, begins, goes_on, ends, PatList, FieldList, ParamList, list_step, list_last, field_step, param_step}
use Rattle.ml_parse_patterns.proofs.Unique.{one_words}
use Rattle.ml_parse_patterns.proofs.ParamReadings.{no_field_depth}

tree_at : {text : List ℕ} {level : Level} {m n : ℕ} {hs us : List Token} → m ≡ n → hs ≡ us → NoTree text level m hs → NoTree text level n us
tree_at {text = text} {level = level} {n = n} {hs = hs} e f h = subst (λ (x : List Token). NoTree text level n x) f (subst (λ (i : ℕ). NoTree text level i hs) e h)

found_at : {text : List ℕ} {level : Level} {m n : ℕ} {ts us : List Token} {f : Found} → m ≡ n → IsFound text level m ts us f → IsFound text level n ts us f
found_at {text = text} {level = level} {ts = ts} {us = us} {f = f} e h = subst (λ (i : ℕ). IsFound text level i ts us f) e h

pub no_left : (text : List ℕ) (level : Level) (n : ℕ) (ts : List Token) → n ≡ 0 → NoTree text level n ts
no_left text level n ts e = tree_at (sym e) refl (no_depth text level ts)

pub no_field_left : (text : List ℕ) (n : ℕ) (ts : List Token) → n ≡ 0 → NoField text n ts
no_field_left text n ts e = subst (λ (i : ℕ). NoField text i ts) (sym e) (no_field_depth text ts)

-- names with words
pub name_read : (text : List ℕ) (ts us r : List Token) (w : Words) (f : Found) → lead ts ≡ Name → ReadsWords ts (got w us) → front us ≡ Front.Lower → r ≡ drop 1 us → IsNode ts r (Kind.Name w (first_span us)) 1 f → IsFound text Simple 1 ts r f
name_read text ts us r w f e v l h m = record { reads = made m h (by_its_lead e (name v l)); small = omega (arith, m.depth_is) }

pub parens_deep_at : (text : List ℕ) (n : ℕ) (ts hs : List Token) → lead ts ≡ Paren → hs ≡ drop 1 ts → NoTree text Pattern n hs → NoTree text Simple (n + 1) ts
parens_deep_at text n ts hs e h a = parens_deep text n ts e (tree_at refl h a)

pub elements_deep_at : (text : List ℕ) (n : ℕ) (ts hs : List Token) → lead ts ≡ Bracket → hs ≡ drop 1 ts → NoList text Elements n hs → NoTree text Simple (n + 1) ts
elements_deep_at text n ts hs e h a = elements_deep text n ts e (subst (λ (x : List Token). NoList text Elements n x) h a)

pub elements_found_at : (text : List ℕ) (n : ℕ) (ts hs r : List Token) (before : List Pat) (l : FoundList) (f : Found) → lead ts ≡ Bracket → hs ≡ drop 1 ts → before ≡ [] → IsLonger text Elements n hs r before 0 l → IsNode ts r (Kind.List l.list) (l.depth + 1) f → IsFound text Simple (n + 1) ts r f
elements_found_at text n ts hs r before l f e h b a m = elements_found text n ts hs r l f e h (subst (λ (ps : List Pat). IsLonger text Elements n hs r ps 0 l) b a) m

pub record_deep_at : (text : List ℕ) (n : ℕ) (ts hs : List Token) → lead ts ≡ Brace → hs ≡ drop 1 ts → NoFields text n hs → NoTree text Simple (n + 1) ts
record_deep_at text n ts hs e h a = record_deep text n ts e (subst (λ (x : List Token). NoFields text n x) h a)

pub applied_deep_at : (text : List ℕ) (m n : ℕ) (ts hs : List Token) → m ≡ n + 1 → applies ts ≡ true → hs ≡ drop 1 ts → NoTree text Simple n hs → NoTree text Operand m ts
applied_deep_at text m n ts hs g e h a = tree_at (sym g) refl (operand_applied text n ts e (tree_at refl h a))

pub applied_found_at : (text : List ℕ) (m n : ℕ) (ts hs r : List Token) (p f : Found) (called : Span) → m ≡ n + 1 → applies ts ≡ true → hs ≡ drop 1 ts → IsFound text Simple n hs r p → called ≡ first_span ts → IsNode ts r (Kind.Con (Named called) (Some p.pat)) (p.depth + 1) f → IsFound text Operand m ts r f
applied_found_at text m n ts hs r p f called g e h b i o =
    found_at (sym g) (applied_found text n ts hs r p f e h b (subst (λ (s : Span). IsNode ts r (Kind.Con (Named s) (Some p.pat)) (p.depth + 1) f) i o))

pub cons_rest_at : (text : List ℕ) (m n k : ℕ) (ts us hs : List Token) (f : Found) → m ≡ n + 1 → hs ≡ drop 1 us → IsFound text Operand k ts us f → front us ≡ Front.ColonColon → NoTree text Cons n hs → NoTree text Cons m ts
cons_rest_at text m n k ts us hs f g h b e a = tree_at (sym g) refl (cons_rest text n k ts us f b e (tree_at refl h a))

pub cons_found_at : (text : List ℕ) (m n k : ℕ) (ts us hs r : List Token) (p q f : Found) → m ≡ n + 1 → hs ≡ drop 1 us → IsFound text Operand k ts us p → front us ≡ Front.ColonColon → p.depth < m → IsFound text Cons n hs r q → IsNode ts r (Kind.Cons p.pat q.pat) (max p.depth q.depth + 1) f → IsFound text Cons m ts r f
cons_found_at text m n k ts us hs r p q f g h b e lt c o = found_at (sym g) (cons_found text n k ts us hs r p q f b e (omega (arith, g, lt)) h c o)

pub tuple_rest_at : (text : List ℕ) (m n k : ℕ) (ts us hs : List Token) (f : Found) → m ≡ n + 1 → hs ≡ drop 1 us → IsFound text Cons k ts us f → front us ≡ Front.Comma → NoList text Components n hs → NoTree text Tuple m ts
tuple_rest_at text m n k ts us hs f g h b e a = tree_at (sym g) refl (tuple_rest text n k ts us f b e (subst (λ (x : List Token). NoList text Components n x) h a))

pub tuple_found_at : (text : List ℕ) (m n k : ℕ) (ts us hs r : List Token) (before : List Pat) (p f : Found) (l : FoundList) → m ≡ n + 1 → hs ≡ drop 1 us → IsFound text Cons k ts us p → front us ≡ Front.Comma → before ≡ p.pat ∷ [] → IsLonger text Components n hs r before p.depth l → IsNode ts r (Kind.Tuple l.list) (l.depth + 1) f → IsFound text Tuple m ts r f
tuple_found_at text m n k ts us hs r before p f l g h b e i c o =
    found_at (sym g) (tuple_found text n k ts us hs r p f l b e h (subst (λ (ps : List Pat). IsLonger text Components n hs r ps p.depth l) i c) o)

pub other_deep_at : (text : List ℕ) (m n : ℕ) (start here hs : List Token) (f : Found) → m ≡ n + 1 → front here ≡ Front.Bar → hs ≡ drop 1 here → NoTree text Tuple n hs → NoOthers text m start here f
other_deep_at text m n start here hs f g e h a = subst (λ (i : ℕ). NoOthers text i start here f) (sym g) (no_other_behind text n start here hs f e h a)

pub other_found_at : (text : List ℕ) (m n : ℕ) (start here hs r : List Token) (first last f : Found) → m ≡ n + 1 → hs ≡ drop 1 here → first.depth < m → IsFound text Tuple n hs r last → IsNode start r (Kind.Or first.pat last.pat) (max first.depth last.depth + 1) f → HasOther text m start here r first f
other_found_at text m n start here hs r first last f g h lt b o =
    subst (λ (i : ℕ). HasOther text i start here r first f) (sym g) (other_found text n start here hs r first last f h (omega (arith, g, lt)) b o)

-- lists
pub list_goes_on : (text : List ℕ) (k : Listing) (n m : ℕ) (start : List Token) (before : List Pat) (depth : ℕ) (now us next : List Token) (list more : List Pat) (deepest deeper : ℕ) (f : Found) → SoFar (PatList text k) n start before depth now list deepest → IsFound text (level_of k) n now us f → after k us ≡ Goes m → next ≡ drop m us → more ≡ list ++ f.pat ∷ [] → deeper ≡ max deepest f.depth → SoFar (PatList text k) n start before depth next more deeper
list_goes_on text k n m start before depth now us next list more deepest deeper f s b g h i d =
    let o = goes_on (PatList text k) n start before depth now next list deepest f.depth f.pat s (list_step text k n m now us next f b g h) b.small in
    subst (λ (ps : List Pat). SoFar (PatList text k) n start before depth next ps deeper) (sym i) (subst (λ (e : ℕ). SoFar (PatList text k) n start before depth next (list ++ f.pat ∷ []) e) (sym d) o)

pub list_ends : (text : List ℕ) (k : Listing) (n m : ℕ) (start : List Token) (before : List Pat) (depth : ℕ) (now us r : List Token) (list : List Pat) (deepest : ℕ) (f : Found) (o : FoundList) → SoFar (PatList text k) n start before depth now list deepest → IsFound text (level_of k) n now us f → after k us ≡ Stops m → r ≡ drop m us → o.list ≡ list ++ f.pat ∷ [] → o.depth ≡ max deepest f.depth → IsLonger text k n start r before depth o
list_ends text k n m start before depth now us r list deepest f o s b g h i d =
    let e = ends (PatList text k) n start before depth now list deepest f.depth f.pat r s (list_last text k n m now us r f b g h) b.small in
    record { more = e.more; deepest = e.depth_of; reads = e.reads; list_is = i ∙ e.list_is; depth_is = d ∙ e.depth_is; small = (let q = e.small in omega (arith, q, d)) }

pub list_smaller : (text : List ℕ) (level : Level) (n m : ℕ) (now us next : List Token) (f : Found) → IsFound text level n now us f → next ≡ drop m us → length next < length now
list_smaller text level n m now us next f b h = omega (arith, shorter b.reads, ap length h, length-drop m us)

pub fields_begin : (text : List ℕ) (n : ℕ) (start : List Token) (list : List FieldPat) → list ≡ [] → SoFar (FieldList text) n start [] 0 start list 0
fields_begin text n start list e = subst (λ (fs : List FieldPat). SoFar (FieldList text) n start [] 0 start fs 0) (sym e) (begins (FieldList text) n start [] 0 (omega arith))

pub fields_go_on : (text : List ℕ) (n : ℕ) (start now us next : List Token) (list more : List FieldPat) (deepest deeper : ℕ) (f : FoundField) → SoFar (FieldList text) n start [] 0 now list deepest → IsField text n now us f → after_field us ≡ Next → next ≡ drop 1 us → more ≡ list ++ f.field ∷ [] → deeper ≡ max deepest f.depth → SoFar (FieldList text) n start [] 0 next more deeper
fields_go_on text n start now us next list more deepest deeper f s b g h i d =
    let o = goes_on (FieldList text) n start [] 0 now next list deepest f.depth f.field s (field_step text n now us next f b g h) b.small in
    subst (λ (ps : List FieldPat). SoFar (FieldList text) n start [] 0 next ps deeper) (sym i) (subst (λ (e : ℕ). SoFar (FieldList text) n start [] 0 next (list ++ f.field ∷ []) e) (sym d) o)

pub fields_smaller : (text : List ℕ) (n m : ℕ) (now us next : List Token) (f : FoundField) → IsField text n now us f → next ≡ drop m us → length next < length now
fields_smaller text n m now us next f b h = omega (arith, field_shorter b.reads, ap length h, length-drop m us)

pub params_begin : (text : List ℕ) (n : ℕ) (start : List Token) (list : List Param) → list ≡ [] → SoFar (ParamList text) n start [] 0 start list 0
params_begin text n start list e = subst (λ (fs : List Param). SoFar (ParamList text) n start [] 0 start fs 0) (sym e) (begins (ParamList text) n start [] 0 (omega arith))

pub params_go_on : (text : List ℕ) (n : ℕ) (start now us : List Token) (list more : List Param) (deepest deeper : ℕ) (f : FoundParam) → SoFar (ParamList text) n start [] 0 now list deepest → IsParam text n now us f → is_param (param_lead us) ≡ true → more ≡ list ++ f.param ∷ [] → deeper ≡ max deepest f.depth → SoFar (ParamList text) n start [] 0 us more deeper
params_go_on text n start now us list more deepest deeper f s b g i d =
    let o = goes_on (ParamList text) n start [] 0 now us list deepest f.depth f.param s (param_step text n now us f b g) b.small in
    subst (λ (ps : List Param). SoFar (ParamList text) n start [] 0 us ps deeper) (sym i) (subst (λ (e : ℕ). SoFar (ParamList text) n start [] 0 us (list ++ f.param ∷ []) e) (sym d) o)

-- names that are not there
none_by_words : {text : List ℕ} {ts r : List Token} {p : Pat} {d : ℕ} → NoneRead ReadsWords ts → ReadsSimple text Name ts p d r → ⊥
none_by_words h (name w f) = h.none _ w

pub words_absent : (text : List ℕ) (ts : List Token) → lead ts ≡ Name → NoneRead ReadsWords ts → IsNone text ts
words_absent text ts e h = record { none = λ p d r a. none_by_words h (by_lead e a) }

none_by_name : {text : List ℕ} {ts us r : List Token} {w : Words} {p : Pat} {d : ℕ} → ReadsWords ts (got w us) → front us ≢ Front.Lower → ReadsSimple text Name ts p d r → ⊥
none_by_name v m (name w f) = m (sym (ap front (one_words v w).1) ∙ f)

pub name_absent : (text : List ℕ) (ts us : List Token) (w : Words) → lead ts ≡ Name → ReadsWords ts (got w us) → front us ≢ Front.Lower → IsNone text ts
name_absent text ts us w e v m = record { none = λ p d r a. none_by_name v m (by_lead e a) }

-- behind a pattern in parentheses
pub parens_open_at : (text : List ℕ) (n k : ℕ) (ts hs us : List Token) (f : Found) → lead ts ≡ Paren → hs ≡ drop 1 ts → IsFound text Pattern k hs us f → front us ≢ Front.CloseParen → front us ≢ Front.Colon → NoTree text Simple n ts
parens_open_at text n k ts hs us f e h b m o = parens_open text n k ts us f e (subst (λ (x : List Token). IsFound text Pattern k x us f) h b) m o

pub parens_untyped_at : (text : List ℕ) (n k : ℕ) (ts hs us : List Token) (f : Found) → lead ts ≡ Paren → hs ≡ drop 1 ts → IsFound text Pattern k hs us f → front us ≡ Front.Colon → NoAnnotation us → NoTree text Simple n ts
parens_untyped_at text n k ts hs us f e h b m o = parens_untyped text n k ts us f e (subst (λ (x : List Token). IsFound text Pattern k x us f) h b) m o
