-- Fields of record patterns, and parameters.
use Rattle.std.proofs.Common.{◌≡◌, ◌≢◌, ℕ, ◌+◌, ◌≤◌, ◌<◌, List, drop, sym, ap, ◌∙◌, subst, arith}
use Rattle.std.proofs.lemmas.List.{drop-drop}
use Rattle.oxml_base.specs.declared.span.Span.{Span}
use Rattle.ml_lexer.specs.declared.token.Token.{Token}
use Rattle.ml_tree.specs.declared.pattern.Pat.{Pat}
use Rattle.ml_tree.specs.declared.pattern.FieldPat.{FieldPat}
use Rattle.ml_tree.specs.declared.pattern.Param.{Param}
use Rattle.ml_tree.specs.declared.words.Words.{Words}
use Rattle.ml_cursor.specs.declared.front.Front.TheVariants as Front
use Rattle.ml_cursor.specs.Fronts.{front}
use Rattle.ml_cursor.specs.Places.{first_span}
use Rattle.ml_parse_types.specs.declared.looks.Row.TheVariants.{Factors}
use Rattle.ml_parse_types.specs.Types.{got, ReadsType, ReadsWords}
use Rattle.ml_parse_types.specs.Looks.{no_words}
use Rattle.ml_parse_types.specs.Readers.{IsNone}
use Rattle.ml_parse_patterns.specs.declared.looks.Leaf.{Leaf}
use Rattle.ml_parse_patterns.specs.declared.looks.Leaf.TheVariants.{Bound}
use Rattle.ml_parse_patterns.specs.declared.looks.Level.TheVariants.{Pattern}
use Rattle.ml_parse_patterns.specs.declared.looks.ParamLead.{ParamLead}
use Rattle.ml_parse_patterns.specs.declared.looks.ParamLead.TheVariants.{Absent, Short, Parens}
use Rattle.ml_parse_patterns.specs.declared.found.Found.{Found}
use Rattle.ml_parse_patterns.specs.declared.found.FoundField.{FoundField}
use Rattle.ml_parse_patterns.specs.declared.found.FoundParam.{FoundParam}
use Rattle.ml_parse_patterns.specs.Looks.{node, leaf_kind, param_lead}
use Rattle.ml_parse_patterns.specs.Patterns.{Reads, ReadsField, pun, field, ReadsParamBy, short, parens, annotated, ReadsParam}
use Rattle.ml_parse_patterns.specs.Readings.{IsFound, NoTree, IsField, NoField, IsParam, NoParam, NoAnnotation, HasType}
use Rattle.ml_parse_patterns.proofs.Depths.{field_positive, param_positive}
use Rattle.ml_parse_patterns.proofs.Unique.{same, one_words}

twice : (ts us hs : List Token) → us ≡ drop 1 ts → hs ≡ drop 1 us → hs ≡ drop 2 ts
twice ts us hs e f = f ∙ ap (λ x. drop 1 x) e ∙ drop-drop 1 1 ts

-- fields
no_lower : {text : List ℕ} {ts r : List Token} {f : FieldPat} {d : ℕ} → front ts ≢ Front.Lower → ReadsField text ts f d r → ⊥
no_lower m (pun l n) = m l
no_lower m (field l e a) = m l

pub field_unnamed : (text : List ℕ) (n : ℕ) (ts : List Token) → front ts ≢ Front.Lower → NoField text n ts
field_unnamed text n ts m = record { deep = λ f d r a. absurd (no_lower m a) }

pub no_field_depth : (text : List ℕ) (ts : List Token) → NoField text 0 ts
no_field_depth text ts = record { deep = λ f d r a. field_positive a }

field_pattern_deep : {text : List ℕ} {n : ℕ} {ts r : List Token} {f : FieldPat} {d : ℕ} → front (drop 1 ts) ≡ Front.Equal → NoTree text Pattern n (drop 2 ts) → ReadsField text ts f d r → n < d
field_pattern_deep e h (pun l m) = absurd (m e)
field_pattern_deep e h (field l f a) = h.deep _ _ _ a

pub field_deep : (text : List ℕ) (n : ℕ) (ts us hs : List Token) → us ≡ drop 1 ts → front us ≡ Front.Equal → hs ≡ drop 1 us → NoTree text Pattern n hs → NoField text n ts
field_deep text n ts us hs e f g h =
    let equal : front (drop 1 ts) ≡ Front.Equal = sym (ap front e) ∙ f in
    let none : NoTree text Pattern n (drop 2 ts) = subst (λ (x : List Token). NoTree text Pattern n x) (twice ts us hs e g) h in
    record { deep = λ p d r a. field_pattern_deep equal none a }

abbrev a_field : Span → Pat → FieldPat
a_field name p = record { id = 0; name = name; pat = p }

pub field_found : (text : List ℕ) (n : ℕ) (ts us hs r : List Token) (p : Found) (f : FoundField) → front ts ≡ Front.Lower → us ≡ drop 1 ts → front us ≡ Front.Equal → hs ≡ drop 1 us → IsFound text Pattern n hs r p → f.field ≡ a_field (first_span ts) p.pat → f.depth ≡ p.depth → IsField text n ts r f
field_found text n ts us hs r p f l e q g h t d =
    let equal : front (drop 1 ts) ≡ Front.Equal = sym (ap front e) ∙ q in
    let inner : Reads text Pattern (drop 2 ts) p.pat p.depth r = subst (λ (x : List Token). Reads text Pattern x p.pat p.depth r) (twice ts us hs e g) h.reads in
    let one : ReadsField text ts (a_field (first_span ts) p.pat) p.depth r = field l equal inner in
    record {
      reads = subst (λ (i : ℕ). ReadsField text ts f.field i r) (sym d) (subst (λ (x : FieldPat). ReadsField text ts x p.depth r) (sym t) one);
      small = (let s = h.small in omega arith);
    }

pub pun_found : (text : List ℕ) (n : ℕ) (ts us : List Token) (f : FoundField) → front ts ≡ Front.Lower → us ≡ drop 1 ts → front us ≢ Front.Equal → 1 ≤ n → f.field ≡ a_field (first_span ts) (node ts us (leaf_kind (Bound (first_span ts)))) → f.depth ≡ 1 → IsField text n ts us f
pun_found text n ts us f l e m le t d =
    let other : front (drop 1 ts) ≢ Front.Equal = (λ g. m (ap front e ∙ g)) in
    let one : ReadsField text ts (a_field (first_span ts) (node ts us (leaf_kind (Bound (first_span ts))))) 1 us =
    subst (λ (x : List Token). ReadsField text ts (a_field (first_span ts) (node ts x (leaf_kind (Bound (first_span ts))))) 1 x) (sym e) (pun l other) in
    record {
      reads = subst (λ (i : ℕ). ReadsField text ts f.field i us) (sym d) (subst (λ (x : FieldPat). ReadsField text ts x 1 us) (sym t) one);
      small = omega arith;
    }

-- parameters
pub by_param_lead : {text : List ℕ} {l : ParamLead} {ts r : List Token} {p : Param} {d : ℕ} → param_lead ts ≡ l → ReadsParam text ts p d r → ReadsParamBy text l ts p d r
by_param_lead {text = text} {ts = ts} {r = r} {p = p} {d = d} e a = subst (λ (m : ParamLead). ReadsParamBy text m ts p d r) e a

by_its_lead : {text : List ℕ} {l : ParamLead} {ts r : List Token} {p : Param} {d : ℕ} → param_lead ts ≡ l → ReadsParamBy text l ts p d r → ReadsParam text ts p d r
by_its_lead {text = text} {ts = ts} {r = r} {p = p} {d = d} e a = subst (λ (m : ParamLead). ReadsParamBy text m ts p d r) (sym e) a

pub no_param_depth : (text : List ℕ) (ts : List Token) → NoParam text 0 ts
no_param_depth text ts = record { deep = λ p d r a. param_positive a }

none_absent : {text : List ℕ} {ts r : List Token} {p : Param} {d : ℕ} (P : Type 0) → ReadsParamBy text Absent ts p d r → P
none_absent P h = elim h [ ]

pub param_absent : (text : List ℕ) (n : ℕ) (ts : List Token) → param_lead ts ≡ Absent → NoParam text n ts
param_absent text n ts e = record { deep = λ p d r a. none_absent (n < d) (by_param_lead e a) }

abbrev a_param : Words → Pat → Param
a_param words p = record { words = words; pat = p }

param_made : {text : List ℕ} {ts r us : List Token} {p : Param} {d : ℕ} {f : FoundParam} → f.param ≡ p → f.depth ≡ d → r ≡ us → ReadsParam text ts p d us → ReadsParam text ts f.param f.depth r
param_made {text = text} {ts = ts} {r = r} {us = us} {p = p} {d = d} {f = f} t e h a =
    let one = subst (λ (x : List Token). ReadsParam text ts p d x) (sym h) a in
    subst (λ (i : ℕ). ReadsParam text ts f.param i r) (sym e) (subst (λ (x : Param). ReadsParam text ts x d r) (sym t) one)

pub short_found : (text : List ℕ) (l : Leaf) (n : ℕ) (ts r : List Token) (f : FoundParam) → param_lead ts ≡ Short l n → r ≡ drop n ts → f.param ≡ a_param no_words (node ts r (leaf_kind l)) → f.depth ≡ 1 → IsParam text 1 ts r f
short_found text l n ts r f e h t d =
    let tree : f.param ≡ a_param no_words (node ts (drop n ts) (leaf_kind l)) = t ∙ ap (λ (x : List Token). a_param no_words (node ts x (leaf_kind l))) h in
    record { reads = param_made tree d h (by_its_lead e short); small = omega arith }

pub wider_param : {text : List ℕ} {m n : ℕ} {ts r : List Token} {f : FoundParam} → m ≤ n → IsParam text m ts r f → IsParam text n ts r f
wider_param le h = record { reads = h.reads; small = (let s = h.small in omega arith) }

-- a parameter in parentheses
pub param_words : (text : List ℕ) (n : ℕ) (ts hs : List Token) → param_lead ts ≡ Parens → hs ≡ drop 1 ts → IsNone ReadsWords hs → NoParam text n ts
param_words text n ts hs e h b = record {
  deep = λ p d r a. (
      let none : IsNone ReadsWords (drop 1 ts) = subst (λ (x : List Token). IsNone ReadsWords x) h b in
      absurd (no_words_read none (by_param_lead e a)));
}
  where
    no_words_read : {text : List ℕ} {ts r : List Token} {p : Param} {d : ℕ} → IsNone ReadsWords (drop 1 ts) → ReadsParamBy text Parens ts p d r → ⊥
    no_words_read b (parens w a f) = b.none _ w
    no_words_read b (annotated w a f t c) = b.none _ w

parens_first : {text : List ℕ} {n : ℕ} {ts us r : List Token} {w : Words} {p : Param} {d : ℕ} → ReadsWords (drop 1 ts) (got w us) → NoTree text Pattern n us → ReadsParamBy text Parens ts p d r → n < d
parens_first {text = text} v h (parens {p = q} {d = e} {vs = vs} x a f) =
    h.deep q e vs (subst (λ (r : List Token). Reads text Pattern r q e vs) (one_words v x).1 a)
parens_first {text = text} v h (annotated {p = q} {d = e} {vs = vs} x a f t c) =
    let g = h.deep q e vs (subst (λ (r : List Token). Reads text Pattern r q e vs) (one_words v x).1 a) in
    omega arith

pub param_deep : (text : List ℕ) (n : ℕ) (ts hs us : List Token) (w : Words) → param_lead ts ≡ Parens → hs ≡ drop 1 ts → ReadsWords hs (got w us) → NoTree text Pattern n us → NoParam text n ts
param_deep text n ts hs us w e h v b =
    let words : ReadsWords (drop 1 ts) (got w us) = subst (λ (x : List Token). ReadsWords x (got w us)) h v in
    record { deep = λ p d r a. parens_first words b (by_param_lead e a) }

-- what stands behind the pattern of a parameter
record Behind (text : List ℕ) (vs : List Token) (q : Pat) (e : ℕ) (d : ℕ) : Type 0 where
  closed_or_typed : (front vs ≡ Front.CloseParen → ⊥) → (front vs ≡ Front.Colon) × (d ≡ e + 1)
  typed_well : front vs ≡ Front.Colon → NoAnnotation vs → ⊥

behind : {text : List ℕ} {ts us vs r : List Token} {w : Words} {q : Pat} {e : ℕ} {p : Param} {d : ℕ} → ReadsWords (drop 1 ts) (got w us) → Reads text Pattern us q e vs → ReadsParamBy text Parens ts p d r → Behind text vs q e d
behind {text = text} v b (parens {p = q} {d = e} {vs = vs} x a f) =
    let s = same b (subst (λ (r : List Token). Reads text Pattern r q e vs) (one_words v x).1 a) in
    let here = sym (ap front s.rest) ∙ f in
    record {
      closed_or_typed = λ m. absurd (m here);
      typed_well = λ g n. (let h : Front.Colon ≡ Front.CloseParen = sym g ∙ here in cc);
    }
behind {text = text} v b (annotated {p = q} {t = t} {d = e} {vs = vs} {xs = xs} x a f c l) =
    let s = same b (subst (λ (r : List Token). Reads text Pattern r q e vs) (one_words v x).1 a) in
    let here = sym (ap front s.rest) ∙ f in
    record {
      closed_or_typed = λ m. (here, ap (λ i. i + 1) s.depth);
      typed_well = λ g n. n.none t xs (subst (λ (r : List Token). ReadsType Factors (drop 1 r) (got t xs)) s.rest c) l;
    }

pub param_full : (text : List ℕ) (n k : ℕ) (ts hs us vs : List Token) (w : Words) (q : Found) → param_lead ts ≡ Parens → hs ≡ drop 1 ts → ReadsWords hs (got w us) → IsFound text Pattern k us vs q → front vs ≡ Front.Colon → n ≤ q.depth → NoParam text n ts
param_full text n k ts hs us vs w q e h v b f le =
    let words : ReadsWords (drop 1 ts) (got w us) = subst (λ (x : List Token). ReadsWords x (got w us)) h v in
    let m : front vs ≡ Front.CloseParen → ⊥ = (λ g. (let z : Front.Colon ≡ Front.CloseParen = sym f ∙ g in cc)) in
    record { deep = λ p d r a. (let o : d ≡ q.depth + 1 = ((behind words b.reads (by_param_lead e a)).closed_or_typed m).1 in omega arith) }

pub param_untyped : (text : List ℕ) (n k : ℕ) (ts hs us vs : List Token) (w : Words) (q : Found) → param_lead ts ≡ Parens → hs ≡ drop 1 ts → ReadsWords hs (got w us) → IsFound text Pattern k us vs q → front vs ≡ Front.Colon → NoAnnotation vs → NoParam text n ts
param_untyped text n k ts hs us vs w q e h v b f none =
    let words : ReadsWords (drop 1 ts) (got w us) = subst (λ (x : List Token). ReadsWords x (got w us)) h v in
    record { deep = λ p d r a. absurd ((behind words b.reads (by_param_lead e a)).typed_well f none) }

pub param_open : (text : List ℕ) (n k : ℕ) (ts hs us vs : List Token) (w : Words) (q : Found) → param_lead ts ≡ Parens → hs ≡ drop 1 ts → ReadsWords hs (got w us) → IsFound text Pattern k us vs q → front vs ≢ Front.CloseParen → front vs ≢ Front.Colon → NoParam text n ts
param_open text n k ts hs us vs w q e h v b m o =
    let words : ReadsWords (drop 1 ts) (got w us) = subst (λ (x : List Token). ReadsWords x (got w us)) h v in
    record { deep = λ p d r a. absurd (o ((behind words b.reads (by_param_lead e a)).closed_or_typed m).0) }

pub parens_found : (text : List ℕ) (n : ℕ) (ts hs us vs r : List Token) (w : Words) (q : Found) (f : FoundParam) → param_lead ts ≡ Parens → hs ≡ drop 1 ts → ReadsWords hs (got w us) → IsFound text Pattern n us vs q → front vs ≡ Front.CloseParen → r ≡ drop 1 vs → f.param ≡ a_param w q.pat → f.depth ≡ q.depth → IsParam text n ts r f
parens_found text n ts hs us vs r w q f e h v b c g t d =
    let words : ReadsWords (drop 1 ts) (got w us) = subst (λ (x : List Token). ReadsWords x (got w us)) h v in
    record { reads = param_made t d g (by_its_lead e (parens words b.reads c)); small = (let s = b.small in omega arith) }

pub typed_found : (text : List ℕ) (n k : ℕ) (tokens ts hs us vs r : List Token) (w : Words) (q o : Found) (f : FoundParam) → param_lead ts ≡ Parens → hs ≡ drop 1 ts → ReadsWords hs (got w us) → IsFound text Pattern k us vs q → q.depth < n → front vs ≡ Front.Colon → HasType tokens us vs r q o → f.param ≡ a_param w o.pat → f.depth ≡ o.depth → IsParam text n ts r f
typed_found text n k tokens ts hs us vs r w q o f e h v b lt c y t d =
    let words : ReadsWords (drop 1 ts) (got w us) = subst (λ (x : List Token). ReadsWords x (got w us)) h v in
    let tree = t ∙ ap (λ (x : Pat). a_param w x) y.node_is.tree in
    record {
      reads = param_made tree (d ∙ y.node_is.depth_is) y.reads.rest_is (by_its_lead e (annotated words b.reads c y.reads.reads y.reads.closes));
      small = (let s = y.node_is.depth_is in omega arith);
    }

pub no_param_left : (text : List ℕ) (n : ℕ) (ts : List Token) → n ≡ 0 → NoParam text n ts
no_param_left text n ts e = subst (λ (i : ℕ). NoParam text i ts) (sym e) (no_param_depth text ts)
