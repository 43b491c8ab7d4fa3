-- What the readers found is read.
use Rattle.std.proofs.Common.{◌≡◌, ◌≢◌, ℕ, ◌+◌, ◌≤◌, max, true, false, List, [], ◌∷◌, drop, refl, sym, ap, ◌∙◌, subst, arith, Some}
use Rattle.std.specs.Prelude.{slice_get}
use Rattle.ml_cursor.proofs.Lists.{first_from}
use Rattle.ml_lexer.specs.declared.token.Token.{Token}
use Rattle.ml_lexer.specs.Tokens.{IsLiteral}
use Rattle.ml_parse_types.specs.declared.looks.Row.TheVariants.{Factors}
use Rattle.ml_parse_types.specs.Types.{Got, got, ReadsType}
use Rattle.ml_parse_types.specs.Readers.{IsNone}
use Rattle.ml_parse_types.proofs.Unique.{same_type}
use Rattle.ml_tree.specs.declared.pattern.Pat.{Pat}
use Rattle.ml_tree.specs.declared.pattern.PatKind.{PatKind}
use Rattle.ml_tree.specs.declared.pattern.PatKind.TheVariants as Kind
use Rattle.ml_tree.specs.declared.pattern.ConName.TheVariants.{Named}
use Rattle.ml_tree.specs.declared.types.TyExpr.{TyExpr}
use Rattle.ml_cursor.specs.declared.front.Front.TheVariants as Front
use Rattle.ml_cursor.specs.Fronts.{front}
use Rattle.ml_cursor.specs.Places.{first_span}
use Rattle.ml_parse_patterns.specs.declared.looks.Leaf.{Leaf}
use Rattle.ml_parse_patterns.specs.declared.looks.Lead.{Lead}
use Rattle.ml_parse_patterns.specs.declared.looks.Lead.TheVariants.{Whole, Quoted, Paren, Bracket, Brace}
use Rattle.ml_parse_patterns.specs.declared.looks.Level.{Level}
use Rattle.ml_parse_patterns.specs.declared.looks.Level.TheVariants.{Simple, Operand, Cons, Tuple, Or, Pattern}
use Rattle.ml_parse_patterns.specs.declared.looks.Listing.TheVariants.{Components, Elements}
use Rattle.ml_parse_patterns.specs.declared.found.Found.{Found}
use Rattle.ml_parse_patterns.specs.declared.found.FoundList.{FoundList}
use Rattle.ml_parse_patterns.specs.declared.found.FoundFields.{FoundFields}
use Rattle.ml_parse_patterns.specs.declared.found.Annotation.{Annotation}
use Rattle.ml_parse_patterns.specs.Looks.{node, lead, leaf_kind, applies}
use Rattle.ml_parse_patterns.specs.Patterns.{ReadsSimple, leaf, quoted, paren, typed, bracket, brace, Reads, simple, bare, applied, no_cons, cons, no_tuple, tuple, either, whole, ReadsList, ReadsFields}
use Rattle.ml_parse_patterns.specs.Readings.{IsNode, IsFound, IsAnnotation, NoAnnotation, IsLonger, AreFields, HasOthers, HasNames}

-- a node that was made is what the relation says
pub made : {text : List ℕ} {level : Level} {ts us r : List Token} {kind : PatKind} {d : ℕ} {f : Found} → IsNode ts r kind d f → r ≡ us → Reads text level ts (node ts us kind) d us → Reads text level ts f.pat f.depth r
made {text = text} {level = level} {ts = ts} {us = us} {r = r} {kind = kind} {d = d} {f = f} n e h =
    let here : Reads text level ts (node ts r kind) d r = subst (λ (x : List Token). Reads text level ts (node ts x kind) d x) (sym e) h in
    subst (λ (m : ℕ). Reads text level ts f.pat m r) (sym n.depth_is) (subst (λ (p : Pat). Reads text level ts p d r) (sym n.tree) here)

pub by_its_lead : {text : List ℕ} {l : Lead} {ts r : List Token} {p : Pat} {d : ℕ} → lead ts ≡ l → ReadsSimple text l ts p d r → Reads text Simple ts p d r
by_its_lead {text = text} {ts = ts} {r = r} {p = p} {d = d} e a = simple (subst (λ (m : Lead). ReadsSimple text m ts p d r) (sym e) a)

pub leaf_found : (text : List ℕ) (l : Leaf) (n : ℕ) (ts r : List Token) (f : Found) → lead ts ≡ Whole l n → r ≡ drop n ts → IsNode ts r (leaf_kind l) 1 f → IsFound text Simple 1 ts r f
leaf_found text l n ts r f e h m = record { reads = made m h (by_its_lead e leaf); small = omega (arith, m.depth_is) }

pub wider : {text : List ℕ} {level : Level} {m n : ℕ} {ts r : List Token} {f : Found} → m ≤ n → IsFound text level m ts r f → IsFound text level n ts r f
wider le h = record { reads = h.reads; small = (let s = h.small in omega arith) }

pub paren_found : (text : List ℕ) (n : ℕ) (ts hs us r : List Token) (p f : Found) → lead ts ≡ Paren → hs ≡ drop 1 ts → IsFound text Pattern n hs us p → front us ≡ Front.CloseParen → r ≡ drop 1 us → IsNode ts r (Kind.Paren p.pat) (p.depth + 1) f → IsFound text Simple (n + 1) ts r f
paren_found text n ts hs us r p f e h b c g m =
    let inner : Reads text Pattern (drop 1 ts) p.pat p.depth us = subst (λ (x : List Token). Reads text Pattern x p.pat p.depth us) h b.reads in
    record { reads = made m g (by_its_lead e (paren inner c)); small = (let s = b.small in let o = m.depth_is in omega arith) }

pub typed_found : (text : List ℕ) (n : ℕ) (tokens ts hs us r : List Token) (p f : Found) (a : Annotation) → lead ts ≡ Paren → hs ≡ drop 1 ts → IsFound text Pattern n hs us p → front us ≡ Front.Colon → IsAnnotation tokens us r a → IsNode ts r (Kind.Typed p.pat a.ty) (p.depth + 1) f → IsFound text Simple (n + 1) ts r f
typed_found text n tokens ts hs us r p f a e h b c t m =
    let inner : Reads text Pattern (drop 1 ts) p.pat p.depth us = subst (λ (x : List Token). Reads text Pattern x p.pat p.depth us) h b.reads in
    record { reads = made m t.rest_is (by_its_lead e (typed inner c t.reads t.closes)); small = (let s = b.small in let o = m.depth_is in omega arith) }

pub elements_found : (text : List ℕ) (n : ℕ) (ts hs r : List Token) (l : FoundList) (f : Found) → lead ts ≡ Bracket → hs ≡ drop 1 ts → IsLonger text Elements n hs r [] 0 l → IsNode ts r (Kind.List l.list) (l.depth + 1) f → IsFound text Simple (n + 1) ts r f
elements_found text n ts hs r l f e h b m =
    let depth : b.deepest ≡ l.depth = (let o = b.depth_is in omega arith) in
    let moved : ReadsList text Elements (drop 1 ts) b.more b.deepest r = subst (λ (x : List Token). ReadsList text Elements x b.more b.deepest r) h b.reads in
    let list : ReadsList text Elements (drop 1 ts) l.list l.depth r =
    subst (λ (d : ℕ). ReadsList text Elements (drop 1 ts) l.list d r) depth (subst (λ (ps : List Pat). ReadsList text Elements (drop 1 ts) ps b.deepest r) (sym b.list_is) moved) in
    record { reads = made m refl (by_its_lead e (bracket list)); small = (let s = b.small in let o = m.depth_is in omega arith) }

pub record_found : (text : List ℕ) (n : ℕ) (ts hs r : List Token) (l : FoundFields) (f : Found) → lead ts ≡ Brace → hs ≡ drop 1 ts → AreFields text n hs r l → IsNode ts r (Kind.Fields l.list l.more) (l.depth + 1) f → IsFound text Simple (n + 1) ts r f
record_found text n ts hs r l f e h b m =
    let fields : ReadsFields text (drop 1 ts) l.list l.more l.depth r = subst (λ (x : List Token). ReadsFields text x l.list l.more l.depth r) h b.reads in
    record { reads = made m refl (by_its_lead e (brace fields)); small = (let s = b.small in let o = m.depth_is in omega arith) }

pub bare_found : (text : List ℕ) (n : ℕ) (ts r : List Token) (f : Found) → applies ts ≡ false → IsFound text Simple n ts r f → IsFound text Operand n ts r f
bare_found text n ts r f e b = record { reads = bare e b.reads; small = b.small }

pub applied_found : (text : List ℕ) (n : ℕ) (ts hs r : List Token) (p f : Found) → applies ts ≡ true → hs ≡ drop 1 ts → IsFound text Simple n hs r p → IsNode ts r (Kind.Con (Named (first_span ts)) (Some p.pat)) (p.depth + 1) f → IsFound text Operand (n + 1) ts r f
applied_found text n ts hs r p f e h b m =
    let inner : Reads text Simple (drop 1 ts) p.pat p.depth r = subst (λ (x : List Token). Reads text Simple x p.pat p.depth r) h b.reads in
    record { reads = made m refl (applied e inner); small = (let s = b.small in let o = m.depth_is in omega arith) }

pub no_cons_found : (text : List ℕ) (n : ℕ) (ts r : List Token) (f : Found) → IsFound text Operand n ts r f → front r ≢ Front.ColonColon → IsFound text Cons n ts r f
no_cons_found text n ts r f b m = record { reads = no_cons b.reads m; small = b.small }

pub cons_found : (text : List ℕ) (n k : ℕ) (ts us hs r : List Token) (p q f : Found) → IsFound text Operand k ts us p → front us ≡ Front.ColonColon → p.depth ≤ n → hs ≡ drop 1 us → IsFound text Cons n hs r q → IsNode ts r (Kind.Cons p.pat q.pat) (max p.depth q.depth + 1) f → IsFound text Cons (n + 1) ts r f
cons_found text n k ts us hs r p q f b e le h c m =
    let rest : Reads text Cons (drop 1 us) q.pat q.depth r = subst (λ (x : List Token). Reads text Cons x q.pat q.depth r) h c.reads in
    record { reads = made m refl (cons b.reads e rest); small = (let s = c.small in let o = m.depth_is in omega arith) }

pub no_tuple_found : (text : List ℕ) (n : ℕ) (ts r : List Token) (f : Found) → IsFound text Cons n ts r f → front r ≢ Front.Comma → IsFound text Tuple n ts r f
no_tuple_found text n ts r f b m = record { reads = no_tuple b.reads m; small = b.small }

pub tuple_found : (text : List ℕ) (n k : ℕ) (ts us hs r : List Token) (p f : Found) (l : FoundList) → IsFound text Cons k ts us p → front us ≡ Front.Comma → hs ≡ drop 1 us → IsLonger text Components n hs r (p.pat ∷ []) p.depth l → IsNode ts r (Kind.Tuple l.list) (l.depth + 1) f → IsFound text Tuple (n + 1) ts r f
tuple_found text n k ts us hs r p f l b e h c m =
    let list : ReadsList text Components (drop 1 us) c.more c.deepest r = subst (λ (x : List Token). ReadsList text Components x c.more c.deepest r) h c.reads in
    let here : IsNode ts r (Kind.Tuple (p.pat ∷ c.more)) (max p.depth c.deepest + 1) f =
    record { tree = m.tree ∙ ap (λ (ps : List Pat). node ts r (Kind.Tuple ps)) c.list_is; depth_is = m.depth_is ∙ ap (λ d. d + 1) c.depth_is } in
    record { reads = made here refl (tuple b.reads e list); small = (let s = c.small in let o = m.depth_is in omega arith) }

pub pattern_found : (text : List ℕ) (n k : ℕ) (ts us vs r : List Token) (p q f : Found) → IsFound text Tuple k ts us p → HasOthers text n ts us vs p q → HasNames n ts vs r q f → IsFound text Pattern n ts r f
pattern_found text n k ts us vs r p q f b c d = record { reads = whole (either b.reads c.reads) d.reads; small = d.small }

pub or_found : (text : List ℕ) (n k : ℕ) (ts us vs : List Token) (p q : Found) → IsFound text Tuple k ts us p → HasOthers text n ts us vs p q → Reads text Or ts q.pat q.depth vs
or_found text n k ts us vs p q b c = either b.reads c.reads

pub text_found : (text : List ℕ) (tokens : List Token) (at : ℕ) (t : Token) (bytes : List ℕ) (r : List Token) (f : Found) → lead (drop at tokens) ≡ Quoted → slice_get tokens at ≡ Some t → IsLiteral text t bytes → r ≡ drop 1 (drop at tokens) → IsNode (drop at tokens) r (Kind.Text (record { bytes = bytes })) 1 f → IsFound text Simple 1 (drop at tokens) r f
text_found text tokens at t bytes r f e g l h m =
    record { reads = made m h (by_its_lead e (quoted (first_from at tokens ∙ g) l)); small = omega (arith, m.depth_is) }

-- a type behind a pattern
pub no_type_behind : (ts hs : List Token) → hs ≡ drop 1 ts → IsNone (ReadsType Factors) hs → NoAnnotation ts
no_type_behind ts hs h n =
    let none : IsNone (ReadsType Factors) (drop 1 ts) = subst (λ (x : List Token). IsNone (ReadsType Factors) x) h n in
    record { none = λ t us a f. none.none (got t us) a }

pub type_open : (ts hs us : List Token) (t : TyExpr) → hs ≡ drop 1 ts → ReadsType Factors hs (got t us) → front us ≢ Front.CloseParen → NoAnnotation ts
type_open ts hs us t h a m =
    let here : ReadsType Factors (drop 1 ts) (got t us) = subst (λ (x : List Token). ReadsType Factors x (got t us)) h a in
    record { none = λ u vs b f. m (ap front (ap (λ (o : Got TyExpr). o.rest) (same_type here b)) ∙ f) }
