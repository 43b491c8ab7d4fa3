-- The patterns and parameters of the grammar (OCaml manual, patterns): each relation says that the
-- longest such part at the front of some tokens is this tree, of this depth, and which tokens follow.
use Rattle.std.specs.Prelude.{◌≡◌, ◌≢◌, ℕ, ◌+◌, max, Bool, true, false, List, [], ◌∷◌, drop, slice_get, Some}
use Rattle.ml_lexer.specs.declared.token.Token.{Token}
use Rattle.ml_lexer.specs.Tokens.{IsLiteral}
use Rattle.ml_tree.specs.declared.pattern.ConName.TheVariants.{Named}
use Rattle.ml_tree.specs.declared.pattern.Pat.{Pat}
use Rattle.ml_tree.specs.declared.pattern.FieldPat.{FieldPat}
use Rattle.ml_tree.specs.declared.pattern.Param.{Param}
use Rattle.ml_tree.specs.declared.pattern.PatKind.TheVariants as Kind
use Rattle.ml_tree.specs.declared.types.TyExpr.{TyExpr}
use Rattle.ml_tree.specs.declared.words.Words.{Words}
use Rattle.ml_cursor.specs.declared.front.Front.TheVariants as Front
use Rattle.ml_cursor.specs.Fronts.{front}
use Rattle.ml_cursor.specs.Places.{first_span}
use Rattle.ml_parse_types.specs.declared.looks.Row.TheVariants.{Factors}
use Rattle.ml_parse_types.specs.Types.{got, ReadsType, ReadsWords}
use Rattle.ml_parse_types.specs.Looks.{no_words}
use Rattle.ml_parse_patterns.specs.declared.looks.Leaf.{Leaf}
use Rattle.ml_parse_patterns.specs.declared.looks.Leaf.TheVariants.{Bound}
use Rattle.ml_parse_patterns.specs.declared.looks.Lead.{Lead}
use Rattle.ml_parse_patterns.specs.declared.looks.Lead.TheVariants.{Whole, Name, Quoted, Paren, Bracket, Brace}
use Rattle.ml_parse_patterns.specs.declared.looks.Level.{Level}
use Rattle.ml_parse_patterns.specs.declared.looks.Level.TheVariants.{Simple, Operand, Cons, Tuple, Or, Pattern}
use Rattle.ml_parse_patterns.specs.declared.looks.Listing.{Listing}
use Rattle.ml_parse_patterns.specs.declared.looks.Listing.TheVariants.{Components, Elements}
use Rattle.ml_parse_patterns.specs.declared.looks.After.TheVariants.{Goes, Stops}
use Rattle.ml_parse_patterns.specs.declared.looks.AfterField.TheVariants.{Next, Ends}
use Rattle.ml_parse_patterns.specs.declared.looks.ParamLead.{ParamLead}
use Rattle.ml_parse_patterns.specs.declared.looks.ParamLead.TheVariants.{Short, Parens}
use Rattle.ml_parse_patterns.specs.Looks.{node, leaf_kind, lead, applies, after, after_field, param_lead, is_param}

-- the level of what a list holds
abbrev pub level_of : Listing → Level
level_of Components = Cons
level_of Elements = Pattern

-- the names that `as` gives a pattern which begins where the first list does: as many as stand there
pub data ReadsNames (start : List Token) : Pat → ℕ → List Token → Pat → ℕ → List Token → Type 0 where
  no_name : {p : Pat} {d : ℕ} {us : List Token} → front us ≢ Front.As → ReadsNames start p d us p d us
  one_name : {p q : Pat} {d e : ℕ} {us r : List Token} →
      front us ≡ Front.As → front (drop 1 us) ≡ Front.Lower →
      ReadsNames start (node start (drop 2 us) (Kind.Named p (first_span (drop 1 us)))) (d + 1) (drop 2 us) q e r →
      ReadsNames start p d us q e r

mutual
  -- a simple pattern, by what it begins with
  pub data ReadsSimple (text : List ℕ) : Lead → List Token → Pat → ℕ → List Token → Type 0 where
    leaf : {l : Leaf} {n : ℕ} {ts : List Token} →
        ReadsSimple text (Whole l n) ts (node ts (drop n ts) (leaf_kind l)) 1 (drop n ts)
    name : {w : Words} {ts us : List Token} →
        ReadsWords ts (got w us) → front us ≡ Front.Lower →
        ReadsSimple text Name ts (node ts (drop 1 us) (Kind.Name w (first_span us))) 1 (drop 1 us)
    quoted : {t : Token} {bytes : List ℕ} {ts : List Token} →
        slice_get ts 0 ≡ Some t → IsLiteral text t bytes →
        ReadsSimple text Quoted ts (node ts (drop 1 ts) (Kind.Text (record { bytes = bytes }))) 1 (drop 1 ts)
    paren : {p : Pat} {d : ℕ} {ts us : List Token} →
        Reads text Pattern (drop 1 ts) p d us → front us ≡ Front.CloseParen →
        ReadsSimple text Paren ts (node ts (drop 1 us) (Kind.Paren p)) (d + 1) (drop 1 us)
    typed : {p : Pat} {t : TyExpr} {d : ℕ} {ts us vs : List Token} →
        Reads text Pattern (drop 1 ts) p d us → front us ≡ Front.Colon →
        ReadsType Factors (drop 1 us) (got t vs) → front vs ≡ Front.CloseParen →
        ReadsSimple text Paren ts (node ts (drop 1 vs) (Kind.Typed p t)) (d + 1) (drop 1 vs)
    bracket : {ps : List Pat} {d : ℕ} {ts us : List Token} →
        ReadsList text Elements (drop 1 ts) ps d us →
        ReadsSimple text Bracket ts (node ts us (Kind.List ps)) (d + 1) us
    brace : {fs : List FieldPat} {more : Bool} {d : ℕ} {ts us : List Token} →
        ReadsFields text (drop 1 ts) fs more d us →
        ReadsSimple text Brace ts (node ts us (Kind.Fields fs more)) (d + 1) us

  -- a pattern of a level
  pub data Reads (text : List ℕ) : Level → List Token → Pat → ℕ → List Token → Type 0 where
    simple : {p : Pat} {d : ℕ} {ts us : List Token} →
        ReadsSimple text (lead ts) ts p d us → Reads text Simple ts p d us
    bare : {p : Pat} {d : ℕ} {ts us : List Token} →
        applies ts ≡ false → Reads text Simple ts p d us → Reads text Operand ts p d us
    applied : {p : Pat} {d : ℕ} {ts us : List Token} →
        applies ts ≡ true → Reads text Simple (drop 1 ts) p d us →
        Reads text Operand ts (node ts us (Kind.Con (Named (first_span ts)) (Some p))) (d + 1) us
    no_cons : {p : Pat} {d : ℕ} {ts us : List Token} →
        Reads text Operand ts p d us → front us ≢ Front.ColonColon → Reads text Cons ts p d us
    cons : {p q : Pat} {d e : ℕ} {ts us r : List Token} →
        Reads text Operand ts p d us → front us ≡ Front.ColonColon → Reads text Cons (drop 1 us) q e r →
        Reads text Cons ts (node ts r (Kind.Cons p q)) (max d e + 1) r
    no_tuple : {p : Pat} {d : ℕ} {ts us : List Token} →
        Reads text Cons ts p d us → front us ≢ Front.Comma → Reads text Tuple ts p d us
    tuple : {p : Pat} {qs : List Pat} {d e : ℕ} {ts us r : List Token} →
        Reads text Cons ts p d us → front us ≡ Front.Comma → ReadsList text Components (drop 1 us) qs e r →
        Reads text Tuple ts (node ts r (Kind.Tuple (p ∷ qs))) (max d e + 1) r
    either : {p q : Pat} {d e : ℕ} {ts us r : List Token} →
        Reads text Tuple ts p d us → ReadsOthers text ts p d us q e r → Reads text Or ts q e r
    whole : {p q : Pat} {d e : ℕ} {ts us r : List Token} →
        Reads text Or ts p d us → ReadsNames ts p d us q e r → Reads text Pattern ts q e r

  -- the other alternatives behind those that begin where the first list does
  pub data ReadsOthers (text : List ℕ) : List Token → Pat → ℕ → List Token → Pat → ℕ → List Token → Type 0 where
    no_other : {p : Pat} {d : ℕ} {start us : List Token} →
        front us ≢ Front.Bar → ReadsOthers text start p d us p d us
    one_other : {p q o : Pat} {d e f : ℕ} {start us vs r : List Token} →
        front us ≡ Front.Bar → Reads text Tuple (drop 1 us) q e vs →
        ReadsOthers text start (node start vs (Kind.Or p q)) (max d e + 1) vs o f r →
        ReadsOthers text start p d us o f r

  -- a list of at least one pattern; the depth is the greatest of its patterns
  pub data ReadsList (text : List ℕ) : Listing → List Token → List Pat → ℕ → List Token → Type 0 where
    last_one : {k : Listing} {p : Pat} {d n : ℕ} {ts us : List Token} →
        Reads text (level_of k) ts p d us → after k us ≡ Stops n → ReadsList text k ts (p ∷ []) d (drop n us)
    one_more : {k : Listing} {p : Pat} {ps : List Pat} {d e n : ℕ} {ts us r : List Token} →
        Reads text (level_of k) ts p d us → after k us ≡ Goes n → ReadsList text k (drop n us) ps e r →
        ReadsList text k ts (p ∷ ps) (max d e) r

  -- a field of a record pattern; a name alone is bound too
  pub data ReadsField (text : List ℕ) : List Token → FieldPat → ℕ → List Token → Type 0 where
    pun : {ts : List Token} → front ts ≡ Front.Lower → front (drop 1 ts) ≢ Front.Equal →
        ReadsField text ts (record { id = 0; name = first_span ts; pat = node ts (drop 1 ts) (leaf_kind (Bound (first_span ts))) }) 1 (drop 1 ts)
    field : {p : Pat} {d : ℕ} {ts us : List Token} →
        front ts ≡ Front.Lower → front (drop 1 ts) ≡ Front.Equal → Reads text Pattern (drop 2 ts) p d us →
        ReadsField text ts (record { id = 0; name = first_span ts; pat = p }) d us

  -- the fields up to the closing brace, and whether `_` is their last part
  pub data ReadsFields (text : List ℕ) : List Token → List FieldPat → Bool → ℕ → List Token → Type 0 where
    last_field : {f : FieldPat} {more : Bool} {d n : ℕ} {ts us : List Token} →
        ReadsField text ts f d us → after_field us ≡ Ends more n →
        ReadsFields text ts (f ∷ []) more d (drop n us)
    next_field : {f : FieldPat} {fs : List FieldPat} {more : Bool} {d e : ℕ} {ts us r : List Token} →
        ReadsField text ts f d us → after_field us ≡ Next → ReadsFields text (drop 1 us) fs more e r →
        ReadsFields text ts (f ∷ fs) more (max d e) r

-- a parameter, by what it begins with
pub data ReadsParamBy (text : List ℕ) : ParamLead → List Token → Param → ℕ → List Token → Type 0 where
  short : {l : Leaf} {n : ℕ} {ts : List Token} →
      ReadsParamBy text (Short l n) ts (record { words = no_words; pat = node ts (drop n ts) (leaf_kind l) }) 1 (drop n ts)
  parens : {w : Words} {p : Pat} {d : ℕ} {ts us vs : List Token} →
      ReadsWords (drop 1 ts) (got w us) → Reads text Pattern us p d vs → front vs ≡ Front.CloseParen →
      ReadsParamBy text Parens ts (record { words = w; pat = p }) d (drop 1 vs)
  annotated : {w : Words} {p : Pat} {t : TyExpr} {d : ℕ} {ts us vs xs : List Token} →
      ReadsWords (drop 1 ts) (got w us) → Reads text Pattern us p d vs → front vs ≡ Front.Colon →
      ReadsType Factors (drop 1 vs) (got t xs) → front xs ≡ Front.CloseParen →
      ReadsParamBy text Parens ts (record { words = w; pat = node us xs (Kind.Typed p t) }) (d + 1) (drop 1 xs)

abbrev pub ReadsParam : List ℕ → List Token → Param → ℕ → List Token → Type 0
ReadsParam text ts p d r = ReadsParamBy text (param_lead ts) ts p d r

-- at least one parameter, and as many as stand there; the depth is the greatest of their patterns
pub data ReadsParams (text : List ℕ) : List Token → List Param → ℕ → List Token → Type 0 where
  last_param : {p : Param} {d : ℕ} {ts us : List Token} →
      ReadsParam text ts p d us → is_param (param_lead us) ≡ false → ReadsParams text ts (p ∷ []) d us
  next_param : {p : Param} {ps : List Param} {d e : ℕ} {ts us r : List Token} →
      ReadsParam text ts p d us → is_param (param_lead us) ≡ true → ReadsParams text us ps e r →
      ReadsParams text ts (p ∷ ps) (max d e) r
