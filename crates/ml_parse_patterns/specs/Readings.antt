-- What the answers of the readers mean: a part of at most a depth, or that each reading is deeper.
use Rattle.std.specs.Prelude.{◌≡◌, ℕ, ◌+◌, ◌<◌, ◌≤◌, max, Bool, List, ◌++◌, drop}
use Rattle.ml_lexer.specs.declared.token.Token.{Token}
use Rattle.ml_tree.specs.declared.pattern.Pat.{Pat}
use Rattle.ml_tree.specs.declared.pattern.FieldPat.{FieldPat}
use Rattle.ml_tree.specs.declared.pattern.Param.{Param}
use Rattle.ml_parse_patterns.specs.declared.looks.Level.{Level}
use Rattle.ml_parse_patterns.specs.declared.looks.Level.TheVariants.{Simple, Tuple}
use Rattle.ml_parse_patterns.specs.declared.looks.Listing.{Listing}
use Rattle.ml_parse_patterns.specs.declared.found.Found.{Found}
use Rattle.ml_parse_patterns.specs.declared.found.FoundList.{FoundList}
use Rattle.ml_parse_patterns.specs.declared.found.FoundField.{FoundField}
use Rattle.ml_parse_patterns.specs.declared.found.FoundFields.{FoundFields}
use Rattle.ml_parse_patterns.specs.declared.found.FoundParam.{FoundParam}
use Rattle.ml_parse_patterns.specs.declared.found.FoundParams.{FoundParams}
use Rattle.ml_tree.specs.declared.pattern.PatKind.{PatKind}
use Rattle.ml_tree.specs.declared.pattern.PatKind.TheVariants as Kind
use Rattle.ml_tree.specs.declared.types.TyExpr.{TyExpr}
use Rattle.ml_cursor.specs.declared.front.Front.TheVariants.{CloseParen, Lower}
use Rattle.ml_cursor.specs.Fronts.{front}
use Rattle.ml_cursor.specs.Places.{first_span}
use Rattle.ml_parse_patterns.specs.declared.found.Annotation.{Annotation}
use Rattle.ml_parse_types.specs.declared.looks.Row.TheVariants.{Factors}
use Rattle.ml_parse_types.specs.Types.{got, ReadsType}
use Rattle.ml_parse_patterns.specs.Looks.{node}
use Rattle.ml_parse_patterns.specs.Patterns.{Reads, ReadsOthers, ReadsNames, ReadsList, ReadsField, ReadsFields, ReadsParam, ReadsParams}

-- a node of the tokens from one list on up to another, and its depth
pub record IsNode (ts rest : List Token) (kind : PatKind) (depth : ℕ) (f : Found) : Type 0 where
  pub tree : f.pat ≡ node ts rest kind
  pub depth_is : f.depth ≡ depth

-- the `:`, the type and the `)` behind a pattern
pub record IsAnnotation (tokens ts rest : List Token) (a : Annotation) : Type 0 where
  pub reads : ReadsType Factors (drop 1 ts) (got a.ty (drop a.end tokens))
  pub closes : front (drop a.end tokens) ≡ CloseParen
  pub rest_is : rest ≡ drop 1 (drop a.end tokens)

pub record NoAnnotation (ts : List Token) : Type 0 where
  pub none : (t : TyExpr) (us : List Token) → ReadsType Factors (drop 1 ts) (got t us) → front us ≡ CloseParen → ⊥

-- behind the pattern first, which begins at start, stand a type and `)`, and rest behind them
pub record HasType (tokens start here rest : List Token) (first f : Found) : Type 0 where
  pub annotation : Annotation
  pub reads : IsAnnotation tokens here rest annotation
  pub node_is : IsNode start (drop annotation.end tokens) (Kind.Typed first.pat annotation.ty) (first.depth + 1) f

-- the pattern of a level at the front of ts, before rest, of at most this depth
pub record IsFound (text : List ℕ) (level : Level) (left : ℕ) (ts rest : List Token) (f : Found) : Type 0 where
  pub reads : Reads text level ts f.pat f.depth rest
  pub small : f.depth ≤ left

-- no simple pattern stands at the front of ts
pub record IsNone (text : List ℕ) (ts : List Token) : Type 0 where
  pub none : (p : Pat) (d : ℕ) (r : List Token) → Reads text Simple ts p d r → ⊥

-- each pattern of a level at the front of ts is deeper
pub record NoTree (text : List ℕ) (level : Level) (left : ℕ) (ts : List Token) : Type 0 where
  pub deep : (p : Pat) (d : ℕ) (r : List Token) → Reads text level ts p d r → left < d

-- behind the alternatives first, which begin at start, stands one more, and rest behind it
pub record HasOther (text : List ℕ) (left : ℕ) (start here rest : List Token) (first f : Found) : Type 0 where
  pub other : Pat
  pub deepest : ℕ
  pub reads : Reads text Tuple (drop 1 here) other deepest rest
  pub tree : f.pat ≡ node start rest (Kind.Or first.pat other)
  pub depth_is : f.depth ≡ max first.depth deepest + 1
  pub small : f.depth ≤ left

-- with all the others they are f
pub record HasOthers (text : List ℕ) (left : ℕ) (start here rest : List Token) (first f : Found) : Type 0 where
  pub reads : ReadsOthers text start first.pat first.depth here f.pat f.depth rest
  pub small : f.depth ≤ left

-- with all the others they are deeper
pub record NoOthers (text : List ℕ) (left : ℕ) (start here : List Token) (first : Found) : Type 0 where
  pub deep : (p : Pat) (d : ℕ) (r : List Token) → ReadsOthers text start first.pat first.depth here p d r → left < d

-- behind the pattern first, which begins at start, stands a name with its `as`, and rest behind it
pub record HasName (left : ℕ) (start here rest : List Token) (first f : Found) : Type 0 where
  pub lower : front (drop 1 here) ≡ Lower
  pub rest_is : rest ≡ drop 2 here
  pub tree : f.pat ≡ node start rest (Kind.Named first.pat (first_span (drop 1 here)))
  pub depth_is : f.depth ≡ first.depth + 1
  pub small : f.depth ≤ left

-- with all its names it is f
pub record HasNames (left : ℕ) (start here rest : List Token) (first f : Found) : Type 0 where
  pub reads : ReadsNames start first.pat first.depth here f.pat f.depth rest
  pub small : f.depth ≤ left

-- with all its names it is deeper
pub record NoNames (left : ℕ) (start here : List Token) (first : Found) : Type 0 where
  pub deep : (p : Pat) (d : ℕ) (r : List Token) → ReadsNames start first.pat first.depth here p d r → left < d

-- a list at the front of ts, its patterns behind others of a depth
pub record IsLonger (text : List ℕ) (k : Listing) (left : ℕ) (ts rest : List Token) (before : List Pat) (depth : ℕ) (f : FoundList) : Type 0 where
  pub more : List Pat
  pub deepest : ℕ
  pub reads : ReadsList text k ts more deepest rest
  pub list_is : f.list ≡ before ++ more
  pub depth_is : f.depth ≡ max depth deepest
  pub small : f.depth ≤ left

pub record NoList (text : List ℕ) (k : Listing) (left : ℕ) (ts : List Token) : Type 0 where
  pub deep : (ps : List Pat) (d : ℕ) (r : List Token) → ReadsList text k ts ps d r → left < d

pub record IsField (text : List ℕ) (left : ℕ) (ts rest : List Token) (f : FoundField) : Type 0 where
  pub reads : ReadsField text ts f.field f.depth rest
  pub small : f.depth ≤ left

pub record NoField (text : List ℕ) (left : ℕ) (ts : List Token) : Type 0 where
  pub deep : (f : FieldPat) (d : ℕ) (r : List Token) → ReadsField text ts f d r → left < d

pub record AreFields (text : List ℕ) (left : ℕ) (ts rest : List Token) (f : FoundFields) : Type 0 where
  pub reads : ReadsFields text ts f.list f.more f.depth rest
  pub small : f.depth ≤ left

pub record NoFields (text : List ℕ) (left : ℕ) (ts : List Token) : Type 0 where
  pub deep : (fs : List FieldPat) (more : Bool) (d : ℕ) (r : List Token) → ReadsFields text ts fs more d r → left < d

-- the parameter at the front of ts, before rest, of at most this depth
pub record IsParam (text : List ℕ) (left : ℕ) (ts rest : List Token) (f : FoundParam) : Type 0 where
  pub reads : ReadsParam text ts f.param f.depth rest
  pub small : f.depth ≤ left

-- each parameter at the front of ts is deeper
pub record NoParam (text : List ℕ) (left : ℕ) (ts : List Token) : Type 0 where
  pub deep : (p : Param) (d : ℕ) (r : List Token) → ReadsParam text ts p d r → left < d

-- the parameters at the front of ts, before rest, of at most this depth
pub record AreParams (text : List ℕ) (left : ℕ) (ts rest : List Token) (f : FoundParams) : Type 0 where
  pub reads : ReadsParams text ts f.list f.depth rest
  pub small : f.depth ≤ left

-- all lists of parameters at the front of ts are deeper
pub record NoParams (text : List ℕ) (left : ℕ) (ts : List Token) : Type 0 where
  pub deep : (ps : List Param) (d : ℕ) (r : List Token) → ReadsParams text ts ps d r → left < d
