-- What the readers answer: what stands at the front of the tokens, or that nothing does.
use Rattle.std.specs.Prelude.{ℕ, ◌≤◌, ◌<◌, List}
use Rattle.ml_lexer.specs.declared.token.Token.{Token}
use Rattle.ml_tree.specs.declared.types.TyExpr.{TyExpr}
use Rattle.ml_cursor.specs.Fronts.{front}
use Rattle.ml_parse_types.specs.declared.looks.Row.{Row}
use Rattle.ml_parse_types.specs.Looks.{type_start, no_words}
use Rattle.ml_parse_types.specs.Types.{Got, Read, read, AtomBy, an_arg, ReadsSide}

-- this can be read, and is no deeper than allowed
pub record IsFound {A : Type 0} (Reads : Read A → Type 0) (left : ℕ) (o : Read A) : Type 0 where
  pub reads : Reads o
  pub small : o.depth ≤ left

-- whatever can be read is deeper than allowed
pub record IsDeep {A : Type 0} (Reads : Read A → Type 0) (left : ℕ) : Type 0 where
  pub deep : (o : Read A) → Reads o → left < o.depth

-- nothing can be read
pub record IsNone {A : Type 0} (Reads : List Token → Got A → Type 0) (ts : List Token) : Type 0 where
  pub none : (o : Got A) → Reads ts o → ⊥

abbrev pub ReadsAtom : List Token → Read TyExpr → Type 0
ReadsAtom ts o = AtomBy (type_start (front ts)) ts o

-- a side without words of its own
abbrev pub ReadsWhole : Row → List Token → Read TyExpr → Type 0
ReadsWhole row ts o = ReadsSide row ts (read (an_arg no_words o.value) o.depth o.rest)
