-- Names in scope and what they stand for.
use Rattle.std.specs.Prelude.{ℕ, List, [], ◌∷◌, Option, Some, None, if◌then◌else◌, take, drop, ◌-◌}
use Rattle.std.specs.Str.{bytes_eq}
use Rattle.oxml_base.specs.declared.span.Span.{Span}
use Rattle.ml_scope.specs.declared.meaning.Meaning.{Meaning}

-- a name is its bytes
abbrev pub Name : Type 0
Name = List ℕ

-- the binders in scope, the nearest first
abbrev pub Env : Type 0
Env = List (Name × Meaning)

-- what the nearest binder of a name stands for
abbrev pub find : Env → Name → Option Meaning
find [] name = None
find (b ∷ bs) name = if bytes_eq name b.0 then Some b.1 else find bs name

-- the bytes of a text at a place
abbrev pub spelling : List ℕ → Span → Name
spelling text place = take (place.end - place.start) (drop place.start text)

-- the text of a program, and the constructors, fields and types that are declared
pub record Known : Type 0 where
  pub text : List ℕ
  pub constructors : Env
  pub fields : Env
  pub types : Env
