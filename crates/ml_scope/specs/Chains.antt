-- How the table of names keeps the nearest binder of each.
use Rattle.std.specs.Prelude.{◌≡◌, List, [], ◌∷◌, Option, Some, None, reverse, map}
use Rattle.std.specs.Str.{bytes_eq}
use Rattle.std.specs.Map.{lookup}
use Rattle.ml_scope.specs.declared.meaning.Meaning.{Meaning}
use Rattle.ml_scope.specs.declared.scope.Bound.{Bound}
use Rattle.ml_scope.specs.Names.{Name, Env, find}

abbrev pub shown : Bound → Name × Meaning
shown b = (b.name.items, b.meaning)

-- the binders, the nearest first
abbrev pub seen : List Bound → Env
seen bs = map shown (reverse bs)

-- each binder has what the name meant before it, among binders of which the nearest comes first
abbrev pub Hides : List Bound → Type 0
Hides [] = Unit {0}
Hides (b ∷ bs) = (b.hidden ≡ find (map shown bs) b.name.items) × Hides bs

abbrev pub joined : Option (Option Meaning) → Option Meaning
joined None = None
joined (Some meaning) = meaning

pub record IsChained (bound : List Bound) (look_up : Name → Option (Option Meaning)) : Type 0 where
  pub table : (name : Name) → joined (look_up name) ≡ find (seen bound) name
  pub hides : Hides (reverse bound)

-- what a table has for a name
abbrev pub look_up : {K : Type 0} → List (K × Option Meaning) → (K → Name) → Name → Option (Option Meaning)
look_up entries bytes name = lookup (λ key. bytes_eq name (bytes key)) entries
