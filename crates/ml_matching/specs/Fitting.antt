-- What a match finds, as the meaning has it: the names of the pattern before those that were there.
use Rattle.std.specs.Prelude.{◌≡◌, ℕ, List, [], ◌∷◌, ◌++◌, Option, Some, None, Result, IfOk, map, ◌==◌, if◌then◌else◌}
use Rattle.std.specs.Option.{option_map}
use Rattle.ml_tree.specs.declared.pattern.Pat.{Pat, fold-Pat}
use Rattle.ml_tree.specs.declared.pattern.PatKind.{PatKind, fold-PatKind}
use Rattle.ml_tree.specs.declared.pattern.FieldPat.{FieldPat, fold-FieldPat}
use Rattle.ml_tree.specs.declared.pattern.Param.{Param}
use Rattle.ml_tree.specs.declared.expr.Bind.{Bind}
use Rattle.ml_meaning.specs.Names.{References, field_place}
use Rattle.ml_meaning.specs.Values.{Value, Block, listed}
use Rattle.ml_meaning.specs.Patterns as p
use Rattle.ml_meaning.specs.Patterns.{PatMeaning, pattern_step, field_step, pat_step}
use Rattle.ml_values.specs.declared.value.Env.{Env}
use Rattle.ml_values.specs.Shown.{names}

abbrev pub onto : p.Env → Option p.Env → Option p.Env
onto env None = None
onto env (Some xs) = Some (xs ++ env)

-- the names that were found are those of the match before these; only want of memory says nothing
abbrev pub Finds : {F : Type 0} → Result (Option Env) F → Option p.Env → p.Env → Type 0
Finds result found env = IfOk result (λ env_found. option_map names env_found ≡ onto env found)

abbrev pub param_fits : References → List Param → List p.Fits
param_fits refs params = map (λ q. p.fits refs q.pat) params

abbrev pub bind_fits : References → List Bind → List p.Fits
bind_fits refs binds = map (λ b. p.fits refs b.pat) binds

-- the same where names were found before
abbrev pub onto_found : Option p.Env → Option p.Env → Option p.Env
onto_found None found = None
onto_found (Some env) found = onto env found

-- the parts of a block of this place
abbrev pub parts_of : Option ℕ → Value → Option (List Value)
parts_of (Some place) (Block k vs) = if k == place then Some (listed vs) else None
parts_of _ _ = None

-- the one value of a list of one
abbrev pub sole : List Value → Option Value
sole (v ∷ []) = Some v
sole _ = None

-- ---- what a pattern and its parts mean, against a value and against the fields of a constructor

module _ (refs : References) where
  abbrev pub pattern_meaning : Pat → PatMeaning
  pattern_meaning q = fold-Pat (ℕ → PatMeaning) (ℕ × p.Fits) PatMeaning (pattern_step refs) (field_step refs) (pat_step refs) q

  abbrev pub kind_meaning : PatKind → ℕ → PatMeaning
  kind_meaning k node = fold-PatKind (ℕ → PatMeaning) (ℕ × p.Fits) PatMeaning (pattern_step refs) (field_step refs) (pat_step refs) k node

  abbrev pub field_meaning : FieldPat → ℕ × p.Fits
  field_meaning f = fold-FieldPat (ℕ → PatMeaning) (ℕ × p.Fits) PatMeaning (pattern_step refs) (field_step refs) (pat_step refs) f

  -- the field of a record pattern against the part of a record that it names
  abbrev pub field_fits : FieldPat → List Value → Option p.Env
  field_fits f vs = p.part_fits (field_meaning f).1 (p.found vs (field_place refs (field_meaning f).0))
