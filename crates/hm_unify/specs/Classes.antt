-- Classes of ends of bindings, as a forest of links.
use Rattle.std.specs.Prelude.{◌≡◌, ℕ, ◌+◌, Option, Some, None, cond, nat_eq, eqb}
use Rattle.std.specs.HashMap.{get}
use Rattle.hm_unify.specs.declared.classes.End.{End}
use Rattle.hm_unify.specs.declared.classes.End.TheVariants.{Free, Built}
use Rattle.hm_unify.specs.declared.classes.Classes.{Classes}

-- a number for each end
abbrev pub code : End → ℕ
code (Free n) = n + n
code (Built x) = x + x + 1

-- the end to which an end is linked
abbrev pub up : Classes → End → Option End
up c (Free n) = get nat_eq c.free n
up c (Built x) = get nat_eq c.built x

abbrev pub IsRoot : Classes → End → Type 0
IsRoot c e = up c e ≡ None

-- f gives each end the root of its class
pub record IsForest (c : Classes) (f : End → End) : Type 0 where
  pub root : (e : End) → up c e ≡ None → f e ≡ e
  pub linked : (e g : End) → up c e ≡ Some g → f e ≡ f g

-- an end, where one root is linked to another
abbrev pub moved : End → End → End → End
moved from to e = cond (eqb (code e) (code from)) to e

-- f after one root is linked to another
abbrev pub joined : (End → End) → End → End → End → End
joined f from to e = moved from to (f e)
