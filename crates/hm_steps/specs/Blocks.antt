-- The steps and equations of one arm or one field, and the names that parts of a pattern bind.
use Rattle.std.specs.Prelude.{ℕ, List, [], ◌∷◌, ◌++◌, Option, Some, None}
use Rattle.ml_tree.specs.declared.pattern.FieldPat.{FieldPat, fold-FieldPat}
use Rattle.ml_typing.specs.declared.equation.Term.{Term}
use Rattle.ml_typing.specs.declared.equation.Equation.{Equation}
use Rattle.ml_typing.specs.declared.equation.Step.{Step}
use Rattle.ml_typing.specs.Written.{Names}
use Rattle.ml_typing.specs.Rows.{FieldPart, node_is, steps_and, steps_of, steps_of_any, declared_field}
use Rattle.ml_typing.specs.Steps.{ArmPart, guard_is, kind_binders, field_binders, whole_binders}

-- the pattern with the scrutinee's type behind its own row, the guard and the body
abbrev pub arm_steps : Term → ArmPart → List Step
arm_steps scrutinee a = (steps_and a.pat (node_is a.pat scrutinee ∷ []) ++ steps_of_any a.guard) ++ steps_of a.body

-- the guard is `bool`, and the body has the result's type
abbrev pub arm_is : Term → ArmPart → List Equation
arm_is result a = guard_is a.guard ++ node_is a.body result ∷ []

-- the nodes below a field of a record pattern that bind a name
abbrev pub binders_of_field : FieldPat → List ℕ
binders_of_field f = fold-FieldPat (ℕ → List ℕ) (List ℕ) (List ℕ) kind_binders field_binders whole_binders f

-- those of a part that may not be there
abbrev pub binders_of_any : Option (List ℕ) → List ℕ
binders_of_any None = []
binders_of_any (Some ns) = ns

-- a field of a record has its declared type
abbrev pub field_is : Names → ℕ → FieldPart → Equation
field_is names n f = node_is f.inner (declared_field n (names.target f.field))
