-- The terms of written types.
use Rattle.std.specs.Prelude.{ℕ, List, [], ◌∷◌, Option, Some, None}
use Rattle.ml_tree.specs.declared.reference.Ref.{Ref}
use Rattle.ml_tree.specs.declared.reference.TyRef.{TyRef}
use Rattle.ml_tree.specs.declared.reference.TyRef.TheVariants.{Decl, Var}
use Rattle.ml_tree.specs.declared.types.TyExpr.{TyExpr, fold-TyExpr}
use Rattle.ml_tree.specs.declared.types.TyKind.TheOpen as k
use Rattle.ml_tree.specs.declared.types.TyKind.TheOpen.{TyKind-F, Arg-F, TyExpr-F}
use Rattle.ml_typing.specs.declared.equation.Unknown.TheVariants.{Fresh}
use Rattle.ml_typing.specs.declared.equation.Term.{Term}
use Rattle.ml_typing.specs.declared.equation.Term.TheVariants.{Of, Con, Tuple, Function}

-- what nodes and type expressions name, and the item in which they stand
pub record Names : Type 0 where
  pub target : ℕ → Option Ref
  pub type_target : ℕ → Option TyRef
  pub item : ℕ

-- a type variable stands for some type of its item
abbrev pub written_name : Names → List Term → Option TyRef → Term
written_name names args None = Tuple []
written_name names args (Some (Decl d)) = Con d args
written_name names args (Some (Var v)) = Of (Fresh names.item v)

abbrev pub written_kind : Names → TyKind-F (ℕ → Term) Term Term → ℕ → Term
written_kind names (k.Var span) id = written_name names [] (names.type_target id)
written_kind names (k.Con name args) id = written_name names args (names.type_target id)
written_kind names (k.Tuple parts) id = Tuple parts
written_kind names (k.Arrow from to) id = Function (from ∷ []) to

abbrev pub written_arg : Arg-F (ℕ → Term) Term Term → Term
written_arg a = a.ty

abbrev pub written_whole : TyExpr-F (ℕ → Term) Term Term → Term
written_whole t = t.kind t.id

-- the term of a written type
abbrev pub written : Names → TyExpr → Term
written names t = fold-TyExpr (ℕ → Term) Term Term (written_kind names) written_arg written_whole t
