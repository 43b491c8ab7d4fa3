-- What a type expression names: its declaration, or a type variable.
use Rattle.std.specs.Prelude.{ℕ, Option, Some, None}
use Rattle.oxml_base.specs.declared.span.Span.{Span}
use Rattle.oxml_base.specs.declared.rule.Rule.TheVariants.{UnboundType}
use Rattle.ml_tree.specs.declared.types.TyExpr.{TyExpr, fold-TyExpr}
use Rattle.ml_tree.specs.declared.types.TyKind.{TyKind, fold-TyKind}
use Rattle.ml_tree.specs.declared.types.Arg.{Arg, fold-Arg}
use Rattle.ml_tree.specs.declared.types.TyKind.TheOpen as t
use Rattle.ml_tree.specs.declared.types.TyKind.TheOpen.{TyKind-F, Arg-F, TyExpr-F}
use Rattle.ml_scope.specs.declared.meaning.Meaning.{Meaning}
use Rattle.ml_scope.specs.declared.found.Found.TheVariants.{NamesType, Variable}
use Rattle.ml_scope.specs.Names.{Known, find, spelling}
use Rattle.ml_scope.specs.Journal.{Journal, add, offence, each}

-- a name of a type points to its declaration
abbrev pub type_meant : ℕ → Span → Option Meaning → Journal → Journal
type_meant id place None js = offence UnboundType place js
type_meant id place (Some m) js = add js (NamesType id m.declaration)

module _ (k : Known) where
  abbrev pub type_named : ℕ → Span → Journal → Journal
  type_named id name js = type_meant id name (find k.types (spelling k.text name)) js

  abbrev pub type_step : TyKind-F (ℕ → Journal → Journal) (Journal → Journal) (Journal → Journal) → ℕ → Journal → Journal
  type_step (t.Var name) id js = add js (Variable id name)
  type_step (t.Con name args) id js = each args (type_named id name js)
  type_step (t.Tuple parts) id js = each parts js
  type_step (t.Arrow from to) id js = to (from js)

  abbrev pub arg_step : Arg-F (ℕ → Journal → Journal) (Journal → Journal) (Journal → Journal) → Journal → Journal
  arg_step a js = a.ty js

  abbrev pub type_node : TyExpr-F (ℕ → Journal → Journal) (Journal → Journal) (Journal → Journal) → Journal → Journal
  type_node x js = x.kind x.id js

  -- what a type expression adds to the journal
  abbrev pub type_look : TyExpr → Journal → Journal
  type_look x = fold-TyExpr (ℕ → Journal → Journal) (Journal → Journal) (Journal → Journal) type_step arg_step type_node x

  abbrev pub type_kind_look : TyKind → ℕ → Journal → Journal
  type_kind_look x = fold-TyKind (ℕ → Journal → Journal) (Journal → Journal) (Journal → Journal) type_step arg_step type_node x

  abbrev pub arg_look : Arg → Journal → Journal
  arg_look x = fold-Arg (ℕ → Journal → Journal) (Journal → Journal) (Journal → Journal) type_step arg_step type_node x
