-- The names and the variables of a type expression, in the order of the source.
use Rattle.std.specs.Prelude.{ℕ, List, [], ◌∷◌, ◌++◌, length}
use Rattle.oxml_base.specs.declared.span.Span.{Span}
use Rattle.ml_tree.specs.declared.types.TyExpr.{TyExpr, fold-TyExpr}
use Rattle.ml_tree.specs.declared.types.TyKind.{TyKind, fold-TyKind}
use Rattle.ml_tree.specs.declared.types.Arg.{Arg, fold-Arg}
use Rattle.ml_tree.specs.declared.types.TyKind.TheOpen as t
use Rattle.ml_tree.specs.declared.types.TyKind.TheOpen.{TyKind-F, Arg-F, TyExpr-F}
use Rattle.ml_mentions.specs.declared.mentions.Mention.{Mention}
use Rattle.ml_mentions.specs.declared.mentions.Mention.TheVariants.{Named, Variable}
use Rattle.ml_mentions.specs.Lists.{all}

abbrev pub step : TyKind-F (ℕ → Span → List Mention) (List Mention) (List Mention) → ℕ → Span → List Mention
step (t.Var name) id whole = Variable id whole ∷ []
step (t.Con name args) id whole = Named id whole (length args) ∷ all args
step (t.Tuple parts) id whole = all parts
step (t.Arrow from to) id whole = from ++ to

abbrev pub arg_step : Arg-F (ℕ → Span → List Mention) (List Mention) (List Mention) → List Mention
arg_step a = a.ty

abbrev pub node : TyExpr-F (ℕ → Span → List Mention) (List Mention) (List Mention) → List Mention
node x = x.kind x.id x.span

abbrev pub mentions : TyExpr → List Mention
mentions x = fold-TyExpr (ℕ → Span → List Mention) (List Mention) (List Mention) step arg_step node x

abbrev pub kind_mentions : TyKind → ℕ → Span → List Mention
kind_mentions x = fold-TyKind (ℕ → Span → List Mention) (List Mention) (List Mention) step arg_step node x

abbrev pub arg_mentions : Arg → List Mention
arg_mentions x = fold-Arg (ℕ → Span → List Mention) (List Mention) (List Mention) step arg_step node x
