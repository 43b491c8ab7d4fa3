-- What declarations say: types as trees, with the words that stand before them.
use Rattle.std.specs.Prelude.{ℕ, List, [], ◌∷◌, map, length, Option, Some, None}
use Rattle.oxml_base.specs.declared.span.Span.{Span}
use Rattle.ml_tree.specs.declared.words.Words.{Words}
use Rattle.ml_tree.specs.declared.pattern.ConName.{ConName}
use Rattle.ml_tree.specs.declared.pattern.ConName.TheVariants as n
use Rattle.ml_tree.specs.declared.types.TyExpr.{TyExpr, fold-TyExpr}
use Rattle.ml_tree.specs.declared.types.TyKind.{TyKind, fold-TyKind}
use Rattle.ml_tree.specs.declared.types.TyKind.TheOpen as t
use Rattle.ml_tree.specs.declared.types.TyKind.TheOpen.{TyKind-F, Arg-F, TyExpr-F}
use Rattle.ml_tree.specs.declared.types.Arg.{Arg, fold-Arg}
use Rattle.ml_tree.specs.declared.types.ConDecl.{ConDecl}
use Rattle.ml_tree.specs.declared.types.FieldDecl.{FieldDecl}
use Rattle.ml_tree.specs.declared.types.Decl.{Decl}
use Rattle.ml_tree.specs.declared.types.DeclBody.{DeclBody}
use Rattle.ml_tree.specs.declared.types.DeclBody.TheVariants as b
use Rattle.ml_tree.specs.declared.reference.TyRef.{TyRef}
use Rattle.ml_tree.specs.declared.reference.TyRef.TheVariants as r
use Rattle.ml_types.specs.Types.{ConHead, TupleHead, ArrowHead, Tree, Leaf, Node, Trees, Nil, Cons}
use Rattle.ml_decls.specs.Lists.{find}

-- ---- the type that a type expression writes; names of abbreviations stay as they are

abbrev pub listed : List Tree → Trees
listed [] = Nil
listed (one ∷ others) = Cons one (listed others)

abbrev pub type_named : List Tree → Option TyRef → Tree
type_named args None = Node (TupleHead 0) Nil
type_named args (Some (r.Decl d)) = Node (ConHead d (length args)) (listed args)
type_named args (Some (r.Var v)) = Leaf v

-- a variable stands for no declaration: one that names none of the variables has no type of its own
abbrev pub variable_type : Option TyRef → Tree
variable_type (Some (r.Var v)) = Leaf v
variable_type _ = Node (TupleHead 0) Nil

module _ (types : List (ℕ × TyRef)) where
  abbrev pub step : TyKind-F (ℕ → Tree) Tree Tree → ℕ → Tree
  step (t.Var name) id = variable_type (find types id)
  step (t.Con name args) id = type_named args (find types id)
  step (t.Tuple parts) id = Node (TupleHead (length parts)) (listed parts)
  step (t.Arrow from to) id = Node ArrowHead (Cons from (Cons to Nil))

  abbrev pub arg_step : Arg-F (ℕ → Tree) Tree Tree → Tree
  arg_step a = a.ty

  abbrev pub node : TyExpr-F (ℕ → Tree) Tree Tree → Tree
  node x = x.kind x.id

  abbrev pub written : TyExpr → Tree
  written x = fold-TyExpr (ℕ → Tree) Tree Tree step arg_step node x

  abbrev pub kind_written : TyKind → ℕ → Tree
  kind_written x = fold-TyKind (ℕ → Tree) Tree Tree step arg_step node x

  abbrev pub arg_written : Arg → Tree
  arg_written x = fold-Arg (ℕ → Tree) Tree Tree step arg_step node x

-- ---- declarations

pub record SaidArg : Type 0 where
  pub words : Words
  pub ty : Tree

pub record SaidCon : Type 0 where
  pub name : ConName
  pub args : List SaidArg

pub record SaidField : Type 0 where
  pub name : Span
  pub arg : SaidArg

pub record Said : Type 0 where
  pub name : Span
  pub vars : ℕ
  pub cons : List SaidCon
  pub fields : List SaidField
  pub alias : Option Tree

module _ (types : List (ℕ × TyRef)) where
  abbrev pub said_arg : Arg → SaidArg
  said_arg a = record { words = a.words; ty = arg_written types a }

  abbrev pub said_con : ConDecl → SaidCon
  said_con c = record { name = n.Named c.name; args = map said_arg c.args }

  abbrev pub said_field : FieldDecl → SaidField
  said_field f = record { name = f.name; arg = said_arg f.arg }

  abbrev pub body_cons : DeclBody → List SaidCon
  body_cons (b.Variant cs) = map said_con cs
  body_cons (b.Fields fs) = []
  body_cons (b.Alias ty) = []

  abbrev pub body_fields : DeclBody → List SaidField
  body_fields (b.Variant cs) = []
  body_fields (b.Fields fs) = map said_field fs
  body_fields (b.Alias ty) = []

  abbrev pub body_alias : DeclBody → Option Tree
  body_alias (b.Variant cs) = None
  body_alias (b.Fields fs) = None
  body_alias (b.Alias ty) = Some (written types ty)

  abbrev pub said : Decl → Said
  said d = record { name = d.name; vars = length d.vars; cons = body_cons d.body; fields = body_fields d.body; alias = body_alias d.body }

-- ---- what is predefined; its names stand nowhere

abbrev pub nowhere : Span
nowhere = record { start = 0; end = 0 }

abbrev pub no_words : Words
no_words = record { loc = None; uni = None; aff = None }

abbrev pub plain : Tree → SaidArg
plain ty = record { words = no_words; ty = ty }

abbrev pub con : ConName → List SaidArg → SaidCon
con name args = record { name = name; args = args }

abbrev pub variant : ℕ → List SaidCon → Said
variant vars cons = record { name = nowhere; vars = vars; cons = cons; fields = []; alias = None }

abbrev pub list_of : Tree → Tree
list_of element = Node (ConHead 5 1) (Cons element Nil)

-- int, char and string; bool; unit; list, whose second constructor is `::`; option
abbrev pub predefined : List Said
predefined =
    variant 0 [] ∷ variant 0 [] ∷ variant 0 [] ∷
    variant 0 (con n.False [] ∷ con n.True [] ∷ []) ∷
    variant 0 (con n.Unit [] ∷ []) ∷
    variant 1 (con n.Nil [] ∷ con (n.Named nowhere) (plain (Leaf 0) ∷ plain (list_of (Leaf 0)) ∷ []) ∷ []) ∷
    variant 1 (con (n.Named nowhere) [] ∷ con (n.Named nowhere) (plain (Leaf 0) ∷ []) ∷ []) ∷ []
