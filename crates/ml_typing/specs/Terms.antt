-- Types over unknowns: what the terms of equations stand for.
use Rattle.std.specs.Prelude.{ℕ, zero, suc, ◌+◌, List, [], ◌∷◌, length, Option, Some, None, slice_get, map}
use Rattle.ml_types.specs.declared.node.TyId.{TyId}
use Rattle.ml_types.specs.declared.declared.DeclInfo.{DeclInfo}
use Rattle.ml_types.specs.declared.declared.ConInfo.{ConInfo}
use Rattle.ml_types.specs.declared.declared.ArgInfo.{ArgInfo}
use Rattle.ml_types.specs.declared.declared.FieldInfo.{FieldInfo}
use Rattle.ml_types.specs.Types.{Head, ConHead, TupleHead, ArrowHead, Tree, Leaf, Node, Trees, Nil, Cons}
use Rattle.ml_tree.specs.declared.reference.Op.{Op}
use Rattle.ml_typing.specs.declared.equation.Unknown.{Unknown}
use Rattle.ml_typing.specs.declared.equation.Unknown.TheVariants.{Binder, Fresh}
use Rattle.ml_typing.specs.declared.equation.Term.{Term, fold-Term}
use Rattle.ml_typing.specs.declared.equation.Term.TheOpen as t
use Rattle.ml_typing.specs.declared.equation.Term.TheOpen.{Term-F}

-- a type over unknowns
mutual
  pub data Shape : Type 0 where
    Is : Unknown → Shape
    Make : Head → Shapes → Shape

  pub data Shapes : Type 0 where
    no_shapes : Shapes
    shape_and : Shape → Shapes → Shapes

abbrev pub shapes : List Shape → Shapes
shapes [] = no_shapes
shapes (s ∷ ss) = shape_and s (shapes ss)

-- a finite type, where f gives each of its variables
abbrev mutual
  pub with_shapes : (ℕ → Shape) → Tree → Shape
  with_shapes f (Leaf n) = f n
  with_shapes f (Node h ts) = Make h (all_with_shapes f ts)

  pub all_with_shapes : (ℕ → Shape) → Trees → Shapes
  all_with_shapes f Nil = no_shapes
  all_with_shapes f (Cons t ts) = shape_and (with_shapes f t) (all_with_shapes f ts)

-- the fresh types of a node, as many as are asked for, from the first
abbrev pub fresh_from : ℕ → ℕ → ℕ → List Shape
fresh_from node zero at = []
fresh_from node (suc count) at = Is (Fresh node at) ∷ fresh_from node count (at + 1)

abbrev pub at_fresh : ℕ → Tree → Shape
at_fresh node t = with_shapes (λ v. Is (Fresh node v)) t

-- what terms are read by: the declarations, the type of each id of their table, those of operations,
-- and the principal types of names of earlier items
pub record Context : Type 0 where
  pub decls : List DeclInfo
  pub declared : TyId → Tree
  pub operation : Op → Tree
  pub scheme : ℕ → Option Tree

abbrev pub no_shape : Shape
no_shape = Make (TupleHead 0) no_shapes

-- the product of several types, or the one type
abbrev pub product : List Shape → Shape
product [] = Make (TupleHead 0) no_shapes
product (s ∷ []) = s
product (s ∷ r ∷ ss) = Make (TupleHead (length ss + 2)) (shape_and s (shape_and r (shapes ss)))

abbrev pub function : List Shape → Shape → Shape
function [] result = result
function (s ∷ ss) result = Make ArrowHead (shape_and s (shape_and (function ss result) no_shapes))

abbrev pub shape_at : List Shape → ℕ → Shape
shape_at [] n = no_shape
shape_at (s ∷ ss) zero = s
shape_at (s ∷ ss) (suc n) = shape_at ss n

-- the declaration of a number at these types, an abbreviation as the type that it stands for
abbrev pub named : (TyId → Tree) → ℕ → List Shape → Option DeclInfo → Shape
named declared d args None = Make (ConHead d (length args)) (shapes args)
named declared d args (Some info) = elim info.alias [ None ↦ Make (ConHead d (length args)) (shapes args) | Some body ↦ with_shapes (shape_at args) (declared body) ]

abbrev pub made : ℕ → ℕ → Option DeclInfo → Shape
made d node None = Make (ConHead d 0) no_shapes
made d node (Some info) = Make (ConHead d info.vars) (shapes (fresh_from node info.vars 0))

abbrev pub argument : (TyId → Tree) → ℕ → Option ConInfo → Shape
argument declared node None = no_shape
argument declared node (Some con) = product (map (λ (a : ArgInfo). at_fresh node (declared a.ty)) con.args)

abbrev pub field : (TyId → Tree) → ℕ → Option FieldInfo → Shape
field declared node None = no_shape
field declared node (Some f) = at_fresh node (declared f.arg.ty)

abbrev pub cons_of : Option DeclInfo → List ConInfo
cons_of None = []
cons_of (Some d) = d.cons

abbrev pub fields_of : Option DeclInfo → List FieldInfo
fields_of None = []
fields_of (Some d) = d.fields

abbrev pub top : Option Tree → ℕ → ℕ → Shape
top None binder node = Is (Binder binder)
top (Some t) binder node = at_fresh node t

abbrev pub term_step : Context → Term-F Shape → Shape
term_step c (t.Of u) = Is u
term_step c (t.Top binder node) = top (c.scheme binder) binder node
term_step c (t.Operation op node) = at_fresh node (c.operation op)
term_step c (t.Made d node) = made d node (slice_get c.decls d)
term_step c (t.Argument d con node) = argument c.declared node (slice_get (cons_of (slice_get c.decls d)) con)
term_step c (t.Field d f node) = field c.declared node (slice_get (fields_of (slice_get c.decls d)) f)
term_step c (t.Con d args) = named c.declared d args (slice_get c.decls d)
term_step c (t.Tuple parts) = Make (TupleHead (length parts)) (shapes parts)
term_step c (t.Function params result) = function params result

-- the type over unknowns that a term stands for
abbrev pub shape_of : Context → Term → Shape
shape_of c term = fold-Term Shape (term_step c) term
