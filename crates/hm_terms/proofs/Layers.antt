-- What terms stand for, layer by layer.
use Rattle.std.proofs.Common.{◌≡◌, ℕ, List, length, map, sym, ap, ◌∙◌}
use Rattle.std.specs.List.{slice_get}
use Rattle.ml_types.specs.Types.{TupleHead}
use Rattle.ml_tree.specs.declared.reference.Op.{Op}
use Rattle.ml_typing.specs.declared.equation.Unknown.{Unknown}
use Rattle.ml_typing.specs.declared.equation.Term.{Term, fold-roll-Term, map-Term, roll-Term}
use Rattle.ml_typing.specs.declared.equation.Term.TheOpen as t
use Rattle.ml_typing.specs.declared.equation.Term.TheOpen.{Term-F}
use Rattle.ml_typing.specs.declared.equation.Term.TheVariants as v
use Rattle.ml_typing.specs.Terms.{Context, Shape, Is, Make, shapes, at_fresh, top, made, argument, field, named, function, cons_of, fields_of, term_step, shape_of}

layer : (c : Context) (l : Term-F Term) (x : Term) → roll-Term l ≡ x → shape_of c x ≡ term_step c (map-Term Term Shape (shape_of c) l)
layer c l x is = ap (shape_of c) (sym is) ∙ fold-roll-Term Shape (term_step c) l

pub of_is : (c : Context) (u : Unknown) → shape_of c (v.Of u) ≡ Is u
of_is c u = layer c (t.Of u) (v.Of u) (v.rolls-Of u)

pub top_is : (c : Context) (b n : ℕ) → shape_of c (v.Top b n) ≡ top (c.scheme b) b n
top_is c b n = layer c (t.Top b n) (v.Top b n) (v.rolls-Top b n)

pub operation_is : (c : Context) (op : Op) (n : ℕ) → shape_of c (v.Operation op n) ≡ at_fresh n (c.operation op)
operation_is c op n = layer c (t.Operation op n) (v.Operation op n) (v.rolls-Operation op n)

pub made_is : (c : Context) (d n : ℕ) → shape_of c (v.Made d n) ≡ made d n (slice_get c.decls d)
made_is c d n = layer c (t.Made d n) (v.Made d n) (v.rolls-Made d n)

pub argument_is : (c : Context) (d q n : ℕ) → shape_of c (v.Argument d q n) ≡ argument c.declared n (slice_get (cons_of (slice_get c.decls d)) q)
argument_is c d q n = layer c (t.Argument d q n) (v.Argument d q n) (v.rolls-Argument d q n)

pub field_is : (c : Context) (d f n : ℕ) → shape_of c (v.Field d f n) ≡ field c.declared n (slice_get (fields_of (slice_get c.decls d)) f)
field_is c d f n = layer c (t.Field d f n) (v.Field d f n) (v.rolls-Field d f n)

pub con_is : (c : Context) (d : ℕ) (args : List Term) → shape_of c (v.Con d args) ≡ named c.declared d (map (shape_of c) args) (slice_get c.decls d)
con_is c d args = layer c (t.Con d args) (v.Con d args) (v.rolls-Con d args)

pub tuple_is : (c : Context) (parts : List Term) → shape_of c (v.Tuple parts) ≡ Make (TupleHead (length (map (shape_of c) parts))) (shapes (map (shape_of c) parts))
tuple_is c parts = layer c (t.Tuple parts) (v.Tuple parts) (v.rolls-Tuple parts)

pub function_is : (c : Context) (params : List Term) (result : Term) → shape_of c (v.Function params result) ≡ function (map (shape_of c) params) (shape_of c result)
function_is c params result = layer c (t.Function params result) (v.Function params result) (v.rolls-Function params result)
