-- The names that a pattern binds, and what it uses.
use Rattle.std.specs.Prelude.{ℕ, List, [], ◌∷◌, ◌++◌, Option, Some, None, Bool, true, false, not, ◌||◌, map, length}
use Rattle.std.specs.Option.{option_map}
use Rattle.oxml_base.specs.declared.span.Span.{Span}
use Rattle.oxml_base.specs.declared.rule.Rule.TheVariants.{LeftOut}
use Rattle.ml_tree.specs.declared.pattern.Pat.{Pat, fold-Pat}
use Rattle.ml_tree.specs.declared.pattern.FieldPat.{FieldPat, fold-FieldPat}
use Rattle.ml_tree.specs.declared.pattern.Param.{Param}
use Rattle.ml_tree.specs.declared.pattern.PatKind.{PatKind, fold-PatKind}
use Rattle.ml_tree.specs.declared.pattern.PatKind.TheOpen as p
use Rattle.ml_tree.specs.declared.pattern.PatKind.TheOpen.{PatKind-F, FieldPat-F, Pat-F}
use Rattle.ml_scope.specs.declared.binder.Binder.{Binder}
use Rattle.ml_scope.specs.declared.shape.Shape.{Shape}
use Rattle.ml_scope.specs.declared.shape.Shape.TheVariants.{Tuple, Any, Name, Other}
use Rattle.ml_scope.specs.Names.{Known}
use Rattle.ml_scope.specs.Journal.{Journal, offence_where, each, perhaps}
use Rattle.ml_scope.specs.Shapes.{inside}
use Rattle.ml_scope.specs.Types.{type_look}
use Rattle.ml_scope.specs.Uses.{constructor_named, field_named, record_named}

-- ---- the names that it binds, each with its node, in the order of the source

abbrev pub Binders : Type 0
Binders = List Binder → List Binder

abbrev pub one_binder : ℕ → Span → Binders
one_binder id name bs = bs ++ record { name = name; node = id } ∷ []

abbrev pub binder_step : PatKind-F (ℕ → Binders) Binders Binders → ℕ → Binders
binder_step (p.Name words name) id bs = one_binder id name bs
binder_step (p.Con name arg) id bs = perhaps arg bs
binder_step (p.Cons a b) id bs = b (a bs)
binder_step (p.Tuple ps) id bs = each ps bs
binder_step (p.List ps) id bs = each ps bs
binder_step (p.Fields ps rest) id bs = each ps bs
binder_step (p.Or a b) id bs = b (a bs)
binder_step (p.Named q name) id bs = one_binder id name (q bs)
binder_step (p.Typed q ty) id bs = q bs
binder_step (p.Paren q) id bs = q bs
binder_step _ id bs = bs

abbrev pub binder_field : FieldPat-F (ℕ → Binders) Binders Binders → Binders
binder_field f bs = f.pat bs

abbrev pub binder_node : Pat-F (ℕ → Binders) Binders Binders → Binders
binder_node q bs = q.kind q.id bs

abbrev pub binders : Pat → Binders
binders q = fold-Pat (ℕ → Binders) Binders Binders binder_step binder_field binder_node q

abbrev pub kind_binders : PatKind → ℕ → Binders
kind_binders q = fold-PatKind (ℕ → Binders) Binders Binders binder_step binder_field binder_node q

abbrev pub field_binders : FieldPat → Binders
field_binders q = fold-FieldPat (ℕ → Binders) Binders Binders binder_step binder_field binder_node q

abbrev pub param_binders : Param → Binders
param_binders q = binders q.pat

-- ---- what it uses

-- a pattern: its shape, whether it binds a name, and what it adds to the journal
pub record PatSeen : Type 0 where
  pub shape : Shape
  pub binds : Bool
  pub look : Journal → Journal

pub record FieldPatSeen : Type 0 where
  pub name : Span
  pub binds : Bool
  pub look : Journal → Journal

-- the same of its kind, which is looked at with its number and its span
pub record PatKindSeen : Type 0 where
  pub shape : Shape
  pub binds : Bool
  pub look : ℕ → Span → Journal → Journal

abbrev pub any_binds : List Bool → Bool
any_binds [] = false
any_binds (one ∷ others) = one || any_binds others

abbrev pub perhaps_binds : Option Bool → Bool
perhaps_binds None = false
perhaps_binds (Some one) = one

abbrev pub no_use : Shape → Bool → PatKindSeen
no_use shape binds = record { shape = shape; binds = binds; look = λ id span js. js }

module _ (k : Known) where
  abbrev pub pattern_step : PatKind-F PatKindSeen FieldPatSeen PatSeen → PatKindSeen
  pattern_step p.Any = no_use Any false
  pattern_step (p.Name words name) = no_use Name true
  pattern_step (p.Int n) = no_use Other false
  pattern_step (p.Char n) = no_use Other false
  pattern_step (p.Text t) = no_use Other false
  pattern_step (p.Con name arg) = record { shape = Other; binds = perhaps_binds (option_map (λ q. q.binds) arg); look = λ id span js. perhaps (option_map (λ q. q.look) arg) (constructor_named k id span name (option_map (λ q. q.shape) arg) js) }
  pattern_step (p.Cons a b) = record { shape = Other; binds = a.binds || b.binds; look = λ id span js. b.look (a.look js) }
  pattern_step (p.Tuple ps) = record { shape = Tuple (length ps); binds = any_binds (map (λ q. q.binds) ps); look = λ id span js. each (map (λ q. q.look) ps) js }
  pattern_step (p.List ps) = record { shape = Other; binds = any_binds (map (λ q. q.binds) ps); look = λ id span js. each (map (λ q. q.look) ps) js }
  pattern_step (p.Fields ps rest) = record { shape = Other; binds = any_binds (map (λ q. q.binds) ps); look = λ id span js. each (map (λ q. q.look) ps) (record_named k id span (not rest) (map (λ q. q.name) ps) js) }
  pattern_step (p.Or a b) = record { shape = Other; binds = a.binds || b.binds; look = λ id span js. offence_where (a.binds || b.binds) LeftOut span (b.look (a.look js)) }
  pattern_step (p.Named q name) = record { shape = Other; binds = true; look = λ id span js. q.look js }
  pattern_step (p.Typed q ty) = record { shape = Other; binds = q.binds; look = λ id span js. type_look k ty (q.look js) }
  pattern_step (p.Paren q) = record { shape = inside q.shape; binds = q.binds; look = λ id span js. q.look js }

  abbrev pub pattern_field : FieldPat-F PatKindSeen FieldPatSeen PatSeen → FieldPatSeen
  pattern_field f = record { name = f.name; binds = f.pat.binds; look = λ js. f.pat.look (field_named k f.id f.name js) }

  abbrev pub pattern_node : Pat-F PatKindSeen FieldPatSeen PatSeen → PatSeen
  pattern_node q = record { shape = q.kind.shape; binds = q.kind.binds; look = λ js. q.kind.look q.id q.span js }

  abbrev pub pattern_seen : Pat → PatSeen
  pattern_seen q = fold-Pat PatKindSeen FieldPatSeen PatSeen pattern_step pattern_field pattern_node q

  abbrev pub pattern_kind_seen : PatKind → PatKindSeen
  pattern_kind_seen q = fold-PatKind PatKindSeen FieldPatSeen PatSeen pattern_step pattern_field pattern_node q

  abbrev pub field_pattern_seen : FieldPat → FieldPatSeen
  field_pattern_seen q = fold-FieldPat PatKindSeen FieldPatSeen PatSeen pattern_step pattern_field pattern_node q

  abbrev pub param_look : Param → Journal → Journal
  param_look q js = (pattern_seen q.pat).look js
