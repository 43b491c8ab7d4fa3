-- What a type expression writes, by its form.
use Rattle.std.proofs.Common.{◌≡◌, ℕ, List, map, length, sym, ap, ◌∙◌, subst}
use Rattle.oxml_base.specs.declared.span.Span.{Span}
use Rattle.ml_tree.specs.declared.types.TyExpr.{TyExpr}
use Rattle.ml_tree.specs.declared.types.Arg.{Arg}
use Rattle.ml_tree.specs.declared.types.TyKind.{TyKind, fold-roll-TyKind}
use Rattle.ml_tree.specs.declared.types.TyKind.TheVariants as T
use Rattle.ml_tree.specs.declared.types.TyKind.TheOpen as t
use Rattle.ml_tree.specs.declared.reference.TyRef.{TyRef}
use Rattle.ml_types.specs.declared.node.TyId.{TyId}
use Rattle.ml_types.specs.declared.node.TyNode.{TyNode}
use Rattle.ml_types.specs.Types.{ArrowHead, TupleHead, Tree, Node, Nil, Cons}
use Rattle.ml_decls.specs.Lists.{find}
use Rattle.ml_decls.specs.Said as s
use Rattle.ml_decls.specs.Tables.{HasType}

pub written_var : (types : List (ℕ × TyRef)) (name : Span) (id : ℕ) → s.kind_written types (T.Var name) id ≡ s.variable_type (find types id)
written_var types name id = ap (λ (z : TyKind). s.kind_written types z id) (sym (T.rolls-Var name)) ∙ ap (λ (z : ℕ → Tree). z id) (fold-roll-TyKind (ℕ → Tree) Tree Tree (s.step types) (s.arg_step types) (s.node types) (t.Var name))

pub written_con : (types : List (ℕ × TyRef)) (name : Span) (args : List TyExpr) (id : ℕ) → s.kind_written types (T.Con name args) id ≡ s.type_named (map (s.written types) args) (find types id)
written_con types name args id = ap (λ (z : TyKind). s.kind_written types z id) (sym (T.rolls-Con name args)) ∙ ap (λ (z : ℕ → Tree). z id) (fold-roll-TyKind (ℕ → Tree) Tree Tree (s.step types) (s.arg_step types) (s.node types) (t.Con name args))

pub written_tuple : (types : List (ℕ × TyRef)) (parts : List TyExpr) (id : ℕ) → s.kind_written types (T.Tuple parts) id ≡ Node (TupleHead (length (map (s.written types) parts))) (s.listed (map (s.written types) parts))
written_tuple types parts id = ap (λ (z : TyKind). s.kind_written types z id) (sym (T.rolls-Tuple parts)) ∙ ap (λ (z : ℕ → Tree). z id) (fold-roll-TyKind (ℕ → Tree) Tree Tree (s.step types) (s.arg_step types) (s.node types) (t.Tuple parts))

pub written_arrow : (types : List (ℕ × TyRef)) (from to : Arg) (id : ℕ) → s.kind_written types (T.Arrow from to) id ≡ Node ArrowHead (Cons (s.arg_written types from) (Cons (s.arg_written types to) Nil))
written_arrow types from to id = ap (λ (z : TyKind). s.kind_written types z id) (sym (T.rolls-Arrow from to)) ∙ ap (λ (z : ℕ → Tree). z id) (fold-roll-TyKind (ℕ → Tree) Tree Tree (s.step types) (s.arg_step types) (s.node types) (t.Arrow from to))

-- the type of a form is that of the type expression
pub has_written : (types : List (ℕ × TyRef)) (nodes : List TyNode) (x : TyId) (kind form : TyKind) (id : ℕ) (ty : Tree) → kind ≡ form → s.kind_written types form id ≡ ty → HasType nodes x ty → HasType nodes x (s.kind_written types kind id)
has_written types nodes x kind form id ty e w h = subst (λ (z : Tree). HasType nodes x z) (sym (ap (λ (z : TyKind). s.kind_written types z id) e ∙ w)) h

pub has_arrow : (types : List (ℕ × TyRef)) (nodes : List TyNode) (x : TyId) (kind : TyKind) (from to from' to' : Arg) (id : ℕ) → kind ≡ T.Arrow from to → from' ≡ from → to' ≡ to → HasType nodes x (Node ArrowHead (Cons (s.arg_written types from') (Cons (s.arg_written types to') Nil))) → HasType nodes x (s.kind_written types kind id)
has_arrow types nodes x kind from to from' to' id e p q h = has_written types nodes x kind (T.Arrow from to) id (Node ArrowHead (Cons (s.arg_written types from) (Cons (s.arg_written types to) Nil))) e (written_arrow types from to id) (subst (λ (z : Tree). HasType nodes x z) (ap (λ (z : Arg). Node ArrowHead (Cons (s.arg_written types z) (Cons (s.arg_written types to') Nil))) p ∙ ap (λ (z : Arg). Node ArrowHead (Cons (s.arg_written types from) (Cons (s.arg_written types z) Nil))) q) h)
