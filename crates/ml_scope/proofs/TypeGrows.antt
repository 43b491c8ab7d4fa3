-- What type expressions add to the journal.
use Rattle.std.proofs.Common.{◌≡◌, ℕ, Option, Some, None, false, sym, subst}
use Rattle.oxml_base.specs.declared.span.Span.{Span}
use Rattle.oxml_base.specs.declared.rule.Rule.TheVariants.{UnboundType}
use Rattle.ml_tree.specs.declared.types.TyExpr.{TyExpr, ind-TyExpr, fold-roll-TyExpr, map-TyExpr, roll-TyExpr}
use Rattle.ml_tree.specs.declared.types.Arg.{Arg, ind-Arg, fold-roll-Arg, map-Arg, roll-Arg}
use Rattle.ml_tree.specs.declared.types.TyKind.{TyKind, fold-roll-TyKind, map-TyKind, roll-TyKind}
use Rattle.ml_tree.specs.declared.types.TyKind.TheOpen as t
use Rattle.ml_tree.specs.declared.types.TyKind.TheOpen.{TyKind-F, Arg-F, TyExpr-F}
use Rattle.ml_numbers.specs.Ids.{Ids, no_ids, type_id, joined, all, maybe}
use Rattle.ml_numbers.specs.Ids as I
use Rattle.ml_scope.specs.declared.meaning.Meaning.{Meaning}
use Rattle.ml_scope.specs.Names.{Known, find, spelling}
use Rattle.ml_scope.specs.Journal.{Journal}
use Rattle.ml_scope.specs.Types.{type_meant, type_named, type_step, arg_step, type_node, type_look, type_kind_look, arg_look}
use Rattle.ml_scope.proofs.Grows.{Adds, adds_none, adds_then, adds_behind, adds_type, adds_variable, adds_offence, adds_parts}

abbrev Look : Type 0
Look = Journal → Journal

abbrev KindGrows : Known → TyKind → Type 0
KindGrows k x = (id : ℕ) → Adds false (type_kind_look k x id) (joined (type_id id) (I.type_kind_ids x))

abbrev ArgGrows : Known → Arg → Type 0
ArgGrows k x = Adds false (arg_look k x) (I.arg_ids x)

abbrev TypeGrows : Known → TyExpr → Type 0
TypeGrows k x = Adds false (type_look k x) (I.type_ids x)

abbrev Kinds : Known → Type 0
Kinds k = (x : TyKind) × KindGrows k x

abbrev Args : Known → Type 0
Args k = (x : Arg) × ArgGrows k x

abbrev Types : Known → Type 0
Types k = (x : TyExpr) × TypeGrows k x

meant : (id : ℕ) (place : Span) (o : Option Meaning) → Adds false (type_meant id place o) (type_id id)
meant id place None = adds_offence UnboundType place (type_id id)
meant id place (Some m) = adds_type id m.declaration

module _ (k : Known) where
  named : (id : ℕ) (name : Span) → Adds false (type_named k id name) (type_id id)
  named id name = meant id name (find k.types (spelling k.text name))

  abbrev layer_kind : TyKind-F (Kinds k) (Args k) (Types k) → TyKind-F TyKind Arg TyExpr
  layer_kind y = map-TyKind (Kinds k) (Args k) (Types k) TyKind Arg TyExpr (λ q. q.0) (λ q. q.0) (λ q. q.0) y

  abbrev layer_arg : Arg-F (Kinds k) (Args k) (Types k) → Arg-F TyKind Arg TyExpr
  layer_arg y = map-Arg (Kinds k) (Args k) (Types k) TyKind Arg TyExpr (λ q. q.0) (λ q. q.0) (λ q. q.0) y

  abbrev layer_type : TyExpr-F (Kinds k) (Args k) (Types k) → TyExpr-F TyKind Arg TyExpr
  layer_type y = map-TyExpr (Kinds k) (Args k) (Types k) TyKind Arg TyExpr (λ q. q.0) (λ q. q.0) (λ q. q.0) y

  abbrev look_kind : TyKind-F TyKind Arg TyExpr → ℕ → Journal → Journal
  look_kind l = type_step k (map-TyKind TyKind Arg TyExpr (ℕ → Look) Look Look (type_kind_look k) (arg_look k) (type_look k) l)

  abbrev ids_kind : TyKind-F TyKind Arg TyExpr → Ids
  ids_kind l = I.type_step (map-TyKind TyKind Arg TyExpr Ids Ids Ids I.type_kind_ids I.arg_ids I.type_ids l)

  kind_grows : (y : TyKind-F (Kinds k) (Args k) (Types k)) (id : ℕ) → Adds false (look_kind (layer_kind y) id) (joined (type_id id) (ids_kind (layer_kind y)))
  kind_grows (t.Var name) id = adds_then (adds_variable id name) (adds_none no_ids)
  kind_grows (t.Con name args) id = adds_then (named id name) (adds_parts (type_look k) I.type_ids (λ x h. h) args)
  kind_grows (t.Tuple parts) id = adds_behind (type_id id) (adds_parts (type_look k) I.type_ids (λ x h. h) parts)
  kind_grows (t.Arrow from to) id = adds_behind (type_id id) (adds_then from.1 to.1)

  kind_at : (l : TyKind-F TyKind Arg TyExpr) → type_kind_look k (roll-TyKind l) ≡ look_kind l
  kind_at l = fold-roll-TyKind (ℕ → Look) Look Look (type_step k) (arg_step k) (type_node k) l

  kind_ids_at : (l : TyKind-F TyKind Arg TyExpr) → I.type_kind_ids (roll-TyKind l) ≡ ids_kind l
  kind_ids_at l = fold-roll-TyKind Ids Ids Ids I.type_step I.arg_step I.type_node l

  kind_case : (l : TyKind-F TyKind Arg TyExpr) (y : TyKind-F (Kinds k) (Args k) (Types k)) → layer_kind y ≡ l → KindGrows k (roll-TyKind l)
  kind_case l y same = λ id.
      subst (λ (f : ℕ → Look). Adds false (f id) (joined (type_id id) (I.type_kind_ids (roll-TyKind l)))) (sym (kind_at l))
      (subst (λ (i : Ids). Adds false (look_kind l id) (joined (type_id id) i)) (sym (kind_ids_at l))
      (subst (λ (l : TyKind-F TyKind Arg TyExpr). Adds false (look_kind l id) (joined (type_id id) (ids_kind l))) same (kind_grows y id)))

  arg_case : (l : Arg-F TyKind Arg TyExpr) (y : Arg-F (Kinds k) (Args k) (Types k)) → layer_arg y ≡ l → ArgGrows k (roll-Arg l)
  arg_case l y same =
      subst (λ (f : Look). Adds false f (I.arg_ids (roll-Arg l))) (sym (fold-roll-Arg (ℕ → Look) Look Look (type_step k) (arg_step k) (type_node k) l))
      (subst (λ (i : Ids). Adds false (type_look k l.ty) i) (sym (fold-roll-Arg Ids Ids Ids I.type_step I.arg_step I.type_node l))
      (subst (λ (l : Arg-F TyKind Arg TyExpr). Adds false (type_look k l.ty) (I.type_ids l.ty)) same y.ty.1))

  type_case : (l : TyExpr-F TyKind Arg TyExpr) (y : TyExpr-F (Kinds k) (Args k) (Types k)) → layer_type y ≡ l → TypeGrows k (roll-TyExpr l)
  type_case l y same =
      subst (λ (f : Look). Adds false f (I.type_ids (roll-TyExpr l))) (sym (fold-roll-TyExpr (ℕ → Look) Look Look (type_step k) (arg_step k) (type_node k) l))
      (subst (λ (i : Ids). Adds false (type_kind_look k l.kind l.id) i) (sym (fold-roll-TyExpr Ids Ids Ids I.type_step I.arg_step I.type_node l))
      (subst (λ (l : TyExpr-F TyKind Arg TyExpr). Adds false (type_kind_look k l.kind l.id) (joined (type_id l.id) (I.type_kind_ids l.kind))) same (y.kind.1 y.id)))

  pub type_grows : (x : TyExpr) → Adds false (type_look k x) (I.type_ids x)
  type_grows x = ind-TyExpr (KindGrows k) (ArgGrows k) (TypeGrows k) kind_case arg_case type_case x

  pub arg_grows : (x : Arg) → Adds false (arg_look k x) (I.arg_ids x)
  arg_grows x = ind-Arg (KindGrows k) (ArgGrows k) (TypeGrows k) kind_case arg_case type_case x
