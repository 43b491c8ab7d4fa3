-- What patterns add to the journal.
use Rattle.std.proofs.Common.{◌≡◌, ℕ, List, [], ◌∷◌, map, Option, Some, None, Bool, false, not, ◌||◌, sym, subst}
use Rattle.oxml_base.specs.declared.span.Span.{Span}
use Rattle.oxml_base.specs.declared.rule.Rule.TheVariants.{UnboundValue, UnboundConstructor, FieldCount, LeftOut}
use Rattle.ml_tree.specs.declared.reference.Ref.TheVariants as r
use Rattle.ml_tree.specs.declared.pattern.ConName.{ConName}
use Rattle.ml_tree.specs.declared.pattern.Pat.{Pat, ind-Pat, fold-roll-Pat, fold_out-Pat, map-Pat, roll-Pat}
use Rattle.ml_tree.specs.declared.pattern.FieldPat.{FieldPat, fold-roll-FieldPat, map-FieldPat, roll-FieldPat}
use Rattle.ml_tree.specs.declared.pattern.Param.{Param}
use Rattle.ml_tree.specs.declared.pattern.PatKind.{PatKind, fold-roll-PatKind, map-PatKind, roll-PatKind}
use Rattle.ml_tree.specs.declared.pattern.PatKind.TheOpen as p
use Rattle.ml_tree.specs.declared.pattern.PatKind.TheOpen.{PatKind-F, FieldPat-F, Pat-F}
use Rattle.ml_numbers.specs.Ids.{Ids, no_ids, node_id, joined, all, maybe}
use Rattle.ml_numbers.specs.Ids as I
use Rattle.ml_scope.specs.declared.meaning.Meaning.{Meaning}
use Rattle.ml_scope.specs.declared.shape.Shape.{Shape}
use Rattle.ml_scope.specs.Names.{Known, Env, find, spelling}
use Rattle.ml_scope.specs.Journal.{each}
use Rattle.ml_scope.specs.Shapes.{miscounts}
use Rattle.ml_scope.specs.Uses.{value_meant, value_named, constructor_meant, constructor_named, constructor_of, written, field_meant, field_named, field_of, record_meant, record_named, fields_of, first_of, misfits}
use Rattle.ml_scope.specs.Patterns.{PatSeen, FieldPatSeen, PatKindSeen, pattern_step, pattern_field, pattern_node, pattern_seen, pattern_kind_seen, field_pattern_seen, param_look}
use Rattle.ml_scope.proofs.Grows.{Sub, keeps, sub_nothing, Adds, adds_none, adds_then, adds_behind, adds_end, adds_name, adds_offence, adds_where, adds_seen, adds_each}
use Rattle.ml_scope.proofs.TypeGrows.{type_grows}

-- ---- uses

value_adds : (id : ℕ) (place : Span) (o : Option Meaning) → Adds false (value_meant id place o) (node_id id)
value_adds id place None = adds_offence UnboundValue place (node_id id)
value_adds id place (Some m) = adds_name id m.target

pub value_grows : (k : Known) (env : Env) (id : ℕ) (name : Span) → Adds false (value_named k env id name) (node_id id)
value_grows k env id name = value_adds id name (find env (spelling k.text name))

constructor_adds : (id : ℕ) (place whole : Span) (given : Option Shape) (o : Option Meaning) → Adds false (constructor_meant id place whole given o) (node_id id)
constructor_adds id place whole given None = adds_offence UnboundConstructor place (node_id id)
constructor_adds id place whole given (Some m) = adds_then (adds_name id m.target) (adds_where (miscounts m.parts given) FieldCount whole no_ids)

pub constructor_grows : (k : Known) (id : ℕ) (whole : Span) (name : ConName) (given : Option Shape) → Adds false (constructor_named k id whole name given) (node_id id)
constructor_grows k id whole name given = constructor_adds id (written name whole) whole given (constructor_of k name)

field_adds : (id : ℕ) (place : Span) (o : Option Meaning) → Adds false (field_meant id place o) (node_id id)
field_adds id place None = adds_offence UnboundConstructor place (node_id id)
field_adds id place (Some m) = adds_name id m.target

pub field_grows : (k : Known) (id : ℕ) (name : Span) → Adds false (field_named k id name) (node_id id)
field_grows k id name = field_adds id name (field_of k name)

record_adds : (id : ℕ) (o : Option Meaning) → Adds false (record_meant id o) (node_id id)
record_adds id None = adds_none (node_id id)
record_adds id (Some m) = adds_name id (r.Decl m.declaration)

pub record_grows : (k : Known) (id : ℕ) (span : Span) (whole : Bool) (names : List Span) → Adds false (record_named k id span whole names) (node_id id)
record_grows k id span whole names = adds_then (record_adds id (first_of k names)) (adds_where (misfits whole (fields_of k names [])) FieldCount span no_ids)

-- ---- patterns

-- a pattern's own number is the first of its numbers
pub own_number : (q : Pat) → Sub (q.id ∷ []) (I.pattern_ids q).nodes
own_number q =
    let are : I.pattern_ids q ≡ joined (node_id q.id) (I.pattern_kind_ids q.kind) = fold_out-Pat Ids Ids Ids I.pattern_step I.field_pattern_node I.pattern_node q in
    subst (λ (i : Ids). Sub (q.id ∷ []) i.nodes) (sym are) (keeps (sub_nothing (I.pattern_kind_ids q.kind).nodes))

abbrev KindGrows : Known → PatKind → Type 0
KindGrows k x = (id : ℕ) (span : Span) → Adds false ((pattern_kind_seen k x).look id span) (joined (node_id id) (I.pattern_kind_ids x))

abbrev FieldGrows : Known → FieldPat → Type 0
FieldGrows k x = Adds false ((field_pattern_seen k x).look) (I.field_pattern_ids x)

abbrev PatGrows : Known → Pat → Type 0
PatGrows k x = Adds false ((pattern_seen k x).look) (I.pattern_ids x)

abbrev Kinds : Known → Type 0
Kinds k = (x : PatKind) × KindGrows k x

abbrev Fields : Known → Type 0
Fields k = (x : FieldPat) × FieldGrows k x

abbrev Pats : Known → Type 0
Pats k = (x : Pat) × PatGrows k x

module _ (k : Known) where
  abbrev layer_kind : PatKind-F (Kinds k) (Fields k) (Pats k) → PatKind-F PatKind FieldPat Pat
  layer_kind y = map-PatKind (Kinds k) (Fields k) (Pats k) PatKind FieldPat Pat (λ q. q.0) (λ q. q.0) (λ q. q.0) y

  abbrev layer_field : FieldPat-F (Kinds k) (Fields k) (Pats k) → FieldPat-F PatKind FieldPat Pat
  layer_field y = map-FieldPat (Kinds k) (Fields k) (Pats k) PatKind FieldPat Pat (λ q. q.0) (λ q. q.0) (λ q. q.0) y

  abbrev layer_pat : Pat-F (Kinds k) (Fields k) (Pats k) → Pat-F PatKind FieldPat Pat
  layer_pat y = map-Pat (Kinds k) (Fields k) (Pats k) PatKind FieldPat Pat (λ q. q.0) (λ q. q.0) (λ q. q.0) y

  abbrev seen_kind : PatKind-F PatKind FieldPat Pat → PatKindSeen
  seen_kind l = pattern_step k (map-PatKind PatKind FieldPat Pat PatKindSeen FieldPatSeen PatSeen (pattern_kind_seen k) (field_pattern_seen k) (pattern_seen k) l)

  abbrev ids_kind : PatKind-F PatKind FieldPat Pat → Ids
  ids_kind l = I.pattern_step (map-PatKind PatKind FieldPat Pat Ids Ids Ids I.pattern_kind_ids I.field_pattern_ids I.pattern_ids l)

  kind_grows : (y : PatKind-F (Kinds k) (Fields k) (Pats k)) (id : ℕ) (span : Span) → Adds false ((seen_kind (layer_kind y)).look id span) (joined (node_id id) (ids_kind (layer_kind y)))
  kind_grows p.Any id span = adds_none (joined (node_id id) no_ids)
  kind_grows (p.Name words name) id span = adds_none (joined (node_id id) no_ids)
  kind_grows (p.Int n) id span = adds_none (joined (node_id id) no_ids)
  kind_grows (p.Char c) id span = adds_none (joined (node_id id) no_ids)
  kind_grows (p.Text t) id span = adds_none (joined (node_id id) no_ids)
  kind_grows (p.Con name None) id span = adds_then (constructor_grows k id span name None) (adds_none no_ids)
  kind_grows (p.Con name (Some q)) id span = adds_then (constructor_grows k id span name (Some (pattern_seen k q.0).shape)) q.1
  kind_grows (p.Cons a b) id span = adds_behind (node_id id) (adds_then a.1 b.1)
  kind_grows (p.Tuple ps) id span = adds_behind (node_id id) (adds_seen (pattern_seen k) (λ q. q.look) I.pattern_ids (λ x h. h) ps)
  kind_grows (p.List ps) id span = adds_behind (node_id id) (adds_seen (pattern_seen k) (λ q. q.look) I.pattern_ids (λ x h. h) ps)
  kind_grows (p.Fields ps rest) id span = adds_then (record_grows k id span (not rest) (map (λ q. q.name) (map (field_pattern_seen k) (map (λ q. q.0) ps)))) (adds_seen (field_pattern_seen k) (λ q. q.look) I.field_pattern_ids (λ x h. h) ps)
  kind_grows (p.Or a b) id span = adds_behind (node_id id) (adds_end (adds_then a.1 b.1) (adds_where ((pattern_seen k a.0).binds || (pattern_seen k b.0).binds) LeftOut span no_ids))
  kind_grows (p.Named q name) id span = adds_behind (node_id id) q.1
  kind_grows (p.Typed q ty) id span = adds_behind (node_id id) (adds_then q.1 (type_grows k ty))
  kind_grows (p.Paren q) id span = adds_behind (node_id id) q.1

  kind_case : (l : PatKind-F PatKind FieldPat Pat) (y : PatKind-F (Kinds k) (Fields k) (Pats k)) → layer_kind y ≡ l → KindGrows k (roll-PatKind l)
  kind_case l y same = λ id span.
      subst (λ (s : PatKindSeen). Adds false (s.look id span) (joined (node_id id) (I.pattern_kind_ids (roll-PatKind l)))) (sym (fold-roll-PatKind PatKindSeen FieldPatSeen PatSeen (pattern_step k) (pattern_field k) (pattern_node k) l))
      (subst (λ (i : Ids). Adds false ((seen_kind l).look id span) (joined (node_id id) i)) (sym (fold-roll-PatKind Ids Ids Ids I.pattern_step I.field_pattern_node I.pattern_node l))
      (subst (λ (l : PatKind-F PatKind FieldPat Pat). Adds false ((seen_kind l).look id span) (joined (node_id id) (ids_kind l))) same (kind_grows y id span)))

  field_case : (l : FieldPat-F PatKind FieldPat Pat) (y : FieldPat-F (Kinds k) (Fields k) (Pats k)) → layer_field y ≡ l → FieldGrows k (roll-FieldPat l)
  field_case l y same =
      subst (λ (s : FieldPatSeen). Adds false s.look (I.field_pattern_ids (roll-FieldPat l))) (sym (fold-roll-FieldPat PatKindSeen FieldPatSeen PatSeen (pattern_step k) (pattern_field k) (pattern_node k) l))
      (subst (λ (i : Ids). Adds false (λ js. (pattern_seen k l.pat).look (field_named k l.id l.name js)) i) (sym (fold-roll-FieldPat Ids Ids Ids I.pattern_step I.field_pattern_node I.pattern_node l))
      (subst (λ (l : FieldPat-F PatKind FieldPat Pat). Adds false (λ js. (pattern_seen k l.pat).look (field_named k l.id l.name js)) (joined (node_id l.id) (I.pattern_ids l.pat))) same (adds_then (field_grows k y.id y.name) y.pat.1)))

  pat_case : (l : Pat-F PatKind FieldPat Pat) (y : Pat-F (Kinds k) (Fields k) (Pats k)) → layer_pat y ≡ l → PatGrows k (roll-Pat l)
  pat_case l y same =
      subst (λ (s : PatSeen). Adds false s.look (I.pattern_ids (roll-Pat l))) (sym (fold-roll-Pat PatKindSeen FieldPatSeen PatSeen (pattern_step k) (pattern_field k) (pattern_node k) l))
      (subst (λ (i : Ids). Adds false (λ js. (pattern_kind_seen k l.kind).look l.id l.span js) i) (sym (fold-roll-Pat Ids Ids Ids I.pattern_step I.field_pattern_node I.pattern_node l))
      (subst (λ (l : Pat-F PatKind FieldPat Pat). Adds false (λ js. (pattern_kind_seen k l.kind).look l.id l.span js) (joined (node_id l.id) (I.pattern_kind_ids l.kind))) same (y.kind.1 y.id y.span)))

  pub pattern_grows : (x : Pat) → Adds false ((pattern_seen k x).look) (I.pattern_ids x)
  pattern_grows x = ind-Pat (KindGrows k) (FieldGrows k) (PatGrows k) kind_case field_case pat_case x

  pub params_grow : (list : List Param) → Adds false (each (map (param_look k) list)) (all (map I.param_ids list))
  params_grow list = adds_each (param_look k) I.param_ids list (λ q. pattern_grows q.pat)
