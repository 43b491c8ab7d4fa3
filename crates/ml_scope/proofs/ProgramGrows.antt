-- The references of a numbered program rise by their numbers.
use Rattle.std.proofs.Common.{◌≡◌, ℕ, zero, suc, ◌+◌, ◌<◌, ◌≤◌, List, [], ◌∷◌, ◌++◌, map, Some, Bool, true, false, refl, sym, ap, ◌∙◌, subst, arith, slice_get, append-nil, append_assoc}
use Rattle.std.proofs.lemmas.List.{map-append}
use Rattle.std.specs.List.{range_with_len}
use Rattle.ml_tree.specs.Rising.{Rises}
use Rattle.ml_tree.specs.declared.reference.Ref.{Ref}
use Rattle.ml_tree.specs.declared.reference.TyRef.{TyRef}
use Rattle.ml_tree.specs.declared.types.Decl.{Decl}
use Rattle.ml_tree.specs.declared.types.DeclBody.{DeclBody}
use Rattle.ml_tree.specs.declared.types.DeclBody.TheVariants.{Variant, Fields, Alias}
use Rattle.ml_tree.specs.declared.types.ConDecl.{ConDecl}
use Rattle.ml_tree.specs.declared.expr.Bind.{Bind}
use Rattle.ml_tree.specs.declared.program.Program.{Program}
use Rattle.ml_tree.specs.declared.program.Item.{Item}
use Rattle.ml_tree.specs.declared.program.ItemKind.{ItemKind}
use Rattle.ml_tree.specs.declared.program.ItemKind.TheVariants.{Types, Let}
use Rattle.oxml_base.specs.declared.span.Span.{Span}
use Rattle.ml_numbers.specs.Ids.{Ids, no_ids, node_id, joined, all, IsNumbered, program_ids}
use Rattle.ml_numbers.specs.Ids as I
use Rattle.ml_scope.specs.declared.found.Found.TheVariants as F
use Rattle.ml_scope.specs.declared.references.TypeNames.{TypeNames}
use Rattle.ml_scope.specs.declared.world.World.{World}
use Rattle.ml_scope.specs.Names.{Known, Env}
use Rattle.ml_scope.specs.Journal.{Journal, each}
use Rattle.ml_scope.specs.Types.{arg_look}
use Rattle.ml_scope.specs.Binding.{bound}
use Rattle.ml_scope.specs.Expressions.{bind_seen, bind_names, values_look, group_look}
use Rattle.ml_scope.specs.Captures.{open_number, opened, RiseFrom, OpensRise}
use Rattle.ml_scope.specs.Items.{con_look, field_look, body_look, lists, decl_look, variable, kind_item, item_look, start, with_types}
use Rattle.ml_scope.specs.Readings.{with_reference, references, with_type_reference, type_references}
use Rattle.ml_scope.specs.declared.scoping.Targets.{Targets}
use Rattle.ml_scope.specs.Resolving.{found_in, HasNames}
use Rattle.ml_scope.proofs.Grows.{Adds, adds_loud, Grows, Sub, nothing, leaves, keeps, numbers, node_number, type_number, adds_none, adds_then, adds_quiet, adds_each, adds_all, adds_twice, grows_none, grows_then}
use Rattle.ml_scope.proofs.TypeGrows.{type_grows, arg_grows}
use Rattle.ml_scope.proofs.ExpressionGrows.{bind_grows}

-- ---- items

module _ (k : Known) where
  con_grows : (c : ConDecl) → Adds false (con_look k c) (I.con_ids c)
  con_grows c = adds_each (arg_look k) I.arg_ids c.args (arg_grows k)

  body_grows : (body : DeclBody) → Adds false (body_look k body) (I.body_ids body)
  body_grows (Variant cs) = adds_each (con_look k) I.con_ids cs con_grows
  body_grows (Fields fs) = adds_each (field_look k) I.field_decl_ids fs (λ f. arg_grows k f.arg)
  body_grows (Alias ty) = type_grows k ty

  lists_grow : (vars : List Span) → Adds false (each (map lists vars)) no_ids
  lists_grow [] = adds_none no_ids
  lists_grow (v ∷ vars) = adds_then (adds_quiet (F.Lists v) refl refl refl no_ids) (lists_grow vars)

  decl_grows : (d : Decl) → Adds false (decl_look k d) (I.decl_ids d)
  decl_grows d = adds_then (adds_then (adds_then (adds_quiet F.Anew refl refl refl no_ids) (lists_grow d.vars)) (adds_twice k [] (map variable d.vars) no_ids)) (body_grows d.body)

  values_grow : (recursive : Bool) (env : Env) (bs : List Bind) → Adds true (values_look k recursive env (map (bind_seen k) bs)) (all (map I.bind_ids bs))
  values_grow recursive env bs = adds_all (bind_seen k) (λ b. b.look recursive env) I.bind_ids bs (λ b. bind_grows k b recursive env)

  group_grows : (top recursive : Bool) (env : Env) (bs : List Bind) → Adds true (group_look k top recursive (map (bind_seen k) bs) env) (all (map I.bind_ids bs))
  group_grows top true env bs = adds_then (adds_twice k [] (bind_names k (map (bind_seen k) bs)) no_ids) (values_grow true (bound k top (bind_names k (map (bind_seen k) bs)) env) bs)
  group_grows top false env bs = adds_then (adds_twice k [] (bind_names k (map (bind_seen k) bs)) no_ids) (values_grow false env bs)

kind_grows : (kind : ItemKind) (w : World) → Grows true (I.item_kind_ids kind) w.journal (kind_item kind w).journal
kind_grows (Types ds) w = (adds_loud (adds_each (decl_look (inner w ds)) I.decl_ids ds (decl_grows (inner w ds)))).by w.journal
  where
    inner : World → List Decl → Known
    inner w ds = record { text = w.known.text; constructors = w.known.constructors; fields = w.known.fields; types = with_types w.known.text w.next ds w.known.types }
kind_grows (Let recursive bs) w = (adds_then (adds_quiet F.Anew refl refl refl no_ids) (group_grows w.known true recursive w.values bs)).by w.journal

item_grows : (item : Item) (w : World) → Grows true (I.item_ids item) w.journal (item_look item w).journal
item_grows item w = grows_then true (node_id item.id) (I.item_kind_ids item.kind) w.journal w.journal (item_look item w).journal (grows_none true (node_id item.id) w.journal) (kind_grows item.kind w)

items_grow : (items : List Item) (w : World) → Grows true (all (map I.item_ids items)) w.journal (each (map item_look items) w).journal
items_grow [] w = grows_none true no_ids w.journal
items_grow (item ∷ items) w = grows_then true (I.item_ids item) (all (map I.item_ids items)) w.journal (item_look item w).journal (each (map item_look items) (item_look item w)).journal (item_grows item w) (items_grow items (item_look item w))

-- ---- the numbers of the references are those of the journal

reference_numbers : (js : Journal) (refs : List (ℕ × Ref)) → map (λ p. p.0) (each (map with_reference js) refs) ≡ map (λ p. p.0) refs ++ numbers node_number js
reference_numbers [] refs = sym (append-nil (map (λ p. p.0) refs))
reference_numbers (F.Names n t ∷ js) refs = reference_numbers js (refs ++ (n, t) ∷ []) ∙ ap (λ xs. xs ++ numbers node_number js) (map-append (λ p. p.0) refs ((n, t) ∷ [])) ∙ append_assoc (map (λ p. p.0) refs) (n ∷ []) (numbers node_number js)
reference_numbers (F.NamesType n d ∷ js) refs = reference_numbers js refs
reference_numbers (F.Variable n s ∷ js) refs = reference_numbers js refs
reference_numbers (F.Anew ∷ js) refs = reference_numbers js refs
reference_numbers (F.Lists s ∷ js) refs = reference_numbers js refs
reference_numbers (F.Offends x ∷ js) refs = reference_numbers js refs
reference_numbers (F.Itself n ∷ js) refs = reference_numbers js refs
reference_numbers (F.Opens n ∷ js) refs = reference_numbers js refs
reference_numbers (F.Closes ∷ js) refs = reference_numbers js refs

one_more : (list : List (ℕ × TyRef)) (id : ℕ) (target : TyRef) (later : List ℕ) (all_of : List ℕ) → all_of ≡ map (λ p. p.0) (list ++ (id, target) ∷ []) ++ later → all_of ≡ map (λ p. p.0) list ++ id ∷ later
one_more list id target later all_of e = e ∙ ap (λ xs. xs ++ later) (map-append (λ p. p.0) list ((id, target) ∷ [])) ∙ append_assoc (map (λ p. p.0) list) (id ∷ []) later

type_reference_numbers : (text : List ℕ) (js : Journal) (t : TypeNames) → map (λ p. p.0) (each (map (with_type_reference text) js) t).list ≡ map (λ p. p.0) t.list ++ numbers type_number js
type_reference_numbers text [] t = sym (append-nil (map (λ p. p.0) t.list))
type_reference_numbers text (F.Names n x ∷ js) t = type_reference_numbers text js t
type_reference_numbers text (F.NamesType n d ∷ js) t = one_more t.list n _ (numbers type_number js) _ (type_reference_numbers text js (with_type_reference text (F.NamesType n d) t))
type_reference_numbers text (F.Variable n s ∷ js) t = one_more t.list n _ (numbers type_number js) _ (type_reference_numbers text js (with_type_reference text (F.Variable n s) t))
type_reference_numbers text (F.Anew ∷ js) t = type_reference_numbers text js (with_type_reference text F.Anew t)
type_reference_numbers text (F.Lists s ∷ js) t = type_reference_numbers text js (with_type_reference text (F.Lists s) t)
type_reference_numbers text (F.Offends x ∷ js) t = type_reference_numbers text js t
type_reference_numbers text (F.Itself n ∷ js) t = type_reference_numbers text js t
type_reference_numbers text (F.Opens n ∷ js) t = type_reference_numbers text js t
type_reference_numbers text (F.Closes ∷ js) t = type_reference_numbers text js t

-- ---- some of the numbers that count up rise

above_range : (low count : ℕ) → RiseFrom low (range_with_len low count)
above_range low zero = tt
above_range low (suc count) = (omega arith, above_range (low + 1) count)

above_less : (low high : ℕ) (ns : List ℕ) → low ≤ high → RiseFrom high ns → RiseFrom low ns
above_less low high [] h a = tt
above_less low high (n ∷ ns) h a = (omega (arith, h, a.0), a.1)

above_sub : {xs ys : List ℕ} → Sub xs ys → (low : ℕ) → RiseFrom low ys → RiseFrom low xs
above_sub nothing low a = tt
above_sub (leaves {x} {xs} {ys} s) low a = above_less low (x + 1) xs (omega (arith, a.0)) (above_sub s (x + 1) a.1)
above_sub (keeps {x} {xs} {ys} s) low a = (a.0, above_sub s (x + 1) a.1)

above_get : {A : Type 0} (xs : List (ℕ × A)) (low : ℕ) → RiseFrom low (map (λ p. p.0) xs) → (j : ℕ) (q : ℕ × A) → slice_get xs j ≡ Some q → low ≤ q.0
above_get [] low a j q e = absurd cc
above_get (x ∷ xs) low a zero q e = let same : x ≡ q = cc in subst (λ r. low ≤ r.0) same a.0
above_get (x ∷ xs) low a (suc j) q e = omega (arith, a.0, above_get xs (x.0 + 1) a.1 j q e)

above_rises : {A : Type 0} (xs : List (ℕ × A)) (low : ℕ) → RiseFrom low (map (λ p. p.0) xs) → Rises xs
above_rises [] low a i j p q h e f = absurd cc
above_rises (x ∷ xs) low a zero zero p q h e f = absurd (omega (arith, h))
above_rises (x ∷ xs) low a zero (suc j) p q h e f = let same : x ≡ p = cc in subst (λ r. r.0 < q.0) same (let g = above_get xs (x.0 + 1) a.1 j q f in omega (arith, g))
above_rises (x ∷ xs) low a (suc i) zero p q h e f = absurd (omega (arith, h))
above_rises (x ∷ xs) low a (suc i) (suc j) p q h e f = above_rises xs (x.0 + 1) a.1 i j p q (omega (arith, h)) e f

found_grows : (text : List ℕ) (p : Program) → Grows true (program_ids p) [] (found_in text p.items)
found_grows text p = items_grow p.items (start text)

pub references_rise : (text : List ℕ) (p : Program) → IsNumbered p → Rises (references (found_in text p.items))
references_rise text p numbered =
    let g = (found_grows text p).nodes in
    let are : map (λ r. r.0) (references (found_in text p.items)) ≡ g.more = reference_numbers (found_in text p.items) [] ∙ g.is in
    let counts : RiseFrom 0 (program_ids p).nodes = subst (RiseFrom 0) (sym numbered.nodes) (above_range 0 p.nodes) in
    above_rises (references (found_in text p.items)) 0 (subst (RiseFrom 0) (sym are) (above_sub g.among 0 counts))

pub type_references_rise : (text : List ℕ) (p : Program) → IsNumbered p → Rises (type_references text (found_in text p.items))
type_references_rise text p numbered =
    let g = (found_grows text p).types in
    let are : map (λ r. r.0) (type_references text (found_in text p.items)) ≡ g.more = type_reference_numbers text (found_in text p.items) (record { variables = []; list = [] }) ∙ g.is in
    let counts : RiseFrom 0 (program_ids p).types = subst (RiseFrom 0) (sym numbered.types) (above_range 0 p.types) in
    above_rises (type_references text (found_in text p.items)) 0 (subst (RiseFrom 0) (sym are) (above_sub g.among 0 counts))

opened_numbers : (js : Journal) → opened js ≡ numbers open_number js
opened_numbers [] = refl
opened_numbers (f ∷ js) = ap (λ ns. open_number f ++ ns) (opened_numbers js)

pub opens_rise : (text : List ℕ) (p : Program) → IsNumbered p → OpensRise (found_in text p.items)
opens_rise text p numbered =
    let g = (found_grows text p).opens in
    let counts : RiseFrom 0 (program_ids p).nodes = subst (RiseFrom 0) (sym numbered.nodes) (above_range 0 p.nodes) in
    record { rise = subst (RiseFrom 0) (sym (opened_numbers (found_in text p.items) ∙ g.is)) (above_sub g.among 0 counts) }

pub refs_rise : (text : List ℕ) (p : Program) (t : Targets) → IsNumbered p → HasNames text p.items t → Rises t.refs
refs_rise text p t numbered h = subst Rises (sym h.refs) (references_rise text p numbered)

pub types_rise : (text : List ℕ) (p : Program) (t : Targets) → IsNumbered p → HasNames text p.items t → Rises t.types
types_rise text p t numbered h = subst Rises (sym h.types) (type_references_rise text p numbered)
