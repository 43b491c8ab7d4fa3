-- The list of violations has exactly the violations.
use Rattle.std.proofs.Common.{◌≡◌, ℕ, ◌⊎◌, inl, inr, List, [], ◌∷◌, ◌++◌, map, None, refl, sym, ap, ◌∙◌, subst, append_assoc}
use Rattle.oxml_base.specs.declared.span.Span.{Span}
use Rattle.oxml_base.specs.declared.refusal.Refusal.{Refusal}
use Rattle.oxml_base.specs.declared.rule.Rule.{Rule}
use Rattle.oxml_base.specs.declared.rule.Rule.TheVariants as rule
use Rattle.ml_tree.specs.declared.types.Decl.{Decl}
use Rattle.ml_tree.specs.declared.program.Item.{Item}
use Rattle.ml_tree.specs.declared.reference.TyRef.{TyRef}
use Rattle.ml_mentions.specs.declared.mentions.Mention.{Mention}
use Rattle.ml_mentions.specs.declared.outline.Outline.{Outline}
use Rattle.ml_mentions.specs.Lists.{all}
use Rattle.ml_decls.specs.Lists.{IsIn}
use Rattle.ml_mentions.specs.Programs.{declarations, annotations, type_names, constructor_names, field_names, body_constructors, body_fields, outline}
use Rattle.ml_decls.specs.Offences.{Violates, Offends, IsRepeated, IsDeclaredTwice, IsCyclic}
use Rattle.ml_decls.specs.Verdicts.{twice, all_twice, outline_counts, outline_verdicts, verdicts, references, marked_from, ReportsCycles, IsAllOf}
use Rattle.ml_decls.proofs.Members.{in_left, in_right, in_either, violation}
use Rattle.ml_decls.proofs.Referring.{references_sound, wrong_count_listed, unlisted_listed, Rule30, Rule31}
use Rattle.ml_decls.proofs.Repeats.{repeated_sound, repeated_complete}
use Rattle.ml_decls.proofs.Rings.{cyclic_sound, cyclic_complete}

-- a violation by its rule and its place
offends_by : (text : List ℕ) (types : List (ℕ × TyRef)) (items : List Item) (kind : Rule) (r : Refusal) → r ≡ violation kind r.span → Violates text types items kind r.span → Offends text types items r
offends_by text types items kind r e v = let same : kind ≡ r.rule = sym (ap (λ (z : Refusal). z.rule) e) in subst (λ (z : Rule). Violates text types items z r.span) same v

-- ---- the names

type_names_map : (ds : List Decl) → map (λ (o : Outline). o.name) (map outline ds) ≡ type_names ds
type_names_map [] = refl
type_names_map (d ∷ ds) = ap (λ z. d.name ∷ z) (type_names_map ds)

constructor_names_map : (ds : List Decl) → all (map (λ (o : Outline). o.constructors) (map outline ds)) ≡ constructor_names ds
constructor_names_map [] = refl
constructor_names_map (d ∷ ds) = ap (λ z. body_constructors d.body ++ z) (constructor_names_map ds)

field_names_map : (ds : List Decl) → all (map (λ (o : Outline). o.fields) (map outline ds)) ≡ field_names ds
field_names_map [] = refl
field_names_map (d ∷ ds) = ap (λ z. body_fields d.body ++ z) (field_names_map ds)

-- the three lists by the names in the tree
abbrev named : List ℕ → List Decl → List Refusal
named text ds = twice text [] (type_names ds) ++ twice text [] (constructor_names ds) ++ twice text [] (field_names ds)

same_twice : (text : List ℕ) (ds : List Decl) → all_twice text (map outline ds) ≡ named text ds
same_twice text ds = rw (type_names_map ds, constructor_names_map ds, field_names_map ds) refl

named_sound : (text : List ℕ) (ds : List Decl) (r : Refusal) → IsIn r (named text ds) → (r ≡ violation rule.DeclaredTwice r.span) × IsDeclaredTwice text ds r.span
named_sound text ds r h = by_side (in_either r (twice text [] (type_names ds) ++ twice text [] (constructor_names ds)) (twice text [] (field_names ds)) h)
  where
    by_first : IsIn r (twice text [] (type_names ds)) ⊎ IsIn r (twice text [] (constructor_names ds)) → (r ≡ violation rule.DeclaredTwice r.span) × IsDeclaredTwice text ds r.span
    by_first (inl u) = let s : (r ≡ violation rule.DeclaredTwice r.span) × IsRepeated text (type_names ds) r.span = repeated_sound text (type_names ds) r u in (s.0, inl s.1)
    by_first (inr u) = let s : (r ≡ violation rule.DeclaredTwice r.span) × IsRepeated text (constructor_names ds) r.span = repeated_sound text (constructor_names ds) r u in (s.0, inr (inl s.1))

    by_side : IsIn r (twice text [] (type_names ds) ++ twice text [] (constructor_names ds)) ⊎ IsIn r (twice text [] (field_names ds)) → (r ≡ violation rule.DeclaredTwice r.span) × IsDeclaredTwice text ds r.span
    by_side (inl u) = by_first (in_either r (twice text [] (type_names ds)) (twice text [] (constructor_names ds)) u)
    by_side (inr u) = let s : (r ≡ violation rule.DeclaredTwice r.span) × IsRepeated text (field_names ds) r.span = repeated_sound text (field_names ds) r u in (s.0, inr (inr s.1))

named_complete : (text : List ℕ) (ds : List Decl) (name : Span) → IsDeclaredTwice text ds name → IsIn (violation rule.DeclaredTwice name) (named text ds)
named_complete text ds name (inl h) = in_left (violation rule.DeclaredTwice name) (twice text [] (type_names ds) ++ twice text [] (constructor_names ds)) (twice text [] (field_names ds)) (in_left (violation rule.DeclaredTwice name) (twice text [] (type_names ds)) (twice text [] (constructor_names ds)) (repeated_complete text (type_names ds) name h))
named_complete text ds name (inr (inl h)) = in_left (violation rule.DeclaredTwice name) (twice text [] (type_names ds) ++ twice text [] (constructor_names ds)) (twice text [] (field_names ds)) (in_right (violation rule.DeclaredTwice name) (twice text [] (type_names ds)) (twice text [] (constructor_names ds)) (repeated_complete text (constructor_names ds) name h))
named_complete text ds name (inr (inr h)) = in_right (violation rule.DeclaredTwice name) (twice text [] (type_names ds) ++ twice text [] (constructor_names ds)) (twice text [] (field_names ds)) (repeated_complete text (field_names ds) name h)

-- ---- all

module _ (text : List ℕ) (types : List (ℕ × TyRef)) (items : List Item) (marks : List Refusal) where
  abbrev whole : List Refusal
  whole = references types (map outline (declarations items)) items ++ named text (declarations items) ++ marks

  in_references : (r : Refusal) → IsIn r (references types (map outline (declarations items)) items) → IsIn r whole
  in_references r h = in_left r (references types (map outline (declarations items)) items ++ named text (declarations items)) marks (in_left r (references types (map outline (declarations items)) items) (named text (declarations items)) h)

  in_named : (r : Refusal) → IsIn r (named text (declarations items)) → IsIn r whole
  in_named r h = in_left r (references types (map outline (declarations items)) items ++ named text (declarations items)) marks (in_right r (references types (map outline (declarations items)) items) (named text (declarations items)) h)

  in_marks : (r : Refusal) → IsIn r marks → IsIn r whole
  in_marks r h = in_right r (references types (map outline (declarations items)) items ++ named text (declarations items)) marks h

  by_part : (r : Refusal) → IsIn r whole → IsIn r (references types (map outline (declarations items)) items) ⊎ (IsIn r (named text (declarations items)) ⊎ IsIn r marks)
  by_part r h = by_side (in_either r (references types (map outline (declarations items)) items ++ named text (declarations items)) marks h)
    where
      by_first : IsIn r (references types (map outline (declarations items)) items) ⊎ IsIn r (named text (declarations items)) → IsIn r (references types (map outline (declarations items)) items) ⊎ (IsIn r (named text (declarations items)) ⊎ IsIn r marks)
      by_first (inl u) = inl u
      by_first (inr u) = inr (inl u)

      by_side : IsIn r (references types (map outline (declarations items)) items ++ named text (declarations items)) ⊎ IsIn r marks → IsIn r (references types (map outline (declarations items)) items) ⊎ (IsIn r (named text (declarations items)) ⊎ IsIn r marks)
      by_side (inl u) = by_first (in_either r (references types (map outline (declarations items)) items) (named text (declarations items)) u)
      by_side (inr u) = inr (inr u)

by_reference : (text : List ℕ) (types : List (ℕ × TyRef)) (items : List Item) (r : Refusal) → Rule30 types items r ⊎ Rule31 types items r → Offends text types items r
by_reference text types items r (inl v) = offends_by text types items rule.ArgumentCount r v.0 v.1
by_reference text types items r (inr v) = offends_by text types items rule.UnboundVariable r v.0 v.1

whole_sound : (text : List ℕ) (types : List (ℕ × TyRef)) (items : List Item) (start list : List Refusal) (c : ReportsCycles types (map outline (declarations items)) start list) (r : Refusal) → IsIn r (whole text types items (marked_from c.marks 0 (map outline (declarations items)))) → Offends text types items r
whole_sound text types items start list c r h = offends (by_part text types items (marked_from c.marks 0 (map outline (declarations items))) r h)
  where
    offends : IsIn r (references types (map outline (declarations items)) items) ⊎ (IsIn r (named text (declarations items)) ⊎ IsIn r (marked_from c.marks 0 (map outline (declarations items)))) → Offends text types items r
    offends (inl u) = by_reference text types items r (references_sound types items r u)
    offends (inr (inl u)) = let v : (r ≡ violation rule.DeclaredTwice r.span) × IsDeclaredTwice text (declarations items) r.span = named_sound text (declarations items) r u in offends_by text types items rule.DeclaredTwice r v.0 v.1
    offends (inr (inr u)) = let v : (r ≡ violation rule.CyclicAbbreviation r.span) × IsCyclic types items r.span = cyclic_sound types items c.marks r c.exact u in offends_by text types items rule.CyclicAbbreviation r v.0 v.1

-- by the rule of a violation
whole_complete : (text : List ℕ) (types : List (ℕ × TyRef)) (items : List Item) (start list : List Refusal) (c : ReportsCycles types (map outline (declarations items)) start list) (kind : Rule) (span : Span) → Violates text types items kind span → IsIn (violation kind span) (whole text types items (marked_from c.marks 0 (map outline (declarations items))))
whole_complete text types items start list c rule.ArgumentCount span v = in_references text types items (marked_from c.marks 0 (map outline (declarations items))) (violation rule.ArgumentCount span) (wrong_count_listed types items span v)
whole_complete text types items start list c rule.UnboundVariable span v = in_references text types items (marked_from c.marks 0 (map outline (declarations items))) (violation rule.UnboundVariable span) (unlisted_listed types items span v)
whole_complete text types items start list c rule.DeclaredTwice span v = in_named text types items (marked_from c.marks 0 (map outline (declarations items))) (violation rule.DeclaredTwice span) (named_complete text (declarations items) span v)
whole_complete text types items start list c rule.CyclicAbbreviation span v = in_marks text types items (marked_from c.marks 0 (map outline (declarations items))) (violation rule.CyclicAbbreviation span) (cyclic_complete types items c.marks span c.exact v)
whole_complete text types items start list c _ span v = absurd v

-- ---- what the parts add

pub references_added : (types : List (ℕ × TyRef)) (os : List Outline) (items : List Item) (old middle new : List Refusal) (one other : List ℕ) (ms : List Mention) → one ≡ outline_counts os → other ≡ outline_counts os → ms ≡ annotations items → middle ≡ old ++ all (map (outline_verdicts types one) os) → new ≡ middle ++ verdicts types other None ms → new ≡ old ++ references types os items
references_added types os items old middle new one other ms a b m e f =
    let first : middle ≡ old ++ all (map (outline_verdicts types (outline_counts os)) os) = e ∙ ap (λ (z : List ℕ). old ++ all (map (outline_verdicts types z) os)) a in
    f
    ∙ ap (λ (z : List Refusal). z ++ verdicts types other None ms) first
    ∙ ap (λ (z : List ℕ). old ++ all (map (outline_verdicts types (outline_counts os)) os) ++ verdicts types z None ms) b
    ∙ ap (λ (z : List Mention). old ++ all (map (outline_verdicts types (outline_counts os)) os) ++ verdicts types (outline_counts os) None z) m
    ∙ append_assoc old (all (map (outline_verdicts types (outline_counts os)) os)) (verdicts types (outline_counts os) None (annotations items))

pub names_added : (text : List ℕ) (os : List Outline) (old first second new : List Refusal) (ts cs fs : List Span) → ts ≡ map (λ (o : Outline). o.name) os → cs ≡ all (map (λ (o : Outline). o.constructors) os) → fs ≡ all (map (λ (o : Outline). o.fields) os) → first ≡ old ++ twice text [] ts → second ≡ first ++ twice text [] cs → new ≡ second ++ twice text [] fs → new ≡ old ++ all_twice text os
names_added text os old first second new ts cs fs t c f a b d =
    d
    ∙ ap (λ (z : List Refusal). z ++ twice text [] fs) (b ∙ ap (λ (z : List Refusal). z ++ twice text [] cs) a)
    ∙ ap (λ (z : List Span). old ++ twice text [] z ++ twice text [] cs ++ twice text [] fs) t
    ∙ ap (λ (z : List Span). old ++ twice text [] (map (λ (o : Outline). o.name) os) ++ twice text [] z ++ twice text [] fs) c
    ∙ ap (λ (z : List Span). old ++ twice text [] (map (λ (o : Outline). o.name) os) ++ twice text [] (all (map (λ (o : Outline). o.constructors) os)) ++ twice text [] z) f
    ∙ ap (λ (z : List Refusal). z ++ twice text [] (all (map (λ (o : Outline). o.fields) os))) (append_assoc old (twice text [] (map (λ (o : Outline). o.name) os)) (twice text [] (all (map (λ (o : Outline). o.constructors) os))))
    ∙ append_assoc old (twice text [] (map (λ (o : Outline). o.name) os) ++ twice text [] (all (map (λ (o : Outline). o.constructors) os))) (twice text [] (all (map (λ (o : Outline). o.fields) os)))

-- what the three parts add is all
pub all_violations : (text : List ℕ) (types : List (ℕ × TyRef)) (items : List Item) (os1 os2 os3 : List Outline) (nothing first second list : List Refusal) → os1 ≡ map outline (declarations items) → os2 ≡ map outline (declarations items) → os3 ≡ map outline (declarations items) → nothing ≡ [] → first ≡ nothing ++ references types os1 items → second ≡ first ++ all_twice text os2 → ReportsCycles types os3 second list → IsAllOf text types items list
all_violations text types items os1 os2 os3 nothing first second list e1 e2 e3 en ef es c =
    let cycles : ReportsCycles types (map outline (declarations items)) second list = subst (λ (z : List Outline). ReportsCycles types z second list) e3 c in
    let ef' : first ≡ references types (map outline (declarations items)) items = ef ∙ ap (λ (z : List Refusal). z ++ references types os1 items) en ∙ ap (λ (z : List Outline). references types z items) e1 in
    let es' : second ≡ references types (map outline (declarations items)) items ++ named text (declarations items) = es ∙ ap (λ (z : List Refusal). z ++ all_twice text os2) ef' ∙ ap (λ (z : List Refusal). references types (map outline (declarations items)) items ++ z) (ap (all_twice text) e2 ∙ same_twice text (declarations items)) in
    let is : list ≡ whole text types items (marked_from cycles.marks 0 (map outline (declarations items))) = cycles.added ∙ ap (λ (z : List Refusal). z ++ marked_from cycles.marks 0 (map outline (declarations items))) es' in
    record {
      sound = λ r h. whole_sound text types items second list cycles r (subst (λ (z : List Refusal). IsIn r z) is h);
      complete = λ r v. subst (λ (z : List Refusal). IsIn r z) (sym is) (whole_complete text types items second list cycles r.rule r.span v);
    }
