-- Abbreviations that reach themselves are the nodes of a graph that lie on a cycle.
use Rattle.std.proofs.Common.{◌≡◌, ℕ, zero, suc, ◌+◌, ◌-◌, ◌≤◌, ◌<◌, ◌⊎◌, inl, inr, List, [], ◌∷◌, map, Option, Some, None, slice_get, slice_index_or, Bool, true, false, cond, ◌↔◌, refl, sym, ap, ◌∙◌, subst, ⊎_elim, arith}
use Rattle.std.proofs.Math.Dec.{leb}
use Rattle.std.proofs.lemmas.Bool.{leb-true}
use Rattle.std.proofs.lemmas.Bool.Decides.{leb_tells}
use Rattle.std.specs.Prelude.{nat_le}
use Rattle.oxml_base.specs.declared.span.Span.{Span}
use Rattle.oxml_base.specs.declared.refusal.Refusal.{Refusal}
use Rattle.oxml_base.specs.declared.rule.Rule.TheVariants.{CyclicAbbreviation}
use Rattle.ml_tree.specs.declared.program.Item.{Item}
use Rattle.ml_tree.specs.declared.reference.TyRef.{TyRef}
use Rattle.ml_tree.specs.declared.reference.TyRef.TheVariants as r
use Rattle.graph_cycles.specs.Paths.{Edge, Path, by_edge, then_on}
use Rattle.ml_mentions.specs.declared.mentions.Mention.{Mention}
use Rattle.ml_mentions.specs.declared.mentions.Mention.TheVariants.{Named, Variable}
use Rattle.ml_mentions.specs.declared.outline.Outline.{Outline}
use Rattle.ml_mentions.specs.Lists.{all}
use Rattle.ml_decls.specs.Lists.{IsIn, find}
use Rattle.ml_mentions.specs.Programs.{declarations, body_mentions, abbreviates, outline}
use Rattle.ml_decls.specs.Offences.{Abbreviates, Reaches, at_once, through, IsCyclic}
use Rattle.ml_decls.specs.Verdicts.{where_wrong, written_number, target, targets, marked_from}
use Rattle.ml_decls.proofs.Members.{in_left, in_right, in_either, in_all_map, From, from_all_map, in_at, at_in, ImageAt, at_map, map_at, in_where, from_where, violation}

-- ---- edges

below_seven : (n b : ℕ) → IsIn b (cond (nat_le 7 n) ((n - 7) ∷ []) []) → n ≡ b + 7
below_seven n b h = by_test (nat_le 7 n) refl h
  where
    by_test : (t : Bool) → nat_le 7 n ≡ t → IsIn b (cond t ((n - 7) ∷ []) []) → n ≡ b + 7
    by_test true e (inl q) = let o : 7 ≤ n = leb-true 7 n e in omega arith
    by_test true e (inr q) = absurd q
    by_test false e q = absurd q

written_is : (o : Option TyRef) (b : ℕ) → IsIn b (written_number o) → o ≡ Some (r.Decl (b + 7))
written_is None b h = absurd h
written_is (Some (r.Var n)) b h = absurd h
written_is (Some (r.Decl n)) b h = ap (λ z. Some (r.Decl z)) (below_seven n b h)

seven_up : (b : ℕ) → IsIn b (cond (nat_le 7 (b + 7)) ((b + 7 - 7) ∷ []) [])
seven_up b =
    ⊎_elim
    (λ (q : (leb 7 (b + 7) ≡ true) × (7 ≤ b + 7)). let n : b ≡ b + 7 - 7 = omega arith in subst (λ (t : Bool). IsIn b (cond t ((b + 7 - 7) ∷ []) [])) (sym q.0) (inl n))
    (λ (q : (leb 7 (b + 7) ≡ false) × (b + 7 < 7)). let o : b + 7 < 7 = q.1 in absurd (omega arith))
    (leb_tells 7 (b + 7))

written_in : (o : Option TyRef) (b : ℕ) → o ≡ Some (r.Decl (b + 7)) → IsIn b (written_number o)
written_in o b e = rw e (seven_up b)

-- a name that gives an edge
record Naming (types : List (ℕ × TyRef)) (ms : List Mention) (b : ℕ) : Type 0 where
  pub id : ℕ
  pub whole : Span
  pub arguments : ℕ
  pub stands : IsIn (Named id whole arguments) ms
  pub names : find types id ≡ Some (r.Decl (b + 7))

mentioned : (types : List (ℕ × TyRef)) (ms : List Mention) (b : ℕ) → IsIn b (all (map (target types) ms)) → Naming types ms b
mentioned types ms b h = by_item f.item f.stands f.gives
  where
    f : From (target types) ms b
    f = from_all_map (target types) b ms h

    by_item : (m : Mention) → IsIn m ms → IsIn b (target types m) → Naming types ms b
    by_item (Named id whole n) s g = record { id = id; whole = whole; arguments = n; stands = s; names = written_is (find types id) b g }
    by_item (Variable id place) s g = absurd g

-- the successors of a declaration
record IsAlias (types : List (ℕ × TyRef)) (body_is : Bool) (ms : List Mention) (b : ℕ) : Type 0 where
  pub is : body_is ≡ true
  pub mention : Naming types ms b

alias : (types : List (ℕ × TyRef)) (t : Bool) (ms : List Mention) (b : ℕ) → IsIn b (cond t (all (map (target types) ms)) []) → IsAlias types t ms b
alias types true ms b h = record { is = refl; mention = mentioned types ms b h }
alias types false ms b h = absurd h

pub edge_abbreviates : (types : List (ℕ × TyRef)) (items : List Item) (a b : ℕ) → Edge (map (targets types) (map outline (declarations items))) a b → Abbreviates types items (a + 7) (b + 7)
edge_abbreviates types items a b e =
    let o : ImageAt (targets types) (map outline (declarations items)) a e.successors = at_map (targets types) (map outline (declarations items)) a e.successors e.has in
    let d : ImageAt outline (declarations items) a o.item = at_map outline (declarations items) a o.item o.stands in
    let successors : e.successors ≡ targets types (outline d.item) = o.is ∙ ap (targets types) d.is in
    let b_in : IsIn b (targets types (outline d.item)) = subst (λ (z : List ℕ). IsIn b z) successors (in_at e.successors e.place b e.leads) in
    let m : IsAlias types (abbreviates d.item.body) (body_mentions d.item.body) b = alias types (abbreviates d.item.body) (body_mentions d.item.body) b b_in in
    record { place = a; declaration = d.item; id = m.mention.id; whole = m.mention.whole; arguments = m.mention.arguments; number = refl; declared = d.stands; is_abbreviation = m.is; stands = m.mention.stands; names = m.mention.names }

alias_in : (types : List (ℕ × TyRef)) (t : Bool) (ms : List Mention) (b id n : ℕ) (whole : Span) → t ≡ true → IsIn (Named id whole n) ms → find types id ≡ Some (r.Decl (b + 7)) → IsIn b (cond t (all (map (target types) ms)) [])
alias_in types true ms b id n whole e s q = in_all_map (target types) (Named id whole n) b ms s (written_in (find types id) b q)
alias_in types false ms b id n whole e s q = absurd cc

pub abbreviates_edge : (types : List (ℕ × TyRef)) (items : List Item) (a b : ℕ) → Abbreviates types items (a + 7) (b + 7) → Edge (map (targets types) (map outline (declarations items))) a b
abbreviates_edge types items a b w =
    let same : w.place ≡ a = omega (arith, w.number) in
    let declared : slice_get (declarations items) a ≡ Some w.declaration = subst (λ (z : ℕ). slice_get (declarations items) z ≡ Some w.declaration) same w.declared in
    let has : slice_get (map (targets types) (map outline (declarations items))) a ≡ Some (targets types (outline w.declaration)) = map_at (targets types) (map outline (declarations items)) a (outline w.declaration) (map_at outline (declarations items) a w.declaration declared) in
    let b_in : IsIn b (targets types (outline w.declaration)) = alias_in types (abbreviates w.declaration.body) (body_mentions w.declaration.body) b w.id w.arguments w.whole w.is_abbreviation w.stands w.names in
    let k : (i : ℕ) × (slice_get (targets types (outline w.declaration)) i ≡ Some b) = at_in (targets types (outline w.declaration)) b b_in in
    record { successors = targets types (outline w.declaration); place = k.0; has = has; leads = k.1 }

-- ---- paths

pub path_reaches : (types : List (ℕ × TyRef)) (items : List Item) (a b : ℕ) → Path (map (targets types) (map outline (declarations items))) a b → Reaches types items (a + 7) (b + 7)
path_reaches types items a b (by_edge _ _ e) = at_once (a + 7) (b + 7) (edge_abbreviates types items a b e)
path_reaches types items a b (then_on _ m _ e p) = through (a + 7) (m + 7) (b + 7) (edge_abbreviates types items a m e) (path_reaches types items m b p)

-- what reaches something is a written declaration
written_first : (types : List (ℕ × TyRef)) (items : List Item) (d e : ℕ) → Reaches types items d e → (a : ℕ) × (d ≡ a + 7)
written_first types items d e (at_once _ _ w) = (w.place, w.number)
written_first types items d e (through _ m _ w p) = (w.place, w.number)

pub reaches_path : (types : List (ℕ × TyRef)) (items : List Item) (d e a b : ℕ) → d ≡ a + 7 → e ≡ b + 7 → Reaches types items d e → Path (map (targets types) (map outline (declarations items))) a b
reaches_path types items d e a b p q (at_once _ _ w) = by_edge a b (abbreviates_edge types items a b (subst (λ (z : ℕ). Abbreviates types items z (b + 7)) p (subst (λ (z : ℕ). Abbreviates types items d z) q w)))
reaches_path types items d e a b p q (through _ m _ w rest) =
    let f : (k : ℕ) × (m ≡ k + 7) = written_first types items m e rest in
    then_on a f.0 b (abbreviates_edge types items a f.0 (subst (λ (z : ℕ). Abbreviates types items z (f.0 + 7)) p (subst (λ (z : ℕ). Abbreviates types items d z) f.1 w))) (reaches_path types items m e f.0 b f.1 q rest)

-- ---- the marked ones

index_some : (marks : List Bool) (i : ℕ) → slice_index_or marks i false ≡ true → slice_get marks i ≡ Some true
index_some [] i e = absurd cc
index_some (m ∷ marks) zero e = ap Some e
index_some (m ∷ marks) (suc i) e = index_some marks i e

some_index : (marks : List Bool) (i : ℕ) → slice_get marks i ≡ Some true → slice_index_or marks i false ≡ true
some_index [] i e = absurd cc
some_index (m ∷ marks) zero e = let h : m ≡ true = cc in h
some_index (m ∷ marks) (suc i) e = some_index marks i e

record Marked (marks : List Bool) (first : ℕ) (os : List Outline) (name : Span) : Type 0 where
  pub place : ℕ
  pub item : Outline
  pub stands : slice_get os place ≡ Some item
  pub is : item.name ≡ name
  pub marked : slice_index_or marks (first + place) false ≡ true

marked_sound : (marks : List Bool) (first : ℕ) (os : List Outline) (refusal : Refusal) → IsIn refusal (marked_from marks first os) → (refusal ≡ violation CyclicAbbreviation refusal.span) × Marked marks first os refusal.span
marked_sound marks first [] refusal h = absurd h
marked_sound marks first (o ∷ os) refusal h = by_side (λ u. marked_sound marks (suc first) os refusal u) (in_either refusal (where_wrong (slice_index_or marks first false) CyclicAbbreviation o.name) (marked_from marks (suc first) os) h)
  where
    here : (slice_index_or marks first false ≡ true) × (refusal ≡ violation CyclicAbbreviation o.name) → (refusal ≡ violation CyclicAbbreviation refusal.span) × Marked marks first (o ∷ os) refusal.span
    here u =
        let s : refusal.span ≡ o.name = ap (λ (z : Refusal). z.span) u.1 in
        let n : first + 0 ≡ first = omega arith in
        (u.1 ∙ ap (violation CyclicAbbreviation) (sym s), record { place = 0; item = o; stands = refl; is = sym s; marked = ap (λ z. slice_index_or marks z false) n ∙ u.0 })

    by_side : (IsIn refusal (marked_from marks (suc first) os) → (refusal ≡ violation CyclicAbbreviation refusal.span) × Marked marks (suc first) os refusal.span) → IsIn refusal (where_wrong (slice_index_or marks first false) CyclicAbbreviation o.name) ⊎ IsIn refusal (marked_from marks (suc first) os) → (refusal ≡ violation CyclicAbbreviation refusal.span) × Marked marks first (o ∷ os) refusal.span
    by_side rest (inl u) = here (from_where (slice_index_or marks first false) CyclicAbbreviation o.name refusal u)
    by_side rest (inr u) =
        let m : (refusal ≡ violation CyclicAbbreviation refusal.span) × Marked marks (suc first) os refusal.span = rest u in
        let n : first + suc m.1.place ≡ suc first + m.1.place = omega arith in
        (m.0, record { place = suc m.1.place; item = m.1.item; stands = m.1.stands; is = m.1.is; marked = ap (λ z. slice_index_or marks z false) n ∙ m.1.marked })

marked_complete : (marks : List Bool) (first : ℕ) (os : List Outline) (place : ℕ) (o : Outline) → slice_get os place ≡ Some o → slice_index_or marks (first + place) false ≡ true → IsIn (violation CyclicAbbreviation o.name) (marked_from marks first os)
marked_complete marks first [] place o e m = absurd cc
marked_complete marks first (x ∷ os) zero o e m =
    let same : x ≡ o = cc in
    let n : first ≡ first + 0 = omega arith in
    in_left (violation CyclicAbbreviation o.name) (where_wrong (slice_index_or marks first false) CyclicAbbreviation x.name) (marked_from marks (suc first) os)
    (subst (λ (z : Outline). IsIn (violation CyclicAbbreviation o.name) (where_wrong (slice_index_or marks first false) CyclicAbbreviation z.name)) (sym same) (in_where (slice_index_or marks first false) CyclicAbbreviation o.name (ap (λ z. slice_index_or marks z false) n ∙ m)))
marked_complete marks first (x ∷ os) (suc place) o e m =
    let n : suc first + place ≡ first + suc place = omega arith in
    in_right (violation CyclicAbbreviation o.name) (where_wrong (slice_index_or marks first false) CyclicAbbreviation x.name) (marked_from marks (suc first) os)
    (marked_complete marks (suc first) os place o e (ap (λ z. slice_index_or marks z false) n ∙ m))

-- ---- the two together

pub cyclic_sound : (types : List (ℕ × TyRef)) (items : List Item) (marks : List Bool) (refusal : Refusal) → ((v : ℕ) → (slice_get marks v ≡ Some true) ↔ Path (map (targets types) (map outline (declarations items))) v v) → IsIn refusal (marked_from marks 0 (map outline (declarations items))) → (refusal ≡ violation CyclicAbbreviation refusal.span) × IsCyclic types items refusal.span
cyclic_sound types items marks refusal exact h =
    let m : (refusal ≡ violation CyclicAbbreviation refusal.span) × Marked marks 0 (map outline (declarations items)) refusal.span = marked_sound marks 0 (map outline (declarations items)) refusal h in
    let d : ImageAt outline (declarations items) m.1.place m.1.item = at_map outline (declarations items) m.1.place m.1.item m.1.stands in
    let n : 0 + m.1.place ≡ m.1.place = omega arith in
    let marked : slice_get marks m.1.place ≡ Some true = index_some marks m.1.place (ap (λ z. slice_index_or marks z false) (sym n) ∙ m.1.marked) in
    (m.0, record { place = m.1.place; declaration = d.item; declared = d.stands; at_name = ap (λ (z : Outline). z.name) (sym d.is) ∙ m.1.is; itself = path_reaches types items m.1.place m.1.place ((exact m.1.place).0 marked) })

pub cyclic_complete : (types : List (ℕ × TyRef)) (items : List Item) (marks : List Bool) (name : Span) → ((v : ℕ) → (slice_get marks v ≡ Some true) ↔ Path (map (targets types) (map outline (declarations items))) v v) → IsCyclic types items name → IsIn (violation CyclicAbbreviation name) (marked_from marks 0 (map outline (declarations items)))
cyclic_complete types items marks name exact c =
    let path : Path (map (targets types) (map outline (declarations items))) c.place c.place = reaches_path types items (c.place + 7) (c.place + 7) c.place c.place refl refl c.itself in
    let n : 0 + c.place ≡ c.place = omega arith in
    let marked : slice_index_or marks (0 + c.place) false ≡ true = ap (λ z. slice_index_or marks z false) n ∙ some_index marks c.place ((exact c.place).1 path) in
    subst (λ (z : Span). IsIn (violation CyclicAbbreviation z) (marked_from marks 0 (map outline (declarations items)))) c.at_name (marked_complete marks 0 (map outline (declarations items)) c.place (outline c.declaration) (map_at outline (declarations items) c.place c.declaration c.declared) marked)
