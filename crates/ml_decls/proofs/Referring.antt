-- The violations of names and variables of types are exactly those that are listed.
use Rattle.std.proofs.Common.{◌≡◌, ◌≢◌, ℕ, ◌≤◌, ◌<◌, ◌⊎◌, inl, inr, List, [], ◌∷◌, map, length, Option, Some, None, slice_get, true, false, not, refl, sym, ap, ◌∙◌, subst, ⊎_elim, arith}
use Rattle.std.specs.Prelude.{nat_eq, nat_le}
use Rattle.oxml_base.specs.declared.span.Span.{Span}
use Rattle.oxml_base.specs.declared.refusal.Refusal.{Refusal}
use Rattle.oxml_base.specs.declared.rule.Rule.TheVariants.{ArgumentCount, UnboundVariable}
use Rattle.ml_tree.specs.declared.types.Decl.{Decl}
use Rattle.ml_tree.specs.declared.program.Item.{Item}
use Rattle.ml_tree.specs.declared.reference.TyRef.{TyRef}
use Rattle.ml_tree.specs.declared.reference.TyRef.TheVariants as r
use Rattle.ml_mentions.specs.declared.mentions.Mention.{Mention}
use Rattle.ml_mentions.specs.declared.mentions.Mention.TheVariants.{Named, Variable}
use Rattle.ml_mentions.specs.declared.outline.Outline.{Outline}
use Rattle.ml_mentions.specs.Lists.{all}
use Rattle.ml_decls.specs.Lists.{IsIn, find}
use Rattle.ml_mentions.specs.Programs.{declarations, annotations, all_mentions, body_mentions, variable_counts, outline}
use Rattle.ml_decls.specs.Offences.{IsWrongCount, IsUnlisted}
use Rattle.ml_decls.specs.Verdicts.{where_wrong, differs, miscounts, is_unlisted, verdict, verdicts, outline_verdicts, outline_counts, references}
use Rattle.ml_decls.proofs.Members.{in_left, in_right, in_either, in_all_map, From, from_all_map, in_map, Image, from_map, in_where, from_where, violation}
use Rattle.std.proofs.Math.Dec.{eqb, leb}
use Rattle.std.proofs.lemmas.Bool.{leb-true}
use Rattle.std.proofs.lemmas.Bool.Decides.{eqb_tells, leb_tells}

-- ---- what a test means

pub record WrongCount (counts : List ℕ) (target : Option TyRef) (given : ℕ) : Type 0 where
  pub declaration : ℕ
  pub variables : ℕ
  pub names : target ≡ Some (r.Decl declaration)
  pub declared : slice_get counts declaration ≡ Some variables
  pub differ : given ≢ variables

not_equal : (v given : ℕ) → not (nat_eq v given) ≡ true → given ≢ v
not_equal v given e h =
    ⊎_elim
    (λ (q : (eqb v given ≡ true) × (v ≡ given)). let z : not (eqb v given) ≡ false = ap not q.0 in let no' : true ≡ false = sym e ∙ z in absurd cc)
    (λ (q : (eqb v given ≡ false) × (v ≡ given → ⊥)). q.1 (sym h))
    (eqb_tells v given)

is_different : (v given : ℕ) → (given ≡ v → ⊥) → not (nat_eq v given) ≡ true
is_different v given h =
    ⊎_elim
    (λ (q : (eqb v given ≡ true) × (v ≡ given)). absurd (h (sym q.1)))
    (λ (q : (eqb v given ≡ false) × (v ≡ given → ⊥)). ap not q.0)
    (eqb_tells v given)

differs_means : (o : Option ℕ) (given : ℕ) → differs o given ≡ true → (v : ℕ) × (o ≡ Some v) × (given ≢ v)
differs_means None given e = absurd cc
differs_means (Some v) given e = (v, refl, not_equal v given e)

miscounts_means : (counts : List ℕ) (target : Option TyRef) (given : ℕ) → miscounts counts target given ≡ true → WrongCount counts target given
miscounts_means counts None given e = absurd cc
miscounts_means counts (Some (r.Var n)) given e = absurd cc
miscounts_means counts (Some (r.Decl n)) given e = let d : (v : ℕ) × (slice_get counts n ≡ Some v) × (given ≢ v) = differs_means (slice_get counts n) given e in record { declaration = n; variables = d.0; names = refl; declared = d.1; differ = d.2 }

miscounts_is : (counts : List ℕ) (target : Option TyRef) (given declaration variables : ℕ) → target ≡ Some (r.Decl declaration) → slice_get counts declaration ≡ Some variables → (given ≡ variables → ⊥) → miscounts counts target given ≡ true
miscounts_is counts target given d v t e h = ap (λ x. miscounts counts x given) t ∙ ap (λ x. differs x given) e ∙ is_different v given h

unlisted_means : (count : ℕ) (target : Option TyRef) → is_unlisted (Some count) target ≡ true → (n : ℕ) × (target ≡ Some (r.Var n)) × (count ≤ n)
unlisted_means count None e = absurd cc
unlisted_means count (Some (r.Decl n)) e = absurd cc
unlisted_means count (Some (r.Var n)) e = let h : count ≤ n = leb-true count n e in (n, refl, h)

is_behind : (count n : ℕ) → count ≤ n → nat_le count n ≡ true
is_behind count n h =
    ⊎_elim
    (λ (q : (leb count n ≡ true) × (count ≤ n)). q.0)
    (λ (q : (leb count n ≡ false) × (n < count)). let o : n < count = q.1 in absurd (omega arith))
    (leb_tells count n)

unlisted_is : (count n : ℕ) (target : Option TyRef) → target ≡ Some (r.Var n) → count ≤ n → is_unlisted (Some count) target ≡ true
unlisted_is count n target e h = ap (is_unlisted (Some count)) e ∙ is_behind count n h

none_listed : (target : Option TyRef) → is_unlisted None target ≡ true → ⊥
none_listed None e = cc
none_listed (Some (r.Decl n)) e = cc
none_listed (Some (r.Var n)) e = cc

-- ---- the counts

counts_map : (ds : List Decl) → map (λ (o : Outline). o.variables) (map outline ds) ≡ map (λ (d : Decl). length d.vars) ds
counts_map [] = refl
counts_map (d ∷ ds) = ap (λ z. length d.vars ∷ z) (counts_map ds)

pub same_counts : (ds : List Decl) → outline_counts (map outline ds) ≡ variable_counts ds
same_counts ds = ap (λ z. 0 ∷ 0 ∷ 0 ∷ 0 ∷ 0 ∷ 1 ∷ 1 ∷ z) (counts_map ds)

mentions_map : (ds : List Decl) (m : Mention) (o : Outline) → IsIn o (map outline ds) → IsIn m o.mentions → (d : Decl) × IsIn d ds × (o ≡ outline d) × IsIn m (body_mentions d.body)
mentions_map ds m o h p = let i : Image outline ds o = from_map outline o ds h in (i.item, i.stands, i.is, subst (λ (z : Outline). IsIn m z.mentions) i.is p)

-- ---- a violation of the first rule

abbrev pub Rule30 : List (ℕ × TyRef) → List Item → Refusal → Type 0
Rule30 types items refusal = (refusal ≡ violation ArgumentCount refusal.span) × IsWrongCount types items refusal.span

abbrev pub Rule31 : List (ℕ × TyRef) → List Item → Refusal → Type 0
Rule31 types items refusal = (refusal ≡ violation UnboundVariable refusal.span) × IsUnlisted types items refusal.span

named_sound : (types : List (ℕ × TyRef)) (items : List Item) (counts : List ℕ) (id arguments : ℕ) (whole : Span) (refusal : Refusal) → counts ≡ variable_counts (declarations items) → IsIn (Named id whole arguments) (all_mentions items) → IsIn refusal (where_wrong (miscounts counts (find types id) arguments) ArgumentCount whole) → Rule30 types items refusal
named_sound types items counts id arguments whole refusal same stands h =
    let u : (miscounts counts (find types id) arguments ≡ true) × (refusal ≡ violation ArgumentCount whole) = from_where (miscounts counts (find types id) arguments) ArgumentCount whole refusal h in
    let m : WrongCount counts (find types id) arguments = miscounts_means counts (find types id) arguments u.0 in
    let s : refusal.span ≡ whole = ap (λ (z : Refusal). z.span) u.1 in
    let declared : slice_get (variable_counts (declarations items)) m.declaration ≡ Some m.variables = subst (λ (z : List ℕ). slice_get z m.declaration ≡ Some m.variables) same m.declared in
    let wrong : IsWrongCount types items whole = record { id = id; arguments = arguments; declaration = m.declaration; variables = m.variables; stands = stands; names = m.names; declared = declared; differ = m.differ } in
    (u.1 ∙ ap (violation ArgumentCount) (sym s), subst (IsWrongCount types items) (sym s) wrong)

variable_sound : (types : List (ℕ × TyRef)) (items : List Item) (d : Decl) (id : ℕ) (place : Span) (refusal : Refusal) → IsIn d (declarations items) → IsIn (Variable id place) (body_mentions d.body) → IsIn refusal (where_wrong (is_unlisted (Some (length d.vars)) (find types id)) UnboundVariable place) → Rule31 types items refusal
variable_sound types items d id place refusal declared stands h =
    let u : (is_unlisted (Some (length d.vars)) (find types id) ≡ true) × (refusal ≡ violation UnboundVariable place) = from_where (is_unlisted (Some (length d.vars)) (find types id)) UnboundVariable place refusal h in
    let m : (n : ℕ) × (find types id ≡ Some (r.Var n)) × (length d.vars ≤ n) = unlisted_means (length d.vars) (find types id) u.0 in
    let s : refusal.span ≡ place = ap (λ (z : Refusal). z.span) u.1 in
    let wrong : IsUnlisted types items place = record { declaration = d; id = id; number = m.0; declared = declared; stands = stands; names = m.1; behind = m.2 } in
    (u.1 ∙ ap (violation UnboundVariable) (sym s), subst (IsUnlisted types items) (sym s) wrong)

in_declaration : (types : List (ℕ × TyRef)) (items : List Item) (counts : List ℕ) (d : Decl) (m : Mention) (refusal : Refusal) → counts ≡ variable_counts (declarations items) → IsIn d (declarations items) → IsIn m (body_mentions d.body) → IsIn refusal (verdict types counts (Some (length d.vars)) m) → Rule30 types items refusal ⊎ Rule31 types items refusal
in_declaration types items counts d (Named id whole arguments) refusal same declared stands h = inl (named_sound types items counts id arguments whole refusal same (in_left (Named id whole arguments) (all (map (λ (d : Decl). body_mentions d.body) (declarations items))) (annotations items) (in_all_map (λ (d : Decl). body_mentions d.body) d (Named id whole arguments) (declarations items) declared stands)) h)
in_declaration types items counts d (Variable id place) refusal same declared stands h = inr (variable_sound types items d id place refusal declared stands h)

in_annotation : (types : List (ℕ × TyRef)) (items : List Item) (counts : List ℕ) (m : Mention) (refusal : Refusal) → counts ≡ variable_counts (declarations items) → IsIn m (annotations items) → IsIn refusal (verdict types counts None m) → Rule30 types items refusal ⊎ Rule31 types items refusal
in_annotation types items counts (Named id whole arguments) refusal same stands h = inl (named_sound types items counts id arguments whole refusal same (in_right (Named id whole arguments) (all (map (λ (d : Decl). body_mentions d.body) (declarations items))) (annotations items) stands) h)
in_annotation types items counts (Variable id place) refusal same stands h = absurd (none_listed (find types id) (from_where (is_unlisted None (find types id)) UnboundVariable place refusal h).0)

pub references_sound : (types : List (ℕ × TyRef)) (items : List Item) (refusal : Refusal) → IsIn refusal (references types (map outline (declarations items)) items) → Rule30 types items refusal ⊎ Rule31 types items refusal
references_sound types items refusal h = by_side (in_either refusal (all (map (outline_verdicts types (outline_counts (map outline (declarations items)))) (map outline (declarations items)))) (verdicts types (outline_counts (map outline (declarations items))) None (annotations items)) h)
  where
    by_side : IsIn refusal (all (map (outline_verdicts types (outline_counts (map outline (declarations items)))) (map outline (declarations items)))) ⊎ IsIn refusal (verdicts types (outline_counts (map outline (declarations items))) None (annotations items)) → Rule30 types items refusal ⊎ Rule31 types items refusal
    by_side (inl u) =
        let f : From (outline_verdicts types (outline_counts (map outline (declarations items)))) (map outline (declarations items)) refusal = from_all_map (outline_verdicts types (outline_counts (map outline (declarations items)))) refusal (map outline (declarations items)) u in
        let i : Image outline (declarations items) f.item = from_map outline f.item (declarations items) f.stands in
        let g : From (verdict types (outline_counts (map outline (declarations items))) (Some (length i.item.vars))) (body_mentions i.item.body) refusal = from_all_map (verdict types (outline_counts (map outline (declarations items))) (Some (length i.item.vars))) refusal (body_mentions i.item.body) (subst (λ (z : Outline). IsIn refusal (outline_verdicts types (outline_counts (map outline (declarations items))) z)) i.is f.gives) in
        in_declaration types items (outline_counts (map outline (declarations items))) i.item g.item refusal (same_counts (declarations items)) i.stands g.stands g.gives
    by_side (inr u) =
        let g : From (verdict types (outline_counts (map outline (declarations items))) None) (annotations items) refusal = from_all_map (verdict types (outline_counts (map outline (declarations items))) None) refusal (annotations items) u in
        in_annotation types items (outline_counts (map outline (declarations items))) g.item refusal (same_counts (declarations items)) g.stands g.gives

-- ---- each violation is listed

in_outlines : (types : List (ℕ × TyRef)) (items : List Item) (d : Decl) (m : Mention) (refusal : Refusal) → IsIn d (declarations items) → IsIn m (body_mentions d.body) → IsIn refusal (verdict types (outline_counts (map outline (declarations items))) (Some (length d.vars)) m) → IsIn refusal (references types (map outline (declarations items)) items)
in_outlines types items d m refusal declared stands h =
    let counts : List ℕ = outline_counts (map outline (declarations items)) in
    in_left refusal (all (map (outline_verdicts types counts) (map outline (declarations items)))) (verdicts types counts None (annotations items))
    (in_all_map (outline_verdicts types counts) (outline d) refusal (map outline (declarations items)) (in_map outline d (declarations items) declared)
    (in_all_map (verdict types counts (Some (length d.vars))) m refusal (body_mentions d.body) stands h))

in_annotations : (types : List (ℕ × TyRef)) (items : List Item) (m : Mention) (refusal : Refusal) → IsIn m (annotations items) → IsIn refusal (verdict types (outline_counts (map outline (declarations items))) None m) → IsIn refusal (references types (map outline (declarations items)) items)
in_annotations types items m refusal stands h =
    let counts : List ℕ = outline_counts (map outline (declarations items)) in
    in_right refusal (all (map (outline_verdicts types counts) (map outline (declarations items)))) (verdicts types counts None (annotations items))
    (in_all_map (verdict types counts None) m refusal (annotations items) stands h)

pub wrong_count_listed : (types : List (ℕ × TyRef)) (items : List Item) (place : Span) → IsWrongCount types items place → IsIn (violation ArgumentCount place) (references types (map outline (declarations items)) items)
wrong_count_listed types items place w = by_side (in_either (Named w.id place w.arguments) (all (map (λ (d : Decl). body_mentions d.body) (declarations items))) (annotations items) w.stands)
  where
    declared : slice_get (outline_counts (map outline (declarations items))) w.declaration ≡ Some w.variables
    declared = subst (λ (z : List ℕ). slice_get z w.declaration ≡ Some w.variables) (sym (same_counts (declarations items))) w.declared

    wrong : miscounts (outline_counts (map outline (declarations items))) (find types w.id) w.arguments ≡ true
    wrong = miscounts_is (outline_counts (map outline (declarations items))) (find types w.id) w.arguments w.declaration w.variables w.names declared w.differ

    here : IsIn (violation ArgumentCount place) (where_wrong (miscounts (outline_counts (map outline (declarations items))) (find types w.id) w.arguments) ArgumentCount place)
    here = in_where (miscounts (outline_counts (map outline (declarations items))) (find types w.id) w.arguments) ArgumentCount place wrong

    by_side : IsIn (Named w.id place w.arguments) (all (map (λ (d : Decl). body_mentions d.body) (declarations items))) ⊎ IsIn (Named w.id place w.arguments) (annotations items) → IsIn (violation ArgumentCount place) (references types (map outline (declarations items)) items)
    by_side (inl u) = let f : From (λ (d : Decl). body_mentions d.body) (declarations items) (Named w.id place w.arguments) = from_all_map (λ (d : Decl). body_mentions d.body) (Named w.id place w.arguments) (declarations items) u in in_outlines types items f.item (Named w.id place w.arguments) (violation ArgumentCount place) f.stands f.gives here
    by_side (inr u) = in_annotations types items (Named w.id place w.arguments) (violation ArgumentCount place) u here

pub unlisted_listed : (types : List (ℕ × TyRef)) (items : List Item) (place : Span) → IsUnlisted types items place → IsIn (violation UnboundVariable place) (references types (map outline (declarations items)) items)
unlisted_listed types items place w =
    let wrong : is_unlisted (Some (length w.declaration.vars)) (find types w.id) ≡ true = unlisted_is (length w.declaration.vars) w.number (find types w.id) w.names w.behind in
    in_outlines types items w.declaration (Variable w.id place) (violation UnboundVariable place) w.declared w.stands (in_where (is_unlisted (Some (length w.declaration.vars)) (find types w.id)) UnboundVariable place wrong)
