-- The violations as lists, in the order in which they are looked for.
use Rattle.std.specs.Prelude.{◌≡◌, ◌↔◌, ℕ, suc, ◌-◌, List, [], ◌∷◌, ◌++◌, Option, Some, None, Bool, true, false, not, cond, nat_eq, nat_le, ◌||◌, map, slice_get, slice_index_or}
use Rattle.oxml_base.specs.declared.span.Span.{Span}
use Rattle.oxml_base.specs.declared.refusal.Refusal.{Refusal}
use Rattle.oxml_base.specs.declared.rule.Rule.{Rule}
use Rattle.oxml_base.specs.declared.rule.Rule.TheVariants.{ArgumentCount, UnboundVariable, DeclaredTwice, CyclicAbbreviation}
use Rattle.ml_tree.specs.declared.reference.TyRef.{TyRef}
use Rattle.ml_tree.specs.declared.reference.TyRef.TheVariants as r
use Rattle.ml_mentions.specs.declared.mentions.Mention.{Mention}
use Rattle.ml_mentions.specs.declared.mentions.Mention.TheVariants.{Named, Variable}
use Rattle.ml_mentions.specs.declared.outline.Outline.{Outline}
use Rattle.std.specs.Str.{bytes_eq}
use Rattle.std.specs.List.{list_any}
use Rattle.graph_cycles.specs.Paths.{Path}
use Rattle.ml_tree.specs.declared.program.Item.{Item}
use Rattle.ml_mentions.specs.Lists.{all}
use Rattle.ml_decls.specs.Lists.{IsIn, find}
use Rattle.ml_mentions.specs.Programs.{annotations}
use Rattle.ml_decls.specs.Offences.{spelling, Offends}

-- one violation, where it is one
abbrev pub where_wrong : Bool → Rule → Span → List Refusal
where_wrong wrong rule span = cond wrong (record { rule = rule; span = span } ∷ []) []

abbrev pub differs : Option ℕ → ℕ → Bool
differs None given = false
differs (Some count) given = not (nat_eq count given)

-- whether a name has more or fewer arguments than its declaration has variables
abbrev pub miscounts : List ℕ → Option TyRef → ℕ → Bool
miscounts counts (Some (r.Decl number)) given = differs (slice_get counts number) given
miscounts counts _ given = false

-- whether a variable is not among the first so many, which are listed; in an item all may stand
abbrev pub is_unlisted : Option ℕ → Option TyRef → Bool
is_unlisted (Some count) (Some (r.Var number)) = nat_le count number
is_unlisted _ _ = false

module _ (types : List (ℕ × TyRef)) (counts : List ℕ) where
  abbrev pub verdict : Option ℕ → Mention → List Refusal
  verdict listed (Named id whole arguments) = where_wrong (miscounts counts (find types id) arguments) ArgumentCount whole
  verdict listed (Variable id place) = where_wrong (is_unlisted listed (find types id)) UnboundVariable place

  abbrev pub verdicts : Option ℕ → List Mention → List Refusal
  verdicts listed ms = all (map (verdict listed) ms)

  abbrev pub outline_verdicts : Outline → List Refusal
  outline_verdicts o = verdicts (Some o.variables) o.mentions

-- the declaration that a name names, counted from the first written one
abbrev pub written_number : Option TyRef → List ℕ
written_number (Some (r.Decl number)) = cond (nat_le 7 number) ((number - 7) ∷ []) []
written_number _ = []

abbrev pub target : List (ℕ × TyRef) → Mention → List ℕ
target types (Named id whole arguments) = written_number (find types id)
target types (Variable id place) = []

-- the written declarations that the body of an abbreviation names
abbrev pub targets : List (ℕ × TyRef) → Outline → List ℕ
targets types o = cond o.is_abbreviation (all (map (target types) o.mentions)) []

-- the declarations that are marked, from a place on
abbrev pub marked_from : List Bool → ℕ → List Outline → List Refusal
marked_from marks place [] = []
marked_from marks place (o ∷ os) = where_wrong (slice_index_or marks place false) CyclicAbbreviation o.name ++ marked_from marks (suc place) os

-- ---- names that stand in a list before

-- whether a name is among keys, where bytes gives those of a key
abbrev pub has : {K : Type 0} → (K → List ℕ) → List K → List ℕ → Bool
has bytes keys name = list_any (λ key. bytes_eq name (bytes key)) keys

abbrev pub is_seen : List (List ℕ) → List ℕ → Bool
is_seen [] name = false
is_seen (other ∷ others) name = bytes_eq name other || is_seen others name

-- the names that stand in the list before, or are among those that were seen
abbrev pub twice : List ℕ → List (List ℕ) → List Span → List Refusal
twice text seen [] = []
twice text seen (name ∷ names) = where_wrong (is_seen seen (spelling text name)) DeclaredTwice name ++ twice text (spelling text name ∷ seen) names

abbrev pub all_twice : List ℕ → List Outline → List Refusal
all_twice text os = twice text [] (map (λ (o : Outline). o.name) os) ++ twice text [] (all (map (λ (o : Outline). o.constructors) os)) ++ twice text [] (all (map (λ (o : Outline). o.fields) os))

-- the declarations that lie on a cycle were added
pub record ReportsCycles (types : List (ℕ × TyRef)) (os : List Outline) (before after : List Refusal) : Type 0 where
  pub marks : List Bool
  pub exact : (v : ℕ) → (slice_get marks v ≡ Some true) ↔ Path (map (targets types) os) v v
  pub added : after ≡ before ++ marked_from marks 0 os

-- ---- all violations

-- how many variables each declaration has, at its number
abbrev pub outline_counts : List Outline → List ℕ
outline_counts os = 0 ∷ 0 ∷ 0 ∷ 0 ∷ 0 ∷ 1 ∷ 1 ∷ map (λ (o : Outline). o.variables) os

-- of the rules on names and variables of types
abbrev pub references : List (ℕ × TyRef) → List Outline → List Item → List Refusal
references types os items = all (map (outline_verdicts types (outline_counts os)) os) ++ verdicts types (outline_counts os) None (annotations items)

pub record IsAllOf (text : List ℕ) (types : List (ℕ × TyRef)) (items : List Item) (list : List Refusal) : Type 0 where
  pub sound : (refusal : Refusal) → IsIn refusal list → Offends text types items refusal
  pub complete : (refusal : Refusal) → Offends text types items refusal → IsIn refusal list
