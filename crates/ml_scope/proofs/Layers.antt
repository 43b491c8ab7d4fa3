-- What is seen of single kinds of patterns.
use Rattle.std.proofs.Common.{ℕ, List, Bool, not, map, ◌≡◌, ◌∙◌, ap, sym}
use Rattle.oxml_base.specs.declared.span.Span.{Span}
use Rattle.ml_tree.specs.declared.pattern.FieldPat.{FieldPat}
use Rattle.ml_tree.specs.declared.pattern.Pat.{Pat}
use Rattle.ml_tree.specs.declared.pattern.PatKind.TheOpen as p
use Rattle.ml_tree.specs.declared.pattern.PatKind.{fold-roll-PatKind}
use Rattle.ml_tree.specs.declared.pattern.PatKind.TheVariants.{Fields, Paren, rolls-Fields, rolls-Paren}
use Rattle.ml_scope.specs.Names.{Known}
use Rattle.ml_scope.specs.Journal.{Journal, each}
use Rattle.ml_scope.specs.Uses.{record_named}
use Rattle.ml_scope.specs.Shapes.{inside}
use Rattle.ml_scope.specs.Patterns.{PatKindSeen, FieldPatSeen, PatSeen, pattern_step, pattern_field, pattern_node, pattern_seen, pattern_kind_seen, field_pattern_seen}

pub paren_shape : (k : Known) (q : Pat) → (pattern_kind_seen k (Paren q)).shape ≡ inside (pattern_seen k q).shape
paren_shape k q = ap (λ x. (pattern_kind_seen k x).shape) (sym (rolls-Paren q)) ∙ ap (λ s. s.shape) (fold-roll-PatKind PatKindSeen FieldPatSeen PatSeen (pattern_step k) (pattern_field k) (pattern_node k) (p.Paren q))

-- a record pattern
pub record_look : (k : Known) (id : ℕ) (span : Span) (list : List FieldPat) (rest : Bool) (js : Journal) → (pattern_kind_seen k (Fields list rest)).look id span js ≡ each (map (λ q. q.look) (map (field_pattern_seen k) list)) (record_named k id span (not rest) (map (λ q. q.name) (map (field_pattern_seen k) list)) js)
record_look k id span list rest js = ap (λ x. (pattern_kind_seen k x).look id span js) (sym (rolls-Fields list rest)) ∙ ap (λ s. s.look id span js) (fold-roll-PatKind PatKindSeen FieldPatSeen PatSeen (pattern_step k) (pattern_field k) (pattern_node k) (p.Fields list rest))
