-- The edges of each form of patterns, by those of its parts.
use Rattle.std.proofs.Common.{◌≡◌, ℕ, Bool, List, Some, None, sym, ap, ◌∙◌}
use Rattle.std.specs.Prelude.{map}
use Rattle.oxml_base.specs.declared.span.Span.{Span}
use Rattle.ml_lexer.specs.declared.token.Token.{Token}
use Rattle.ml_cursor.specs.Places.{extent}
use Rattle.ml_tree.specs.declared.types.TyExpr.{TyExpr}
use Rattle.ml_tree.specs.declared.words.Words.{Words}
use Rattle.ml_tree.specs.declared.pattern.Pat.{Pat, fold-roll-Pat}
use Rattle.ml_tree.specs.declared.pattern.FieldPat.{FieldPat, fold-roll-FieldPat}
use Rattle.ml_tree.specs.declared.pattern.PatKind.{PatKind, fold-roll-PatKind, map-PatKind, roll-PatKind}
use Rattle.ml_tree.specs.declared.pattern.PatKind.TheVariants as Kind
use Rattle.ml_tree.specs.declared.pattern.PatKind.TheOpen as p
use Rattle.ml_tree.specs.declared.pattern.PatKind.TheOpen.{PatKind-F}
use Rattle.ml_tree.specs.declared.pattern.ConName.TheVariants.{Named}
use Rattle.ml_parse_patterns.specs.declared.looks.Leaf.{Leaf}
use Rattle.ml_parse_patterns.specs.declared.looks.Leaf.TheVariants.{Any, Bound, Int, Char, Con}
use Rattle.ml_parse_patterns.specs.Looks.{node, leaf_kind}
use Rattle.ml_parse_types.specs.Looks.{no_words}
use Rattle.ml_grammar.specs.Trees.{name_pattern}
use Rattle.tree_laws.specs.Spans.{Edges, none, both, all, type_edges, pattern_step, field_pattern_node, pattern_node, pattern_edges, pattern_kind_edges, field_pattern_edges}
use Rattle.tree_laws.specs.Spans.{node as node_edges}

-- a node, by the parts of its kind
node_at : (ts r : List Token) (l : PatKind-F PatKind FieldPat Pat) (k : PatKind) → roll-PatKind l ≡ k → pattern_edges (node ts r k) ≡ node_edges (extent ts r) (pattern_step (map-PatKind PatKind FieldPat Pat Edges Edges Edges pattern_kind_edges field_pattern_edges pattern_edges l))
node_at ts r l k q =
    fold-roll-Pat Edges Edges Edges pattern_step field_pattern_node pattern_node (record { id = 0; span = extent ts r; kind = k }) ∙
    ap (node_edges (extent ts r)) (ap pattern_kind_edges (sym q) ∙ fold-roll-PatKind Edges Edges Edges pattern_step field_pattern_node pattern_node l)

pub of_leaf : (ts r : List Token) (l : Leaf) → pattern_edges (node ts r (leaf_kind l)) ≡ node_edges (extent ts r) none
of_leaf ts r Any = node_at ts r p.Any Kind.Any Kind.rolls-Any
of_leaf ts r (Bound s) = node_at ts r (p.Name _ s) (leaf_kind (Bound s)) (Kind.rolls-Name _ s)
of_leaf ts r (Int z) = node_at ts r (p.Int z) (Kind.Int z) (Kind.rolls-Int z)
of_leaf ts r (Char c) = node_at ts r (p.Char c) (Kind.Char c) (Kind.rolls-Char c)
of_leaf ts r (Con n) = node_at ts r (p.Con n None) (Kind.Con n None) (Kind.rolls-Con n None)

pub of_name : (ts r : List Token) (w : Words) (s : Span) → pattern_edges (node ts r (Kind.Name w s)) ≡ node_edges (extent ts r) none
of_name ts r w s = node_at ts r (p.Name w s) (Kind.Name w s) (Kind.rolls-Name w s)

pub of_text : (ts r : List Token) (bytes : List ℕ) → pattern_edges (node ts r (Kind.Text (record { bytes = bytes }))) ≡ node_edges (extent ts r) none
of_text ts r bytes = node_at ts r (p.Text (record { bytes = bytes })) (Kind.Text (record { bytes = bytes })) (Kind.rolls-Text (record { bytes = bytes }))

pub of_con : (ts r : List Token) (s : Span) (q : Pat) → pattern_edges (node ts r (Kind.Con (Named s) (Some q))) ≡ node_edges (extent ts r) (pattern_edges q)
of_con ts r s q = node_at ts r (p.Con (Named s) (Some q)) (Kind.Con (Named s) (Some q)) (Kind.rolls-Con (Named s) (Some q))

pub of_cons : (ts r : List Token) (a b : Pat) → pattern_edges (node ts r (Kind.Cons a b)) ≡ node_edges (extent ts r) (both (pattern_edges a) (pattern_edges b))
of_cons ts r a b = node_at ts r (p.Cons a b) (Kind.Cons a b) (Kind.rolls-Cons a b)

pub of_or : (ts r : List Token) (a b : Pat) → pattern_edges (node ts r (Kind.Or a b)) ≡ node_edges (extent ts r) (both (pattern_edges a) (pattern_edges b))
of_or ts r a b = node_at ts r (p.Or a b) (Kind.Or a b) (Kind.rolls-Or a b)

pub of_tuple : (ts r : List Token) (ps : List Pat) → pattern_edges (node ts r (Kind.Tuple ps)) ≡ node_edges (extent ts r) (all (map pattern_edges ps))
of_tuple ts r ps = node_at ts r (p.Tuple ps) (Kind.Tuple ps) (Kind.rolls-Tuple ps)

pub of_list : (ts r : List Token) (ps : List Pat) → pattern_edges (node ts r (Kind.List ps)) ≡ node_edges (extent ts r) (all (map pattern_edges ps))
of_list ts r ps = node_at ts r (p.List ps) (Kind.List ps) (Kind.rolls-List ps)

pub of_fields : (ts r : List Token) (fs : List FieldPat) (more : Bool) → pattern_edges (node ts r (Kind.Fields fs more)) ≡ node_edges (extent ts r) (all (map field_pattern_edges fs))
of_fields ts r fs more = node_at ts r (p.Fields fs more) (Kind.Fields fs more) (Kind.rolls-Fields fs more)

pub of_named : (ts r : List Token) (a : Pat) (s : Span) → pattern_edges (node ts r (Kind.Named a s)) ≡ node_edges (extent ts r) (pattern_edges a)
of_named ts r a s = node_at ts r (p.Named a s) (Kind.Named a s) (Kind.rolls-Named a s)

pub of_typed : (ts r : List Token) (a : Pat) (t : TyExpr) → pattern_edges (node ts r (Kind.Typed a t)) ≡ node_edges (extent ts r) (both (pattern_edges a) (type_edges t))
of_typed ts r a t = node_at ts r (p.Typed a t) (Kind.Typed a t) (Kind.rolls-Typed a t)

pub of_paren : (ts r : List Token) (a : Pat) → pattern_edges (node ts r (Kind.Paren a)) ≡ node_edges (extent ts r) (pattern_edges a)
of_paren ts r a = node_at ts r (p.Paren a) (Kind.Paren a) (Kind.rolls-Paren a)

pub of_field : (s : Span) (q : Pat) → field_pattern_edges (record { id = 0; name = s; pat = q }) ≡ both (node_edges s none) (pattern_edges q)
of_field s q = fold-roll-FieldPat Edges Edges Edges pattern_step field_pattern_node pattern_node (record { id = 0; name = s; pat = q })

pub of_name_pattern : (s : Span) → pattern_edges (name_pattern s) ≡ node_edges s none
of_name_pattern s =
    fold-roll-Pat Edges Edges Edges pattern_step field_pattern_node pattern_node (record { id = 0; span = s; kind = Kind.Name no_words s }) ∙
    ap (node_edges s) (ap pattern_kind_edges (sym (Kind.rolls-Name no_words s)) ∙ fold-roll-PatKind Edges Edges Edges pattern_step field_pattern_node pattern_node (p.Name no_words s))
