-- Numbering leaves the spans.
use Rattle.std.proofs.Common.{◌≡◌, List, map, Option, Some, None, refl, sym, ap, ◌∙◌}
use Rattle.ml_tree.specs.declared.pattern.Pat.{Pat}
use Rattle.ml_tree.specs.declared.pattern.Param.{Param}
use Rattle.ml_tree.specs.declared.program.Item.{Item}
use Rattle.ml_tree.specs.declared.program.ItemKind.{ItemKind}
use Rattle.ml_tree.specs.declared.program.ItemKind.TheVariants as K
use Rattle.ml_numbers.specs.Numbered.{numbered}
use Rattle.ml_numbers.specs.Bare as I
use Rattle.ml_numbers.specs.Bare.{bare_bind, bare_item_kind, bare_item}
use Rattle.ml_numbers.proofs.AllStays.{stays}
use Rattle.tree_laws.specs.Spans.{Edges, none, both, all, node, pattern_step, field_pattern_node, pattern_node, pattern_edges, param_edges, step, arm_step, bind_step, expr_step, field_step, bind_edges, item_kind_edges, item_edges}
use Rattle.tree_laws.proofs.BareFolds.{Blind, three_same, list_same, bind_same}
use Rattle.tree_laws.proofs.BarePatterns.{BlindPatterns, pattern_same as same_without}
use Rattle.tree_laws.proofs.spans.BareTypes.{type_same, decls_same, result_same}

patterns_blind : BlindPatterns pattern_step field_pattern_node pattern_node
patterns_blind = record {
  typed = λ z t. ap (both z) (type_same t);
  field = λ i s z. refl;
  pattern = λ i s z. refl;
}

pattern_same : (y : Pat) → pattern_edges (I.bare_pattern y) ≡ pattern_edges y
pattern_same y = same_without pattern_step field_pattern_node pattern_node patterns_blind y

params_same : (ps : List Param) → all (map param_edges (map I.bare_param ps)) ≡ all (map param_edges ps)
params_same ps = ap all (list_same param_edges I.bare_param (λ q. pattern_same q.pat) ps)

arm_blind : (q : Pat) (g : Option Edges) (z : Edges) → arm_step (record { pat = I.bare_pattern q; guard = g; body = z }) ≡ arm_step (record { pat = q; guard = g; body = z })
arm_blind q None z = ap (λ u. both u (both none z)) (pattern_same q)
arm_blind q (Some g) z = ap (λ u. both u (both g z)) (pattern_same q)

edges_blind : Blind step arm_step bind_step expr_step field_step
edges_blind = record {
  fun = λ ps z. ap (λ qs. both qs z) (params_same ps);
  typed = λ z t. ap (both z) (type_same t);
  arm = λ q g z. arm_blind q g z;
  bind = λ q ps t z. three_same (λ u v w. both u (both v (both w z))) (pattern_same q) (params_same ps) (result_same t);
  expr = λ i s z. refl;
  field = λ i s z. refl;
}

kind_stays : (k : ItemKind) → item_kind_edges (bare_item_kind k) ≡ item_kind_edges k
kind_stays (K.Types decls) = decls_same decls
kind_stays (K.Let recursive binds) = ap all (list_same bind_edges bare_bind (bind_same step arm_step bind_step expr_step field_step edges_blind) binds)

item_same : (i : Item) → item_edges (bare_item i) ≡ item_edges i
item_same i = ap (λ parts. node i.span parts i.span) (kind_stays i.kind)

pub edges_stay : (items : List Item) → map item_edges (numbered items).items ≡ map item_edges items
edges_stay items =
    sym (list_same item_edges bare_item item_same (numbered items).items) ∙
    (ap (map item_edges) (stays items) ∙ list_same item_edges bare_item item_same items)
