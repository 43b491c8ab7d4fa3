-- A program is no deeper than it was read.
use Rattle.std.proofs.Common.{◌≡◌, ◌≤◌, ℕ, List, map, Option, Some, None, refl, sym, ap, ◌∙◌, arith}
use Rattle.std.specs.Prelude.{max}
use Rattle.ml_lexer.specs.declared.token.Token.{Token}
use Rattle.ml_tree.specs.declared.pattern.Pat.{Pat}
use Rattle.ml_tree.specs.declared.pattern.Param.{Param}
use Rattle.ml_tree.specs.declared.program.Item.{Item}
use Rattle.ml_tree.specs.declared.program.ItemKind.{ItemKind}
use Rattle.ml_tree.specs.declared.program.ItemKind.TheVariants as K
use Rattle.ml_tree.specs.declared.program.Program.{Program}
use Rattle.ml_tree.specs.Depth.{greatest, pattern_step, field_pattern_step, pattern_node, pattern_depth, param_depth, step, arm_step, bind_step, expr_node, field_step, bind_depth}
use Rattle.ml_numbers.specs.Numbered.{numbered}
use Rattle.ml_numbers.specs.Bare as I
use Rattle.ml_numbers.specs.Bare.{bare_bind, bare_item_kind, bare_item}
use Rattle.ml_numbers.proofs.AllStays.{stays}
use Rattle.ml_grammar.specs.declared.looks.ItemLead.{ItemLead}
use Rattle.ml_grammar.specs.Programs.{AnItemBy, a_let_item, a_types_item, ItemsBy, no_item, between, let_first, types_first, Derives}
use Rattle.tree_laws.specs.Depths.{item_kind_depth, item_depth}
use Rattle.tree_laws.proofs.BareFolds.{Blind, two_same, list_same, bind_same}
use Rattle.tree_laws.proofs.BarePatterns.{BlindPatterns, pattern_same as same_without}
use Rattle.tree_laws.proofs.depths.Depths.{list_depth_is}

patterns_blind : BlindPatterns pattern_step field_pattern_step pattern_node
patterns_blind = record {
  typed = λ z t. refl;
  field = λ i s z. refl;
  pattern = λ i s z. refl;
}

pattern_same : (y : Pat) → pattern_depth (I.bare_pattern y) ≡ pattern_depth y
pattern_same y = same_without pattern_step field_pattern_step pattern_node patterns_blind y

params_same : (ps : List Param) → greatest (map param_depth (map I.bare_param ps)) ≡ greatest (map param_depth ps)
params_same ps = ap greatest (list_same param_depth I.bare_param (λ q. pattern_same q.pat) ps)

arm_blind : (q : Pat) (g : Option ℕ) (z : ℕ) → arm_step (record { pat = I.bare_pattern q; guard = g; body = z }) ≡ arm_step (record { pat = q; guard = g; body = z })
arm_blind q None z = ap (λ u. max (max u 0) z) (pattern_same q)
arm_blind q (Some g) z = ap (λ u. max (max u g) z) (pattern_same q)

depth_blind : Blind step arm_step bind_step expr_node field_step
depth_blind = record {
  fun = λ ps z. ap (λ n. max n z) (params_same ps);
  typed = λ z t. refl;
  arm = λ q g z. arm_blind q g z;
  bind = λ q ps t z. two_same (λ u v. max (max u v) z) (pattern_same q) (params_same ps);
  expr = λ i s z. refl;
  field = λ i s z. refl;
}

kind_stays : (k : ItemKind) → item_kind_depth (bare_item_kind k) ≡ item_kind_depth k
kind_stays (K.Types decls) = refl
kind_stays (K.Let recursive binds) = ap greatest (list_same bind_depth bare_bind (bind_same step arm_step bind_step expr_node field_step depth_blind) binds)

depths_stay : (items : List Item) → map item_depth (numbered items).items ≡ map item_depth items
depths_stay items =
    sym (list_same item_depth bare_item (λ i. kind_stays i.kind) (numbered items).items) ∙
    (ap (map item_depth) (stays items) ∙ list_same item_depth bare_item (λ i. kind_stays i.kind) items)

item_depth_is : {text : List ℕ} {l : ItemLead} {ts r : List Token} {i : Item} {d : ℕ} → AnItemBy text l ts i d r → d ≡ item_depth i
item_depth_is (a_let_item x) = list_depth_is x
item_depth_is (a_types_item x) = refl

items_depth_is : {text : List ℕ} {l : ItemLead} {ts : List Token} {is : List Item} {d : ℕ} → ItemsBy text l ts is d → d ≡ greatest (map item_depth is)
items_depth_is no_item = refl
items_depth_is (between x) = items_depth_is x
items_depth_is (let_first x y) = two_same max (item_depth_is x) (items_depth_is y)
items_depth_is (types_first x y) = two_same max (item_depth_is x) (items_depth_is y)

pub program_depth : {text : List ℕ} {tokens : List Token} {p : Program} → Derives text tokens p → greatest (map item_depth p.items) ≤ 1000
program_depth d =
    let e = ap (λ (p : Program). greatest (map item_depth p.items)) d.program_is in
    let n = ap greatest (depths_stay d.items) in
    let i = items_depth_is d.reads in omega (arith, d.small)
