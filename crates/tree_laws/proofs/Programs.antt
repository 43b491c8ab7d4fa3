-- The nodes and the operators of a program, by its tokens.
use Rattle.std.proofs.Common.{refl, ◌≡◌, ◌+◌, ◌*◌, ℕ, ◌≤◌, List, drop, length, sym, ap, ◌∙◌, arith}
use Rattle.std.specs.Prelude.{sum, map}
use Rattle.ml_lexer.specs.declared.token.Token.{Token}
use Rattle.ml_tree.specs.Nodes.{bind_nodes}
use Rattle.ml_tree.specs.declared.program.Item.{Item}
use Rattle.ml_tree.specs.declared.program.Program.{Program}
use Rattle.ml_numbers.specs.Numbered.{numbered}
use Rattle.ml_parse_types.proofs.Shorter.{length-drop, decls_rest}
use Rattle.ml_grammar.specs.declared.looks.ItemLead.{ItemLead}
use Rattle.ml_grammar.specs.Looks.{behind_rec}
use Rattle.ml_grammar.specs.Programs.{AnItemBy, a_let_item, a_types_item, ItemsBy, no_item, between, let_first, types_first, Derives}
use Rattle.ml_grammar.proofs.Shorter.{rec_rest}
use Rattle.ml_tree.specs.declared.program.ItemKind.{ItemKind}
use Rattle.ml_tree.specs.declared.program.ItemKind.TheVariants as I
use Rattle.ml_numbers.specs.Bare.{bare_bind, bare_item_kind, bare_item}
use Rattle.ml_numbers.proofs.AllStays.{stays}
use Rattle.tree_laws.specs.Counts.{item_nodes}
use Rattle.tree_laws.specs.Operators.{step, arm_step, bind_step, expr_step, field_step, bind_operators, item_kind_operators, item_operators}
use Rattle.tree_laws.proofs.BareFolds.{Blind, list_same, bind_same}
use Rattle.tree_laws.proofs.OperatorCounts.{list_bound as operators_of_list}
use Rattle.tree_laws.proofs.NodeForms.{sum_more}
use Rattle.tree_laws.proofs.NodeCounts.{list_bound}
use Rattle.tree_laws.proofs.TreeCounts.{numbered_nodes}

item_bound : {text : List ℕ} {l : ItemLead} {ts r : List Token} {i : Item} {d : ℕ} → AnItemBy text l ts i d r → item_nodes i + 2 * length r ≤ 2 * length ts
item_bound (a_let_item {ts = ts} {rest = rest} {bs = bs} x) =
    let i : sum (map bind_nodes bs) + 1 + 2 * length rest ≤ 2 * length (behind_rec (drop 1 ts)) = list_bound x in
    let k = rec_rest (drop 1 ts) in let l = length-drop 1 ts in omega arith
item_bound (a_types_item {ts = ts} x) = let i = decls_rest _ _ x in let l = length-drop 1 ts in omega arith

items_bound : {text : List ℕ} {l : ItemLead} {ts : List Token} {is : List Item} {d : ℕ} → ItemsBy text l ts is d → sum (map item_nodes is) ≤ 2 * length ts
items_bound no_item = omega arith
items_bound (between {ts = ts} x) = let i = items_bound x in let l = length-drop 1 ts in omega arith
items_bound (let_first {i = i} {is = is} x y) = let n = sum_more (item_nodes i) (map item_nodes is) in let j = item_bound x in let k = items_bound y in omega arith
items_bound (types_first {i = i} {is = is} x y) = let n = sum_more (item_nodes i) (map item_nodes is) in let j = item_bound x in let k = items_bound y in omega arith

pub program_bound : {text : List ℕ} {ts : List Token} {p : Program} → Derives text ts p → p.nodes ≤ 2 * length ts
program_bound {ts = ts} d =
    let e = ap (λ (p : Program). p.nodes) d.program_is in
    let n = numbered_nodes d.items in
    let i = items_bound d.reads in omega arith

item_operators_bound : {text : List ℕ} {l : ItemLead} {ts r : List Token} {i : Item} {d : ℕ} → AnItemBy text l ts i d r → 2 * item_operators i + length r ≤ length ts
item_operators_bound (a_let_item {ts = ts} {rest = rest} {bs = bs} x) =
    let i : 2 * sum (map bind_operators bs) + 1 + length rest ≤ length (behind_rec (drop 1 ts)) = operators_of_list x in
    let k = rec_rest (drop 1 ts) in let l = length-drop 1 ts in omega arith
item_operators_bound (a_types_item {ts = ts} x) = let i = decls_rest _ _ x in let l = length-drop 1 ts in omega arith

items_operators_bound : {text : List ℕ} {l : ItemLead} {ts : List Token} {is : List Item} {d : ℕ} → ItemsBy text l ts is d → 2 * sum (map item_operators is) ≤ length ts
items_operators_bound no_item = omega arith
items_operators_bound (between {ts = ts} x) = let i = items_operators_bound x in let l = length-drop 1 ts in omega arith
items_operators_bound (let_first {i = i} {is = is} x y) = let n = sum_more (item_operators i) (map item_operators is) in let j = item_operators_bound x in let k = items_operators_bound y in omega arith
items_operators_bound (types_first {i = i} {is = is} x y) = let n = sum_more (item_operators i) (map item_operators is) in let j = item_operators_bound x in let k = items_operators_bound y in omega arith

-- numbering leaves the operators
operators_blind : Blind step arm_step bind_step expr_step field_step
operators_blind = record {
  fun = λ ps z. refl;
  typed = λ z t. refl;
  arm = λ p g z. refl;
  bind = λ p ps t z. refl;
  expr = λ i s z. refl;
  field = λ i s z. refl;
}

kind_operators_same : (k : ItemKind) → item_kind_operators (bare_item_kind k) ≡ item_kind_operators k
kind_operators_same (I.Types decls) = refl
kind_operators_same (I.Let recursive binds) = ap sum (list_same bind_operators bare_bind (bind_same step arm_step bind_step expr_step field_step operators_blind) binds)

pub operators_stay : (items : List Item) → map item_operators (numbered items).items ≡ map item_operators items
operators_stay items =
    sym (list_same item_operators bare_item (λ i. kind_operators_same i.kind) (numbered items).items) ∙
    (ap (map item_operators) (stays items) ∙ list_same item_operators bare_item (λ i. kind_operators_same i.kind) items)

pub program_operators_bound : {text : List ℕ} {ts : List Token} {p : Program} → Derives text ts p → 2 * sum (map item_operators p.items) ≤ length ts
program_operators_bound {ts = ts} d =
    let e = ap (λ (p : Program). sum (map item_operators p.items)) d.program_is in
    let n = ap sum (operators_stay d.items) in
    let i = items_operators_bound d.reads in omega arith
