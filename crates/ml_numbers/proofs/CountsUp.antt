-- A numbered program has the numbers 0, 1, 2 .. in the order of the source.
use Rattle.std.proofs.Common.{List, refl, arith}
use Rattle.ml_tree.specs.declared.program.Item.{Item}
use Rattle.ml_tree.specs.declared.program.ItemKind.{ItemKind}
use Rattle.ml_tree.specs.declared.program.ItemKind.TheVariants as K
use Rattle.ml_numbers.specs.Steps.{node}
use Rattle.ml_numbers.specs.Ids.{Ids, joined, IsNumbered}
use Rattle.ml_numbers.specs.Ids as I
use Rattle.ml_numbers.specs.Numbered.{numbered_decl, numbered_bind, numbered_item_kind, numbered_item, numbered}
use Rattle.ml_numbers.proofs.Runs.{Numbers, list_of, numbers_node, numbers_one, numbers_two, numbers_each, counted}
use Rattle.ml_numbers.proofs.TypeRuns.{decl_numbers}
use Rattle.ml_numbers.proofs.ExprRuns.{bind_numbers}

item_kind_numbers : (k : ItemKind) → Numbers I.item_kind_ids (numbered_item_kind k)
item_kind_numbers (K.Types decls) = numbers_one (list_of I.decl_ids) I.item_kind_ids _ K.Types (λ x. refl) (numbers_each I.decl_ids numbered_decl decl_numbers decls)
item_kind_numbers (K.Let recursive binds) = numbers_one (list_of I.bind_ids) I.item_kind_ids _ (K.Let recursive) (λ x. refl) (numbers_each I.bind_ids numbered_bind bind_numbers binds)

item_numbers : (i : Item) → Numbers I.item_ids (numbered_item i)
item_numbers i = numbers_two I.node_id I.item_kind_ids I.item_ids node _ (λ id kind. record { id = id; span = i.span; kind = kind }) (λ x y. refl) numbers_node (item_kind_numbers i.kind)

pub is_numbered : (items : List Item) → IsNumbered (numbered items)
is_numbered items =
    let run = (numbers_each I.item_ids numbered_item item_numbers items).by (record { nodes = 0; types = 0 }) in
    let p = numbered items in
    record { nodes = counted (I.program_ids p).nodes 0 p.nodes p.nodes run.nodes (omega arith); types = counted (I.program_ids p).types 0 p.types p.types run.types (omega arith) }
