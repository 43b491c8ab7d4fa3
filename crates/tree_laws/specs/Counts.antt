-- How many nodes the items of a program have.
use Rattle.std.specs.Prelude.{ℕ, ◌+◌, sum, map}
use Rattle.ml_tree.specs.Nodes.{bind_nodes}
use Rattle.ml_tree.specs.declared.program.Item.{Item}
use Rattle.ml_tree.specs.declared.program.ItemKind.{ItemKind}
use Rattle.ml_tree.specs.declared.program.ItemKind.TheVariants as I

-- declarations of types have no nodes
abbrev pub item_kind_nodes : ItemKind → ℕ
item_kind_nodes (I.Types decls) = 0
item_kind_nodes (I.Let recursive binds) = sum (map bind_nodes binds)

abbrev pub item_nodes : Item → ℕ
item_nodes i = item_kind_nodes i.kind + 1
