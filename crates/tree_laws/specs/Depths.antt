-- How deep the items of a program are.
use Rattle.std.specs.Prelude.{ℕ, map}
use Rattle.ml_tree.specs.Depth.{greatest, bind_depth}
use Rattle.ml_tree.specs.declared.program.Item.{Item}
use Rattle.ml_tree.specs.declared.program.ItemKind.{ItemKind}
use Rattle.ml_tree.specs.declared.program.ItemKind.TheVariants as I

-- declarations of types have no patterns and no expressions
abbrev pub item_kind_depth : ItemKind → ℕ
item_kind_depth (I.Types decls) = 0
item_kind_depth (I.Let recursive binds) = greatest (map bind_depth binds)

abbrev pub item_depth : Item → ℕ
item_depth i = item_kind_depth i.kind
