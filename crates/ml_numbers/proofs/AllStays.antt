-- Numbering leaves a program as it is, but for the numbers.
use Rattle.std.proofs.Common.{◌≡◌, List, map, refl}
use Rattle.ml_tree.specs.declared.program.Item.{Item}
use Rattle.ml_tree.specs.declared.program.ItemKind.{ItemKind}
use Rattle.ml_tree.specs.declared.program.ItemKind.TheVariants as K
use Rattle.ml_numbers.specs.Steps.{node}
use Rattle.ml_numbers.specs.Bare as I
use Rattle.ml_numbers.specs.Bare.{bare}
use Rattle.ml_numbers.specs.Numbered.{numbered_decl, numbered_bind, numbered_item_kind, numbered_item, numbered}
use Rattle.ml_numbers.proofs.Stays.{Stays, stays_one, stays_behind, stays_each}
use Rattle.ml_numbers.proofs.TypeStays.{decl_stays}
use Rattle.ml_numbers.proofs.ExprStays.{bind_stays}

item_kind_stays : (k : ItemKind) → Stays I.bare_item_kind (I.bare_item_kind k) (numbered_item_kind k)
item_kind_stays (K.Types decls) = stays_one (map I.bare_decl) I.bare_item_kind _ _ K.Types K.Types (λ x. refl) (stays_each I.bare_decl numbered_decl decl_stays decls)
item_kind_stays (K.Let recursive binds) = stays_one (map I.bare_bind) I.bare_item_kind _ _ (K.Let recursive) (K.Let recursive) (λ x. refl) (stays_each I.bare_bind numbered_bind bind_stays binds)

item_stays : (i : Item) → Stays I.bare_item (I.bare_item i) (numbered_item i)
item_stays i = stays_behind I.bare_item_kind I.bare_item _ node _ (λ id kind. record { id = id; span = i.span; kind = kind }) (λ kind. record { id = 0; span = i.span; kind = kind }) (λ x y. refl) (item_kind_stays i.kind)

pub stays : (items : List Item) → bare (numbered items).items ≡ bare items
stays items = (stays_each I.bare_item numbered_item item_stays items).by (record { nodes = 0; types = 0 })
