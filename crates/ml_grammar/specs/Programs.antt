-- Items and programs.
use Rattle.std.specs.Prelude.{◌≡◌, ℕ, ◌≤◌, max, List, [], ◌∷◌, drop}
use Rattle.ml_lexer.specs.declared.token.Token.{Token}
use Rattle.ml_cursor.specs.Places.{span, first_span, extent}
use Rattle.ml_tree.specs.declared.expr.Bind.{Bind}
use Rattle.ml_tree.specs.declared.types.Decl.{Decl}
use Rattle.ml_numbers.specs.Numbered.{numbered}
use Rattle.ml_tree.specs.declared.program.Program.{Program}
use Rattle.ml_tree.specs.declared.program.Item.{Item}
use Rattle.ml_tree.specs.declared.program.ItemKind.TheVariants as K
use Rattle.ml_grammar.specs.declared.looks.ItemLead.{ItemLead}
use Rattle.ml_grammar.specs.declared.looks.ItemLead.TheVariants as I
use Rattle.ml_grammar.specs.Looks.{second, item_lead, behind_rec, is_rec}
use Rattle.ml_grammar.specs.Trees.{end_behind, end_of_bind}
use Rattle.ml_parse_types.specs.Types.{got}
use Rattle.ml_parse_types.specs.Decls.{ReadsDecls}
use Rattle.ml_grammar.specs.Grammar.{Lists, binds}

abbrev pub let_item : List Token → List Bind → Item
let_item ts bs =
    record { id = 0; span = span (first_span ts).start (end_behind end_of_bind 0 bs); kind = K.Let (is_rec (second ts)) bs }

abbrev pub types_item : List Token → List Decl → List Token → Item
types_item ts ds rest = record { id = 0; span = extent ts rest; kind = K.Types ds }

-- an item by its first token, its depth, to which declarations of types add nothing, and what follows
pub data AnItemBy (text : List ℕ) : ItemLead → List Token → Item → ℕ → List Token → Type 0 where
  a_let_item : {ts rest : List Token} {bs : List Bind} {d : ℕ} →
      Lists text binds (behind_rec (drop 1 ts)) bs d rest → AnItemBy text I.Let ts (let_item ts bs) d rest
  a_types_item : {ts rest : List Token} {ds : List Decl} →
      ReadsDecls (drop 1 ts) (got ds rest) → AnItemBy text I.Types ts (types_item ts ds rest) 0 rest

abbrev pub AnItem : List ℕ → List Token → Item → ℕ → List Token → Type 0
AnItem text ts i d rest = AnItemBy text (item_lead ts) ts i d rest

-- the items of all tokens, with `;;` among them, by what stands first; their depth is the greatest of
-- theirs
pub data ItemsBy (text : List ℕ) : ItemLead → List Token → List Item → ℕ → Type 0 where
  no_item : {ts : List Token} → ItemsBy text I.End ts [] 0
  between : {ts : List Token} {is : List Item} {d : ℕ} →
      ItemsBy text (item_lead (drop 1 ts)) (drop 1 ts) is d → ItemsBy text I.SemiSemi ts is d
  let_first : {ts us : List Token} {i : Item} {is : List Item} {di d : ℕ} →
      AnItemBy text I.Let ts i di us → ItemsBy text (item_lead us) us is d → ItemsBy text I.Let ts (i ∷ is) (max di d)
  types_first : {ts us : List Token} {i : Item} {is : List Item} {di d : ℕ} →
      AnItemBy text I.Types ts i di us → ItemsBy text (item_lead us) us is d → ItemsBy text I.Types ts (i ∷ is) (max di d)

abbrev pub AreItems : List ℕ → List Token → List Item → ℕ → Type 0
AreItems text ts is d = ItemsBy text (item_lead ts) ts is d

-- exactly these tokens are the program: its items have a depth of at most 1,000, and its nodes and type
-- expressions are numbered
pub record Derives (text : List ℕ) (ts : List Token) (program : Program) : Type 0 where
  pub items : List Item
  pub depth : ℕ
  pub reads : AreItems text ts items depth
  pub small : depth ≤ 1000
  pub program_is : program ≡ numbered items

-- an item of at most the greatest depth was read
pub record IsItem (text : List ℕ) (lead : ItemLead) (ts rest : List Token) (i : Item) : Type 0 where
  pub depth : ℕ
  pub reads : AnItemBy text lead ts i depth rest
  pub small : depth ≤ 1000

-- the tokens are no program
pub record NoProgram (text : List ℕ) (ts : List Token) : Type 0 where
  pub none : (p : Program) → Derives text ts p → ⊥
