-- What the answers of `check_decls` mean.
use Rattle.std.specs.Prelude.{ℕ, List}
use Rattle.oxml_base.specs.declared.refusal.Refusal.{Refusal}
use Rattle.ml_tree.specs.declared.scoped.Scoped.{Scoped}
use Rattle.ml_types.specs.declared.declared.Decls.{Decls}
use Rattle.ml_types.specs.declared.node.TyTable.{TyTable}
use Rattle.ml_decls.specs.declared.checking.DeclErr.{DeclErr}
use Rattle.ml_decls.specs.declared.checking.DeclErr.TheVariants.{Refused, NoMemory}
use Rattle.ml_mentions.specs.Programs.{declarations}
use Rattle.ml_decls.specs.Offences.{Offends, IsFirst}
use Rattle.ml_decls.specs.Tables.{Declares}

-- no rule is violated, and the declarations are those of the program
pub record IsChecked (text : List ℕ) (s : Scoped) (decls : Decls) (table : TyTable) : Type 0 where
  pub sound : (refusal : Refusal) → Offends text s.types s.program.items refusal → ⊥
  pub declares : Declares s.types (declarations s.program.items) decls.types table.nodes

-- refused: the first violation of a rule
abbrev pub Explains : List ℕ → Scoped → DeclErr → Type 0
Explains text s (Refused refusal) = IsFirst text s.types s.program.items refusal
Explains text s NoMemory = Unit {0}
