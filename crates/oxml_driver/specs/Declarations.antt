-- From what the names of a source's program stand for to its declarations of types.
use Rattle.std.specs.Prelude.{ℕ, List}
use Rattle.oxml_base.specs.declared.refusal.Refusal.{Refusal}
use Rattle.ml_tree.specs.declared.scoped.Scoped.{Scoped}
use Rattle.ml_types.specs.declared.declared.Decls.{Decls}
use Rattle.ml_types.specs.declared.node.TyTable.{TyTable}
use Rattle.ml_mentions.specs.Programs.{declarations}
use Rattle.ml_decls.specs.Offences.{IsFirst, Offends}
use Rattle.ml_decls.specs.Tables.{Declares}
use Rattle.oxml_driver.specs.Names.{IsScoped}
use Rattle.oxml_driver.specs.Source.{program_text}

-- the program of the source with what its names stand for; its declarations violate no rule
pub record IsDeclared (source : List ℕ) (scoped : Scoped) : Type 0 where
  pub is_scoped : IsScoped source scoped
  pub sound : (refusal : Refusal) → Offends (program_text source) scoped.types scoped.program.items refusal → ⊥

-- these are its declarations, over a table with their types
pub record IsDeclaredAs (source : List ℕ) (scoped : Scoped) (decls : Decls) (table : TyTable) : Type 0 where
  pub is_declared : IsDeclared source scoped
  pub declares : Declares scoped.types (declarations scoped.program.items) decls.types table.nodes

-- the names of the source's program stand for something, and its declarations violate this rule first
pub record IsIllDeclared (source : List ℕ) (refusal : Refusal) : Type 0 where
  pub scoped : Scoped
  pub is_scoped : IsScoped source scoped
  pub first : IsFirst (program_text source) scoped.types scoped.program.items refusal
