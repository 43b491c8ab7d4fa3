-- From the declarations of a source's program to its types.
use Rattle.std.specs.Prelude.{ℕ, List, Option}
use Rattle.oxml_base.specs.declared.refusal.Refusal.{Refusal}
use Rattle.oxml_base.specs.declared.span.Span.{Span}
use Rattle.ml_tree.specs.declared.scoped.Scoped.{Scoped}
use Rattle.ml_types.specs.declared.declared.Decls.{Decls}
use Rattle.ml_types.specs.declared.node.TyTable.{TyTable}
use Rattle.declared_laws.specs.Expanding.{declared_types}
use Rattle.ml_typing.specs.declared.typed.Typed.{Typed}
use Rattle.ml_typing.specs.Terms.{Context}
use Rattle.ml_typing.specs.Typing.{first_context}
use Rattle.ml_typing.specs.Refusals.{FirstFault, IsTooLarge}
use Rattle.ml_typing.specs.Laws.{ItemsApart}
use Rattle.hm_infer.specs.declared.error.InferErr.TheVariants.{Refused}
use Rattle.hm_infer.specs.Answers.{IsTypedAs, IsRefusedBy, items_of}
use Rattle.oxml_driver.specs.Declarations.{IsDeclared, IsDeclaredAs}

-- the most nodes of a type, as a tree
abbrev pub most_type_size : ℕ
most_type_size = 2_000

-- what the equations of a program are read by before its first item: its declarations, each id of their
-- table at its type, with abbreviations expanded
abbrev pub context_of : Decls → TyTable → Context
context_of decls table = first_context decls.types (declared_types decls.types table.nodes)

-- the program of the source, whose declarations violate no rule, has principal types, none of which is too
-- large, and compares values of types that can be compared only
pub record IsWellTyped (source : List ℕ) (scoped : Scoped) : Type 0 where
  pub decls : Decls
  pub table : TyTable
  pub declared : IsDeclaredAs source scoped decls table
  pub typed : Typed
  pub is_typed : IsTypedAs (context_of decls table) (items_of scoped) scoped.program.nodes typed

-- the declarations of the source's program violate no rule, and this rule of types is the first that its
-- equations violate, or, where they violate none and no type is too large, its comparisons
pub record IsIllTyped (source : List ℕ) (refusal : Refusal) : Type 0 where
  pub scoped : Scoped
  pub decls : Decls
  pub table : TyTable
  pub declared : IsDeclaredAs source scoped decls table
  pub refused : IsRefusedBy (context_of decls table) (items_of scoped) (Refused refusal)

-- the declarations of the source's program violate no rule, and a type is too large behind the equations of
-- the step with this span, before any rule of types is violated
pub record HasLargeType (source : List ℕ) (span : Span) : Type 0 where
  pub scoped : Scoped
  pub decls : Decls
  pub table : TyTable
  pub declared : IsDeclaredAs source scoped decls table
  pub large : FirstFault (context_of decls table) (items_of scoped) (λ e steps. IsTooLarge e steps span)

-- in the program of the source, where its declarations violate no rule, the fresh types of a use of an
-- item's name stand in no other place: what the laws of typing ask for, as where all nodes have different
-- numbers
abbrev pub UsesApart : List ℕ → Type 0
UsesApart source = (scoped : Scoped) → IsDeclared source scoped → (uses : ℕ → Option ℕ) × ItemsApart uses (items_of scoped)
