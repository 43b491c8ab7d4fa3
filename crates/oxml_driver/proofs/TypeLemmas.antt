-- What inference over the declarations of a source comes to for the source.
use Rattle.std.proofs.Common.{ℕ, ◌≤◌, List, length, Some, sym, subst}
use Rattle.oxml_base.specs.declared.refusal.Limit.{Limit as Passed}
use Rattle.oxml_base.specs.declared.refusal.Refusal.{Refusal}
use Rattle.oxml_base.specs.declared.span.Span.{Span}
use Rattle.ml_tree.specs.declared.scoped.Scoped.{Scoped}
use Rattle.ml_types.specs.declared.declared.Decls.{Decls}
use Rattle.ml_types.specs.declared.node.TyId.{TyId}
use Rattle.ml_types.specs.declared.node.TyTable.{TyTable}
use Rattle.ml_types.specs.Types.{Tree}
use Rattle.ml_typing.specs.declared.typed.Typed.{Typed}
use Rattle.ml_typing.specs.Typing.{Reads, first_context}
use Rattle.hm_infer.specs.declared.error.InferErr.TheVariants as e
use Rattle.hm_infer.specs.Answers.{IsTypedAs, IsRefusedBy, items_of}
use Rattle.declared_laws.proofs.Declared.{reads_declared}
use Rattle.oxml_driver.specs.Build.{IsRefused, Passes, ill_typed, type_size, most_bytes}
use Rattle.oxml_driver.specs.Declarations.{IsDeclaredAs}
use Rattle.oxml_driver.specs.Source.{program_text}
use Rattle.oxml_driver.specs.Types.{IsWellTyped}

module _ (source : List ℕ) (scoped : Scoped) (decls : Decls) (table : TyTable) where
  pub is_well_typed : (typed : Typed) → IsDeclaredAs source scoped decls table → ((declared : TyId → Tree) → Reads decls.types table.nodes declared → IsTypedAs (first_context decls.types declared) (items_of scoped) scoped.program.nodes typed) → IsWellTyped source scoped
  is_well_typed typed is answer = record {
    decls = decls;
    table = table;
    declared = is;
    typed = typed;
    is_typed = answer _ (reads_declared (program_text source) scoped decls table (record { sound = is.is_declared.sound; declares = is.declares }));
  }

  pub types_fail : (refusal : Refusal) → length source ≤ most_bytes → IsDeclaredAs source scoped decls table → ((declared : TyId → Tree) → Reads decls.types table.nodes declared → IsRefusedBy (first_context decls.types declared) (items_of scoped) (e.Refused refusal)) → IsRefused source refusal
  types_fail refusal short is answer = record {
    short = short;
    violates = ill_typed (record {
      scoped = scoped;
      decls = decls;
      table = table;
      declared = is;
      refused = answer _ (reads_declared (program_text source) scoped decls table (record { sound = is.is_declared.sound; declares = is.declares }));
    });
  }

  pub types_pass : (limit : Passed) (span : Span) → length source ≤ most_bytes → IsDeclaredAs source scoped decls table → ((declared : TyId → Tree) → Reads decls.types table.nodes declared → IsRefusedBy (first_context decls.types declared) (items_of scoped) (e.Limit limit span)) → Passes source limit (Some span)
  types_pass limit span short is answer =
      let why : IsRefusedBy _ (items_of scoped) (e.Limit limit span) = answer _ (reads_declared (program_text source) scoped decls table (record { sound = is.is_declared.sound; declares = is.declares })) in
      subst (λ l. Passes source l (Some span)) (sym why.0) (type_size short (record { scoped = scoped; decls = decls; table = table; declared = is; large = why.1 }))
