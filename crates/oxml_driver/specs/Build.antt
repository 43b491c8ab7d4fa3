-- What compiling a source comes to.
use Rattle.std.specs.Prelude.{◌≡◌, ℕ, ◌+◌, ◌≤◌, ◌<◌, List, length, Option, Some, None, Ok}
use Rattle.oxml_base.specs.declared.refusal.Limit.{Limit as Passed}
use Rattle.oxml_base.specs.declared.refusal.Limit.TheVariants.{Bytes, Captures, Tokens, TypeSize}
use Rattle.oxml_base.specs.declared.refusal.Refusal.{Refusal}
use Rattle.oxml_base.specs.declared.rule.Rule.TheVariants.{LeftOut as FormLeftOut, Syntax}
use Rattle.oxml_base.specs.declared.span.Span.{Span}
use Rattle.ml_tree.specs.declared.scoped.Scoped.{Scoped}
use Rattle.x64_table.specs.declared.image.Code.{Code}
use Rattle.x64_table.specs.declared.image.Sizes.{Sizes}
use Rattle.x64_table.specs.Agreement.{Agrees, no_excuse}
use Rattle.elf_image.specs.Layout.{image_of}
use Rattle.elf_image.specs.Load.{loaded}
use Rattle.oxml_driver.specs.declared.compile.CompileErr.{CompileErr}
use Rattle.oxml_driver.specs.declared.compile.CompileErr.TheVariants.{Refused, Limit, NoMemory}
use Rattle.oxml_driver.specs.Printer.{prints, printer_of}
use Rattle.oxml_driver.specs.Form.{PrintTexts, LeftOut}
use Rattle.oxml_driver.specs.Declarations.{IsIllDeclared}
use Rattle.oxml_driver.specs.Meaning.{meaning_of}
use Rattle.oxml_driver.specs.Names.{HasManyCaptures, IsMisnamed, most_captures}
use Rattle.oxml_driver.specs.Source.{IsFaulty, IsTooMany, IsNoProgram, most_tokens}
use Rattle.oxml_driver.specs.Types.{HasLargeType, IsIllTyped, IsWellTyped, most_type_size}

-- the most bytes of a source
abbrev pub most_bytes : ℕ
most_bytes = 1_048_576

-- the words of the area, the local stack and the call stack where the command says nothing else
abbrev pub default_sizes : Sizes
default_sizes = record { area = 16_777_216; local = 2_097_152; stack = 8_388_608 }

-- the sizes are within their ranges
pub record AreSizes (sizes : Sizes) : Type 0 where
  pub area : sizes.area ≤ 134_217_728
  pub local : sizes.local ≤ 134_217_728
  pub stack_low : 1_024 ≤ sizes.stack
  pub stack_high : sizes.stack ≤ 134_217_728

-- the bytes load to an image of these sizes that writes the texts in order and ends, whatever the kernel
-- answers
pub record IsPrinter (texts : List (List ℕ)) (sizes : Sizes) (bytes : List ℕ) : Type 0 where
  pub code : Code
  pub loads : loaded bytes ≡ Ok (image_of code sizes)
  pub agrees : Agrees (prints texts) no_excuse (image_of code sizes)

-- the code that writes the texts, which fits an executable
pub record IsPrinterCode (texts : List (List ℕ)) (code : Code) : Type 0 where
  pub is_printer : code ≡ printer_of texts
  pub least : 1 ≤ length code.bytes
  pub most : length code.bytes ≤ 1_060_004_096
  pub literals : length code.literals ≤ 1_060_004_096

-- the source is within the limit of bytes, its program has types, and the items of its file print these texts
pub record PrintsTexts (source : List ℕ) (texts : List (List ℕ)) : Type 0 where
  pub short : length source ≤ most_bytes
  pub scoped : Scoped
  pub is_typed : IsWellTyped source scoped
  pub print : PrintTexts scoped (length source) scoped.program.items texts

-- the bytes load to an image of these sizes that does what the program means, whatever the kernel answers
pub record IsExecutable (scoped : Scoped) (sizes : Sizes) (bytes : List ℕ) : Type 0 where
  pub code : Code
  pub loads : loaded bytes ≡ Ok (image_of code sizes)
  pub agrees : Agrees (meaning_of scoped) no_excuse (image_of code sizes)

-- the items of the source's file print texts, and the bytes are an executable that does what its program
-- means
pub record Compiles (source : List ℕ) (sizes : Sizes) (bytes : List ℕ) : Type 0 where
  pub texts : List (List ℕ)
  pub prints : PrintsTexts source texts
  pub image : IsExecutable prints.scoped sizes bytes

-- the rule that a source of so many bytes violates, the first in the order of the compiler: a lexical
-- fault; where the tokens have no tree, the syntax; where they have one, a rule of names; where no rule of
-- names is violated, a rule of declarations; where none of these is, a rule of types, of which that of
-- comparisons comes last; where the program has types, a form that is left out
pub data Violates (source : List ℕ) : Refusal → Type 0 where
  lexical : {refusal : Refusal} → IsFaulty source refusal → Violates source refusal
  syntax_error : {refusal : Refusal} → refusal.rule ≡ Syntax → IsNoProgram source → Violates source refusal
  misnamed : {refusal : Refusal} → IsMisnamed source refusal → Violates source refusal
  ill_declared : {refusal : Refusal} → IsIllDeclared source refusal → Violates source refusal
  ill_typed : {refusal : Refusal} → IsIllTyped source refusal → Violates source refusal
  form : {refusal : Refusal} {scoped : Scoped} → refusal.rule ≡ FormLeftOut → IsWellTyped source scoped →
      LeftOut scoped (length source) scoped.program.items refusal.span → Violates source refusal

-- the source is within the limit of bytes and violates a rule
pub record IsRefused (source : List ℕ) (refusal : Refusal) : Type 0 where
  pub short : length source ≤ most_bytes
  pub violates : Violates source refusal

-- the limit that a source passes, the first in the order of the compiler; that of a type's size has a place
pub data Passes (source : List ℕ) : Passed → Option Span → Type 0 where
  bytes : most_bytes < length source → Passes source (Bytes (most_bytes + 1)) None
  tokens : length source ≤ most_bytes → IsTooMany source → Passes source (Tokens (most_tokens + 1)) None
  captures : length source ≤ most_bytes → HasManyCaptures source → Passes source (Captures (most_captures + 1)) None
  type_size : {span : Span} → length source ≤ most_bytes → HasLargeType source span →
      Passes source (TypeSize (most_type_size + 1)) (Some span)

-- why a source is not compiled
abbrev pub NotCompiled : List ℕ → CompileErr → Type 0
NotCompiled source (Refused refusal) = IsRefused source refusal
NotCompiled source (Limit limit span) = Passes source limit span
NotCompiled source NoMemory = Unit {0}
