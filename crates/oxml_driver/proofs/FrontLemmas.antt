-- What the parts of the front end come to for the source.
use Rattle.std.proofs.Common.{◌≡◌, ◌≤◌, ◌+◌, ℕ, List, length, Option, None, sym, ap, ◌∙◌, length-append, subst, Result, Ok, Err, IfErr}
use Rattle.oxml_base.specs.declared.refusal.Limit.{Limit as Passed}
use Rattle.oxml_base.specs.declared.refusal.Limit.TheVariants.{Tokens}
use Rattle.oxml_base.specs.declared.refusal.Refusal.{Refusal}
use Rattle.oxml_base.specs.declared.rule.Rule.TheVariants.{LeftOut as FormLeftOut, Syntax}
use Rattle.oxml_base.specs.declared.span.Span.{Span}
use Rattle.oxml_driver.specs.Prelude.{prelude}
use Rattle.ml_tree.specs.declared.program.Program.{Program}
use Rattle.ml_tree.specs.declared.scoped.Scoped.{Scoped}
use Rattle.ml_decls.specs.Offences.{IsFirst, Offends}
use Rattle.ml_scope.specs.Resolving.{Explains, IsResolved}
use Rattle.ml_scope.specs.declared.scoping.ScopeErr.TheVariants.{Refused as ScopeRefused, Limit as ScopeLimit}
use Rattle.oxml_driver.specs.Form.{LeftOut}
use Rattle.ml_lexer.specs.declared.token.Token.{Token}
use Rattle.oxml_driver.specs.declared.compile.CompileErr.{CompileErr}
use Rattle.oxml_driver.specs.declared.compile.CompileErr.TheVariants.{Refused, Limit, NoMemory}
use Rattle.oxml_driver.specs.Build.{IsRefused, NotCompiled, Passes, captures, tokens, lexical, syntax_error, misnamed, ill_declared, form, most_bytes}
use Rattle.oxml_driver.specs.Declarations.{IsDeclared}
use Rattle.oxml_driver.specs.Types.{IsWellTyped}
use Rattle.oxml_driver.specs.Names.{IsScoped}
use Rattle.oxml_driver.specs.Source.{AreTokens, HasNoTree, IsProgram, HasTokens, IsTooMany, LexFails, program_text, file_part, built_in_part, in_file, in_built_in, most_tokens}

passes : (source : List ℕ) (limit : Passed) (span : Option Span) → length source ≤ most_bytes → IsTooMany source → limit ≡ Tokens (most_tokens + 1) → span ≡ None → Passes source limit span
passes source limit span short many is none = subst (Passes source limit) (sym none) (subst (λ l. Passes source l None) (sym is) (tokens short many))

file_fails : (source : List ℕ) (e : CompileErr) → length source ≤ most_bytes → LexFails (program_text source) (file_part source) e → NotCompiled source e
file_fails source (Refused r) short fault = record { short = short; violates = lexical (in_file fault) }
file_fails source (Limit l span) short (many, (is, none)) = passes source l span short (in_file many) is none
file_fails source NoMemory short fails = tt

built_in_fails : (source : List ℕ) (file : List Token) (e : CompileErr) → length source ≤ most_bytes → HasTokens (program_text source) (file_part source) file → LexFails (program_text source) (built_in_part source) e → NotCompiled source e
built_in_fails source file (Refused r) short has fault =
    record { short = short; violates = lexical (in_built_in has fault) }
built_in_fails source file (Limit l span) short has (many, (is, none)) =
    passes source l span short (in_built_in has many) is none
built_in_fails source file NoMemory short has fails = tt

pub file_err : {A : Type 0} (source text : List ℕ) (part : Span) (result : Result A CompileErr) → length source ≤ most_bytes → text ≡ program_text source → part ≡ file_part source → IfErr result (LexFails text part) → IfErr result (NotCompiled source)
file_err source text part (Ok a) short is here fails = tt
file_err source text part (Err e) short is here fails =
    file_fails source e short (subst (λ t. LexFails t (file_part source) e) is (subst (λ p. LexFails text p e) here fails))

pub built_in_err : {A : Type 0} (source text : List ℕ) (part : Span) (file : List Token) (result : Result A CompileErr) → length source ≤ most_bytes → text ≡ program_text source → part ≡ built_in_part source → HasTokens (program_text source) (file_part source) file → IfErr result (LexFails text part) → IfErr result (NotCompiled source)
built_in_err source text part file (Ok a) short is here has fails = tt
built_in_err source text part file (Err e) short is here has fails =
    built_in_fails source file e short has (subst (λ t. LexFails t (built_in_part source) e) is (subst (λ p. LexFails text p e) here fails))

pub syntax_fails : (source text : List ℕ) (list : List Token) (refusal : Refusal) → length source ≤ most_bytes → text ≡ program_text source → AreTokens source list → refusal.rule ≡ Syntax → HasNoTree text list → IsRefused source refusal
syntax_fails source text list refusal short is are rule none = record {
  short = short;
  violates = syntax_error rule (record { tokens = list; are_tokens = are; no_tree = subst (λ t. HasNoTree t list) is none });
}

pub names_fail : (source text : List ℕ) (program : Program) (refusal : Refusal) → length source ≤ most_bytes → text ≡ program_text source → IsProgram source program → Explains text program.items (ScopeRefused refusal) → IsRefused source refusal
names_fail source text program refusal short is is_program first = record {
  short = short;
  violates = misnamed (record { program = program; is_program = is_program; first = subst (λ t. Explains t program.items (ScopeRefused refusal)) is first });
}

pub names_pass : (source text : List ℕ) (program : Program) (limit : Passed) → length source ≤ most_bytes → text ≡ program_text source → IsProgram source program → Explains text program.items (ScopeLimit limit) → Passes source limit None
names_pass source text program limit short is is_program why =
    let (which, sound, many) = subst (λ t. Explains t program.items (ScopeLimit limit)) is why in
    subst (λ l. Passes source l None) (sym which) (captures short (record { program = program; is_program = is_program; sound = sound; many = many }))

pub is_scoped : (source text : List ℕ) (program : Program) (scoped : Scoped) → text ≡ program_text source → IsProgram source program → IsResolved text program scoped → IsScoped source scoped
is_scoped source text program scoped is is_program resolved =
    let same = sym resolved.program in
    record {
      is_program = subst (λ p. IsProgram source p) same is_program;
      resolved = subst (λ p. IsResolved (program_text source) p scoped) same (subst (λ t. IsResolved t program scoped) is resolved);
    }

pub declarations_fail : (source text : List ℕ) (scoped : Scoped) (refusal : Refusal) → length source ≤ most_bytes → text ≡ program_text source → IsScoped source scoped → IsFirst text scoped.types scoped.program.items refusal → IsRefused source refusal
declarations_fail source text scoped refusal short is is_scoped first = record {
  short = short;
  violates = ill_declared (record { scoped = scoped; is_scoped = is_scoped; first = subst (λ t. IsFirst t scoped.types scoped.program.items refusal) is first });
}

pub is_declared : (source text : List ℕ) (scoped : Scoped) → text ≡ program_text source → IsScoped source scoped → ((refusal : Refusal) → Offends text scoped.types scoped.program.items refusal → ⊥) → IsDeclared source scoped
is_declared source text scoped is is_scoped sound = record {
  is_scoped = is_scoped;
  sound = subst (λ t. (refusal : Refusal) → Offends t scoped.types scoped.program.items refusal → ⊥) is sound;
}

pub form_fails : (source : List ℕ) (scoped : Scoped) (refusal : Refusal) → length source ≤ most_bytes → IsWellTyped source scoped → refusal.rule ≡ FormLeftOut → LeftOut scoped (length source) scoped.program.items refusal.span → IsRefused source refusal
form_fails source scoped refusal short is_typed rule left =
    record { short = short; violates = form rule is_typed left }

pub built_in_part_is : (source text : List ℕ) → text ≡ program_text source → record { start = length source; end = length text } ≡ built_in_part source
built_in_part_is source text is =
    let ends = ap length is ∙ length-append source prelude in
    ap (λ end. record { start = length source; end = end }) ends
