-- From the bytes of a source to its program.
use Rattle.std.specs.Prelude.{◌≡◌, ℕ, ◌+◌, ◌≤◌, List, ◌++◌, length, None}
use Rattle.oxml_base.specs.declared.span.Span.{Span}
use Rattle.oxml_base.specs.declared.refusal.Limit.TheVariants.{Tokens}
use Rattle.oxml_base.specs.declared.refusal.Refusal.{Refusal}
use Rattle.ml_lexer.specs.declared.token.Token.{Token}
use Rattle.ml_lexer.specs.Tokens.{Tokens as Divides, IsBad, StartsWith}
use Rattle.ml_tree.specs.declared.program.Program.{Program}
use Rattle.ml_grammar.specs.Programs.{Derives}
use Rattle.oxml_driver.specs.Prelude.{prelude}
use Rattle.oxml_driver.specs.declared.compile.CompileErr.{CompileErr}
use Rattle.oxml_driver.specs.declared.compile.CompileErr.TheVariants.{Refused, Limit, NoMemory}

-- the most tokens of a source
abbrev pub most_tokens : ℕ
most_tokens = 200_000

-- the text of a program: the bytes of the file, and behind them those of the built-in definitions
abbrev pub program_text : List ℕ → List ℕ
program_text source = source ++ prelude

abbrev pub file_part : List ℕ → Span
file_part source = record { start = 0; end = length source }

abbrev pub built_in_part : List ℕ → Span
built_in_part source = record { start = length source; end = length source + length prelude }

-- a part of the text has these tokens, and not too many of them
pub record HasTokens (text : List ℕ) (part : Span) (tokens : List Token) : Type 0 where
  pub divides : Divides text part tokens
  pub few : length tokens ≤ most_tokens

-- a part of the text has this first fault, behind not too many tokens
pub record HasFault (text : List ℕ) (part : Span) (refusal : Refusal) : Type 0 where
  pub before : List Token
  pub fault : IsBad text part before refusal
  pub few : length before ≤ most_tokens

-- a part of the text begins with too many tokens
pub record HasTooMany (text : List ℕ) (part : Span) : Type 0 where
  pub front : List Token
  pub begins : StartsWith text part front
  pub many : length front ≡ most_tokens + 1

-- why a part of the text has no tokens that are taken
abbrev pub LexFails : List ℕ → Span → CompileErr → Type 0
LexFails text part (Refused refusal) = HasFault text part refusal
LexFails text part (Limit limit span) = HasTooMany text part × ((limit ≡ Tokens (most_tokens + 1)) × (span ≡ None))
LexFails text part NoMemory = Unit {0}

-- the tokens of a program: those of the built-in definitions, and behind them those of the file
pub record AreTokens (source : List ℕ) (tokens : List Token) : Type 0 where
  pub file : List Token
  pub built_in : List Token
  pub file_has : HasTokens (program_text source) (file_part source) file
  pub built_in_has : HasTokens (program_text source) (built_in_part source) built_in
  pub all : tokens ≡ built_in ++ file

-- the first part that has no tokens has this fault
pub data IsFaulty (source : List ℕ) (refusal : Refusal) : Type 0 where
  in_file : HasFault (program_text source) (file_part source) refusal → IsFaulty source refusal
  in_built_in : {file : List Token} → HasTokens (program_text source) (file_part source) file →
      HasFault (program_text source) (built_in_part source) refusal → IsFaulty source refusal

-- the first part that has no tokens has too many
pub data IsTooMany (source : List ℕ) : Type 0 where
  in_file : HasTooMany (program_text source) (file_part source) → IsTooMany source
  in_built_in : {file : List Token} → HasTokens (program_text source) (file_part source) file →
      HasTooMany (program_text source) (built_in_part source) → IsTooMany source

-- the tokens have no tree
abbrev pub HasNoTree : List ℕ → List Token → Type 0
HasNoTree text tokens = (program : Program) → Derives text tokens program → ⊥

-- the program of the source
pub record IsProgram (source : List ℕ) (program : Program) : Type 0 where
  pub tokens : List Token
  pub are_tokens : AreTokens source tokens
  pub derives : Derives (program_text source) tokens program

-- the source has tokens, and these have no tree
pub record IsNoProgram (source : List ℕ) : Type 0 where
  pub tokens : List Token
  pub are_tokens : AreTokens source tokens
  pub no_tree : HasNoTree (program_text source) tokens
