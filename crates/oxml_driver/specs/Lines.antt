-- The lines that the command writes, each with its line feed.
use Rattle.std.specs.Prelude.{ℕ, List, ◌++◌, Option, Some, None, take, codes, decimal}
use Rattle.oxml_base.specs.declared.refusal.Limit.{Limit}
use Rattle.oxml_base.specs.declared.refusal.Limit.TheVariants.{Captures, Tokens}
use Rattle.oxml_base.specs.declared.refusal.Refusal.{Refusal}
use Rattle.oxml_base.specs.declared.span.Span.{Span}
use Rattle.oxml_base.specs.LineColumn.{line_behind, column_behind}
use Rattle.oxml_base.specs.Rules.{rule_number, rule_text}

abbrev pub usage_line : List ℕ
usage_line = codes "usage: oxml build|check|run|sim|places|sample|sample-build\n"

abbrev pub write_fault_line : List ℕ
write_fault_line = codes "oxml: write fault\n"

abbrev pub no_memory_line : List ℕ
no_memory_line = codes "oxml: want of memory\n"

abbrev pub read_fault_line : List ℕ → List ℕ
read_fault_line file = codes "oxml: read fault: " ++ (file ++ codes "\n")

abbrev pub bytes_limit_line : List ℕ → List ℕ
bytes_limit_line file = file ++ codes ": limit bytes 1048577\n"

abbrev pub tokens_limit_line : List ℕ → List ℕ
tokens_limit_line file = file ++ codes ": limit tokens 200001\n"

abbrev pub captures_limit_line : List ℕ → List ℕ
captures_limit_line file = file ++ codes ": limit captures 100001\n"

-- the line of a type that is too large, with a line and a column
abbrev pub type_limit_line : List ℕ → ℕ → ℕ → List ℕ
type_limit_line file line column =
    file ++ (codes ":" ++ (decimal line ++ (codes ":" ++ (decimal column ++ codes ": limit type size 2001\n"))))

-- the line of a limit without a place
abbrev pub whole_limit_line : List ℕ → Limit → List ℕ
whole_limit_line file (Tokens n) = tokens_limit_line file
whole_limit_line file (Captures n) = captures_limit_line file
whole_limit_line file limit = bytes_limit_line file

-- the line of a limit; one with a place is that of a type's size, with the line and the column of the place,
-- or of the source's end where the place is behind it
abbrev pub limit_line : List ℕ → List ℕ → Limit → Option Span → List ℕ
limit_line file source limit None = whole_limit_line file limit
limit_line file source limit (Some span) =
    type_limit_line file (line_behind (take span.start source)) (column_behind (take span.start source))

-- a rule by its number and text, with a line and a column
abbrev pub placed_line : List ℕ → ℕ → ℕ → ℕ → List ℕ → List ℕ
placed_line file line column number text =
    file ++ (codes ":" ++ (decimal line ++ (codes ":" ++ (decimal column ++ (codes ": rule " ++ (decimal number ++ (codes ": " ++ (text ++ codes "\n"))))))))

-- the rule that a source violates, with the line and the column of the place, or of the source's end where
-- the place is behind it
abbrev pub refusal_line : List ℕ → List ℕ → Refusal → List ℕ
refusal_line file source refusal =
    placed_line file (line_behind (take refusal.span.start source)) (column_behind (take refusal.span.start source)) (rule_number refusal.rule) (rule_text refusal.rule)
