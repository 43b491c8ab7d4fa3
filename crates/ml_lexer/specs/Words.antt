-- The words and the signs of the language, each list in the order of its numbers.
use Rattle.std.specs.Prelude.{ℕ, List, [], ◌∷◌, Option, codes, nat_eq}
use Rattle.std.specs.List.{position_from}
use Rattle.std.specs.Cmp.Lexicographic.{pointwise}

-- the words; the second half has the words of OCaml whose forms this language leaves out
abbrev pub words : List (List ℕ)
words =
    codes "and" ∷ codes "as" ∷ codes "asr" ∷ codes "begin" ∷ codes "borrow_" ∷ codes "else" ∷
    codes "end" ∷ codes "exclave_" ∷ codes "false" ∷ codes "fun" ∷ codes "function" ∷
    codes "global_" ∷ codes "if" ∷ codes "in" ∷ codes "land" ∷ codes "let" ∷ codes "local_" ∷
    codes "lor" ∷ codes "lsl" ∷ codes "lsr" ∷ codes "lxor" ∷ codes "many_" ∷ codes "match" ∷
    codes "mod" ∷ codes "of" ∷ codes "once_" ∷ codes "overwrite_" ∷ codes "rec" ∷
    codes "shared_" ∷ codes "then" ∷ codes "true" ∷ codes "type" ∷ codes "unique_" ∷
    codes "when" ∷ codes "with" ∷
    codes "assert" ∷ codes "class" ∷ codes "constraint" ∷ codes "do" ∷ codes "done" ∷
    codes "downto" ∷ codes "exception" ∷ codes "external" ∷ codes "for" ∷ codes "functor" ∷
    codes "include" ∷ codes "inherit" ∷ codes "initializer" ∷ codes "lazy" ∷ codes "method" ∷
    codes "module" ∷ codes "mutable" ∷ codes "new" ∷ codes "nonrec" ∷ codes "object" ∷
    codes "open" ∷ codes "or" ∷ codes "private" ∷ codes "sig" ∷ codes "struct" ∷ codes "to" ∷
    codes "try" ∷ codes "val" ∷ codes "virtual" ∷ codes "while" ∷ []

-- brackets, separators and operators
abbrev pub signs : List (List ℕ)
signs =
    codes "(" ∷ codes ")" ∷ codes "[" ∷ codes "]" ∷ codes "{" ∷ codes "}" ∷ codes "," ∷
    codes ";" ∷ codes ";;" ∷ codes ":" ∷ codes "::" ∷ codes "." ∷ codes "_" ∷ codes "+" ∷
    codes "-" ∷ codes "*" ∷ codes "/" ∷ codes "=" ∷ codes "<>" ∷ codes "<" ∷ codes ">" ∷
    codes "<=" ∷ codes ">=" ∷ codes "&&" ∷ codes "||" ∷ codes "@" ∷ codes "^" ∷ codes "->" ∷
    codes "|" ∷ []

-- the place of a text in a list of texts
unfoldable pub place_in : List (List ℕ) → List ℕ → Option ℕ
place_in texts text = position_from (λ t. pointwise nat_eq t text) 0 texts
