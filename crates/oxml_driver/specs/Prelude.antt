-- The text of the built-in definitions.
use Rattle.std.specs.Prelude.{ℕ, List, codes}

abbrev pub prelude : List ℕ
prelude =
    codes "let not b = if b then false else true\nlet fst (a, _) = a\nlet snd (_, b) = b\nlet ignore _ = ()\nlet print_newline () = print_char '\\n'\nlet print_endline s = print_string s; print_char '\\n'\nlet rec append__ a b = match a with [] -> b | h :: t -> h :: append__ t b\n;;\n"
