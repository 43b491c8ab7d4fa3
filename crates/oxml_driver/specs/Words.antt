-- The words of a command, without the program's own name.
use Rattle.std.specs.Prelude.{◌≡◌, ℕ, ◌&&◌, not, nat_lt, nat_eq, Bool, IsTrue, List, [], ◌∷◌, length, map, codes}
use Rattle.std.specs.Borrow.{Bor}
use Rattle.std.specs.List.{starts_with}

-- what the words say, byte by byte
abbrev pub texts_of : List (Bor (List ℕ)) → List (List ℕ)
texts_of words = map (λ word. word.now) words

-- a word is a value unless it begins with `-` and is longer than that
abbrev pub is_value : List ℕ → Bool
is_value word = not (starts_with nat_eq word (codes "-") && nat_lt 1 (length word))

-- the words are `build FILE -o OUT`
pub record IsBuild (words : List (List ℕ)) (file out : List ℕ) : Type 0 where
  pub spelled : words ≡ codes "build" ∷ file ∷ codes "-o" ∷ out ∷ []
  pub file_value : IsTrue (is_value file)
  pub out_value : IsTrue (is_value out)
