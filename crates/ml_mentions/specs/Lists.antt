-- Lists of lists.
use Rattle.std.specs.Prelude.{List, [], ◌∷◌, ◌++◌}

-- lists one behind the other
abbrev pub all : {A : Type 0} → List (List A) → List A
all [] = []
all (xs ∷ xss) = xs ++ all xss
