-- The `let`s that an `in` closes, found by matching `let`s and brackets as parentheses are matched.
use Rattle.std.specs.Prelude.{Bool, true, false, List, [], ◌∷◌}
use Rattle.ml_lexer.specs.declared.token.Token.{Token}
use Rattle.ml_cursor.specs.declared.front.Front.{Front}
use Rattle.ml_cursor.specs.declared.front.Front.TheVariants.{Let, In, Begin, End, OpenParen, CloseParen, OpenBracket, CloseBracket, OpenBrace, CloseBrace, TypeWord, SemiSemi}
use Rattle.ml_cursor.specs.Fronts.{of_kind}
use Rattle.ml_cursor.specs.declared.lets.Role.{Role}
use Rattle.ml_cursor.specs.declared.lets.Role.TheVariants.{OpensLet, OpensBracket, ClosesLet, ClosesBracket, EndsAll, Passes}
use Rattle.ml_cursor.specs.declared.lets.Closing.{Closing}
use Rattle.ml_cursor.specs.declared.lets.Closing.TheVariants.{OfLet, OfBracket}

-- what a token does to the `let`s and brackets that are open
unfoldable pub role_of : Front → Role
role_of Let = OpensLet
role_of In = ClosesLet
role_of OpenParen = OpensBracket
role_of OpenBracket = OpensBracket
role_of OpenBrace = OpensBracket
role_of Begin = OpensBracket
role_of CloseParen = ClosesBracket
role_of CloseBracket = ClosesBracket
role_of CloseBrace = ClosesBracket
role_of End = ClosesBracket
role_of TypeWord = EndsAll
role_of SemiSemi = EndsAll
role_of _ = Passes

-- behind the first closing bracket; nothing where there is none
abbrev pub behind_bracket : List Closing → List Closing
behind_bracket [] = []
behind_bracket (OfBracket ∷ cs) = cs
behind_bracket (OfLet ∷ cs) = behind_bracket cs

-- a `let` is closed by what comes first, and only by an `in`: a closing bracket drops it
abbrev pub behind_let : List Closing → List Closing
behind_let (OfLet ∷ cs) = cs
behind_let cs = cs

-- the closings that are left once a token of a role has taken its own: an opening bracket takes the
-- first closing bracket, and each `in` before it closes nothing
abbrev pub taken : Role → List Closing → List Closing
taken OpensLet cs = behind_let cs
taken OpensBracket cs = behind_bracket cs
taken ClosesLet cs = OfLet ∷ cs
taken ClosesBracket cs = OfBracket ∷ cs
taken EndsAll cs = []
taken Passes cs = cs

-- the `in`s and closing brackets of a list of tokens that close nothing in it; none of those behind
-- a `type` or a `;;`
unfoldable pub closings : List Token → List Closing
closings [] = []
closings (t ∷ ts) = taken (role_of (of_kind t.kind)) (closings ts)

abbrev pub closed_by : Role → List Closing → Bool
closed_by OpensLet (OfLet ∷ cs) = true
closed_by _ _ = false

-- whether the list begins with a `let` that an `in` closes
unfoldable pub begins_closed_let : List Token → Bool
begins_closed_let [] = false
begins_closed_let (t ∷ ts) = closed_by (role_of (of_kind t.kind)) (closings ts)

-- the same for each place of a list of tokens
unfoldable pub closed_lets : List Token → List Bool
closed_lets [] = []
closed_lets (t ∷ ts) = begins_closed_let (t ∷ ts) ∷ closed_lets ts
