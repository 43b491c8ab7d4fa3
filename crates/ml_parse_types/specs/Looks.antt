-- What one or two tokens say of what begins and of what goes on.
use Rattle.std.specs.Prelude.{Bool, true, false, Option, Some, None}
use Rattle.ml_tree.specs.declared.words.Words.{Words}
use Rattle.ml_tree.specs.declared.words.Loc.TheVariants as L
use Rattle.ml_tree.specs.declared.words.Uni.TheVariants as U
use Rattle.ml_tree.specs.declared.words.Aff.TheVariants as A
use Rattle.ml_cursor.specs.declared.front.Front.{Front}
use Rattle.ml_cursor.specs.declared.front.Front.TheVariants as F
use Rattle.ml_parse_types.specs.declared.looks.Row.{Row}
use Rattle.ml_parse_types.specs.declared.looks.Row.TheVariants.{Alone, Factors, Arguments}
use Rattle.ml_parse_types.specs.declared.looks.After.{After}
use Rattle.ml_parse_types.specs.declared.looks.After.TheVariants.{Goes, Ends, Fails}
use Rattle.ml_parse_types.specs.declared.looks.TypeStart.{TypeStart}
use Rattle.ml_parse_types.specs.declared.looks.TypeStart.TheVariants as T
use Rattle.ml_parse_types.specs.declared.looks.VarsStart.{VarsStart}
use Rattle.ml_parse_types.specs.declared.looks.VarsStart.TheVariants.{NoVars, OneVar, VarGroup}
use Rattle.ml_parse_types.specs.declared.looks.BodyStart.{BodyStart}
use Rattle.ml_parse_types.specs.declared.looks.BodyStart.TheVariants as B
use Rattle.ml_parse_types.specs.declared.words.ModeWord.{ModeWord}
use Rattle.ml_parse_types.specs.declared.words.ModeWord.TheVariants.{OfLoc, OfUni, OfAff}
use Rattle.ml_parse_types.specs.declared.words.WordStep.{WordStep}
use Rattle.ml_parse_types.specs.declared.words.WordStep.TheVariants.{Done, Twice, Adds}

abbrev pub type_start : Front → TypeStart
type_start F.TypeVar = T.Variable
type_start F.Lower = T.Named
type_start F.OpenParen = T.Group
type_start _ = T.Other

abbrev pub is_name : Front → Bool
is_name F.Lower = true
is_name _ = false

abbrev pub is_arrow : Front → Bool
is_arrow F.Arrow = true
is_arrow _ = false

abbrev pub is_of : Front → Bool
is_of F.Of = true
is_of _ = false

-- behind one of several in parentheses: `,` or the closing one
abbrev pub behind_var : Front → After
behind_var F.Comma = Goes
behind_var F.CloseParen = Ends 1
behind_var _ = Fails

-- behind an operand of `*`
abbrev pub behind_factor : Front → After
behind_factor F.Star = Goes
behind_factor _ = Ends 0

abbrev pub behind_part : Row → Front → After
behind_part Alone f = Ends 0
behind_part Factors f = behind_factor f
behind_part Arguments f = behind_var f

abbrev pub behind_con : Front → After
behind_con F.Bar = Goes
behind_con _ = Ends 0

-- behind the `;` of a field
abbrev pub field_semi : Front → After
field_semi F.CloseBrace = Ends 2
field_semi _ = Goes

-- behind a field, by the next token and the one behind it
abbrev pub behind_field : Front → Front → After
behind_field F.Semi next = field_semi next
behind_field F.CloseBrace _ = Ends 1
behind_field _ _ = Fails

abbrev pub behind_decl : Front → After
behind_decl F.And = Goes
behind_decl _ = Ends 0

abbrev pub vars_start : Front → VarsStart
vars_start F.TypeVar = OneVar
vars_start F.OpenParen = VarGroup
vars_start _ = NoVars

abbrev pub body_start : Front → BodyStart
body_start F.Bar = B.Bar
body_start F.Upper = B.Constructor
body_start F.OpenBrace = B.Brace
body_start _ = B.Other

-- the mode that a word states
abbrev pub mode_word : Front → Option ModeWord
mode_word F.Local = Some (OfLoc L.Local)
mode_word F.Global = Some (OfLoc L.Global)
mode_word F.Unique = Some (OfUni U.Unique)
mode_word F.Shared = Some (OfUni U.Shared)
mode_word F.Once = Some (OfAff A.Once)
mode_word F.Many = Some (OfAff A.Many)
mode_word _ = None

abbrev pub no_words : Words
no_words = record { loc = None; uni = None; aff = None }

-- one word more, at most one for each axis
abbrev pub with_loc : L.the_data → Words → Option L.the_data → WordStep
with_loc l w None = Adds (record w { loc = Some l })
with_loc l w (Some m) = Twice

abbrev pub with_uni : U.the_data → Words → Option U.the_data → WordStep
with_uni u w None = Adds (record w { uni = Some u })
with_uni u w (Some v) = Twice

abbrev pub with_aff : A.the_data → Words → Option A.the_data → WordStep
with_aff a w None = Adds (record w { aff = Some a })
with_aff a w (Some b) = Twice

abbrev pub with_word : Words → Option ModeWord → WordStep
with_word w None = Done
with_word w (Some (OfLoc l)) = with_loc l w w.loc
with_word w (Some (OfUni u)) = with_uni u w w.uni
with_word w (Some (OfAff a)) = with_aff a w w.aff
