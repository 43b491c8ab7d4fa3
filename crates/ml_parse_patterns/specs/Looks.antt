-- What begins at the front of a list of tokens, and how a list of patterns goes on there.
use Rattle.std.specs.Prelude.{◌+◌, ◌-◌, ◌^◌, Bool, true, false, List, drop, None, ℤ, pos, negsuc, neg_ℤ, nat_lt, if◌then◌else◌}
use Rattle.ml_lexer.specs.declared.token.Token.{Token}
use Rattle.ml_tree.specs.declared.pattern.ConName.TheVariants as Name
use Rattle.ml_tree.specs.declared.pattern.Pat.{Pat}
use Rattle.ml_tree.specs.declared.pattern.PatKind.{PatKind}
use Rattle.ml_tree.specs.declared.pattern.PatKind.TheVariants as Kind
use Rattle.ml_cursor.specs.declared.front.Front.{Front}
use Rattle.ml_cursor.specs.Fronts.{front}
use Rattle.ml_parse_types.specs.Looks.{no_words}
use Rattle.ml_cursor.specs.Places.{first_span, extent, int_value, char_value}
use Rattle.ml_parse_patterns.specs.declared.looks.Leaf.{Leaf}
use Rattle.ml_parse_patterns.specs.declared.looks.Leaf.TheVariants.{Any, Bound, Int, Char, Con}
use Rattle.ml_parse_patterns.specs.declared.looks.Lead.{Lead}
use Rattle.ml_parse_patterns.specs.declared.looks.Lead.TheVariants.{Nothing, Whole, Name, Quoted, Paren, Bracket, Brace}
use Rattle.ml_parse_patterns.specs.declared.looks.Listing.{Listing}
use Rattle.ml_parse_patterns.specs.declared.looks.Listing.TheVariants.{Components, Elements}
use Rattle.ml_parse_patterns.specs.declared.looks.After.{After}
use Rattle.ml_parse_patterns.specs.declared.looks.After.TheVariants.{Goes, Stops, Fails}
use Rattle.ml_parse_patterns.specs.declared.looks.AfterField.{AfterField}
use Rattle.ml_parse_patterns.specs.declared.looks.AfterField.TheVariants.{Next, Ends, Broken}
use Rattle.ml_parse_patterns.specs.declared.looks.ParamLead.{ParamLead}
use Rattle.ml_parse_patterns.specs.declared.looks.ParamLead.TheVariants.{Absent, Short, Parens}

-- a node of the tokens from one list on up to another, its number not given yet
abbrev pub node : List Token → List Token → PatKind → Pat
node ts rest kind = record { id = 0; span = extent ts rest; kind = kind }

-- the negation of a number of 63 bits, in which the least number is its own negation
abbrev pub negated : ℤ → ℤ
negated (pos n) = neg_ℤ (pos n)
negated (negsuc n) = if nat_lt n (2 ^ 62 - 1) then pos (n + 1) else negsuc n

abbrev pub leaf_kind : Leaf → PatKind
leaf_kind Any = Kind.Any
leaf_kind (Bound name) = Kind.Name no_words name
leaf_kind (Int value) = Kind.Int value
leaf_kind (Char byte) = Kind.Char byte
leaf_kind (Con name) = Kind.Con name None

-- a minus belongs to the number behind it
abbrev pub minus_by : Front → List Token → Lead
minus_by Front.Int ts = Whole (Int (negated (int_value (drop 1 ts)))) 2
minus_by _ ts = Nothing

abbrev pub paren_by : Front → Lead
paren_by Front.CloseParen = Whole (Con Name.Unit) 2
paren_by _ = Paren

abbrev pub bracket_by : Front → Lead
bracket_by Front.CloseBracket = Whole (Con Name.Nil) 2
bracket_by _ = Bracket

abbrev pub lead_by : Front → List Token → Lead
lead_by Front.Underscore ts = Whole Any 1
lead_by Front.Int ts = Whole (Int (int_value ts)) 1
lead_by Front.Minus ts = minus_by (front (drop 1 ts)) ts
lead_by Front.Char ts = Whole (Char (char_value ts)) 1
lead_by Front.True ts = Whole (Con Name.True) 1
lead_by Front.False ts = Whole (Con Name.False) 1
lead_by Front.Upper ts = Whole (Con (Name.Named (first_span ts))) 1
lead_by Front.Text ts = Quoted
lead_by Front.Lower ts = Name
lead_by Front.Local ts = Name
lead_by Front.Global ts = Name
lead_by Front.Unique ts = Name
lead_by Front.Shared ts = Name
lead_by Front.Once ts = Name
lead_by Front.Many ts = Name
lead_by Front.OpenParen ts = paren_by (front (drop 1 ts))
lead_by Front.OpenBracket ts = bracket_by (front (drop 1 ts))
lead_by Front.OpenBrace ts = Brace
lead_by _ ts = Nothing

-- what the simple pattern is that begins a list of tokens
unfoldable pub lead : List Token → Lead
lead ts = lead_by (front ts) ts

abbrev pub is_pattern : Lead → Bool
is_pattern Nothing = false
is_pattern _ = true

abbrev pub applies_by : Front → List Token → Bool
applies_by Front.Upper us = is_pattern (lead us)
applies_by _ us = false

-- a constructor stands first, and its argument behind it
unfoldable pub applies : List Token → Bool
applies ts = applies_by (front ts) (drop 1 ts)

abbrev pub after_component : Front → After
after_component Front.Comma = Goes 1
after_component _ = Stops 0

-- a `;` before the closing bracket belongs to the list
abbrev pub after_semi : Front → After
after_semi Front.CloseBracket = Stops 2
after_semi _ = Goes 1

abbrev pub after_element : Front → List Token → After
after_element Front.CloseBracket us = Stops 1
after_element Front.Semi us = after_semi (front (drop 1 us))
after_element _ us = Fails

-- how a list of patterns goes on behind one of them
unfoldable pub after : Listing → List Token → After
after Components us = after_component (front us)
after Elements us = after_element (front us) us

abbrev pub after_last_semi : Front → AfterField
after_last_semi Front.CloseBrace = Ends true 4
after_last_semi _ = Broken

abbrev pub after_underscore : Front → List Token → AfterField
after_underscore Front.CloseBrace us = Ends true 3
after_underscore Front.Semi us = after_last_semi (front (drop 3 us))
after_underscore _ us = Broken

abbrev pub after_field_semi : Front → List Token → AfterField
after_field_semi Front.CloseBrace us = Ends false 2
after_field_semi Front.Underscore us = after_underscore (front (drop 2 us)) us
after_field_semi _ us = Next

abbrev pub after_field_by : Front → List Token → AfterField
after_field_by Front.CloseBrace us = Ends false 1
after_field_by Front.Semi us = after_field_semi (front (drop 1 us)) us
after_field_by _ us = Broken

-- how a record pattern goes on behind a field
unfoldable pub after_field : List Token → AfterField
after_field us = after_field_by (front us) us

abbrev pub parens_by : Front → ParamLead
parens_by Front.CloseParen = Short (Con Name.Unit) 2
parens_by _ = Parens

abbrev pub param_lead_by : Front → List Token → ParamLead
param_lead_by Front.Lower ts = Short (Bound (first_span ts)) 1
param_lead_by Front.Underscore ts = Short Any 1
param_lead_by Front.OpenParen ts = parens_by (front (drop 1 ts))
param_lead_by _ ts = Absent

-- what the parameter is that begins a list of tokens
unfoldable pub param_lead : List Token → ParamLead
param_lead ts = param_lead_by (front ts) ts

abbrev pub is_param : ParamLead → Bool
is_param Absent = false
is_param _ = true
