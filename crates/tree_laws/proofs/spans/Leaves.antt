-- The last token of a leaf stands.
use Rattle.std.proofs.Common.{◌≡◌, ◌≢◌, ◌-◌, ◌<◌, List, [], ◌∷◌, drop, length, refl, sym, arith}
use Rattle.ml_lexer.specs.declared.token.Token.{Token}
use Rattle.ml_cursor.specs.declared.front.Front.{Front}
use Rattle.ml_cursor.specs.declared.front.Front.TheVariants as F
use Rattle.ml_cursor.specs.Fronts.{front}
use Rattle.ml_grammar.specs.declared.looks.Leaf.{Leaf}
use Rattle.ml_grammar.specs.declared.looks.Leaf.TheVariants as L
use Rattle.ml_grammar.specs.declared.looks.AtomLead.TheVariants as A
use Rattle.ml_grammar.specs.Looks.{atom_by, atom_lead, second, third}
use Rattle.ml_grammar.specs.Trees.{width}

path_third : (a b c : Front) → A.Leaf L.Path ≡ atom_by a b c → c ≡ F.Lower
path_third F.Upper F.Dot F.Lower q = refl
path_third F.Upper F.Dot c q = absurd (cc)
path_third F.Upper b c q = absurd (cc)
path_third F.OpenParen F.CloseParen c q = absurd (cc)
path_third F.OpenBracket F.CloseBracket c q = absurd (cc)
path_third F.OpenParen b c q = absurd (cc)
path_third F.OpenBracket b c q = absurd (cc)
path_third a b c q = absurd (cc)

unit_second : (a b c : Front) → A.Leaf L.Unit ≡ atom_by a b c → b ≡ F.CloseParen
unit_second F.OpenParen F.CloseParen c q = refl
unit_second F.OpenParen b c q = absurd (cc)
unit_second F.Upper F.Dot F.Lower q = absurd (cc)
unit_second F.Upper F.Dot c q = absurd (cc)
unit_second F.Upper b c q = absurd (cc)
unit_second F.OpenBracket F.CloseBracket c q = absurd (cc)
unit_second F.OpenBracket b c q = absurd (cc)
unit_second a b c q = absurd (cc)

nil_second : (a b c : Front) → A.Leaf L.Nil ≡ atom_by a b c → b ≡ F.CloseBracket
nil_second F.OpenBracket F.CloseBracket c q = refl
nil_second F.OpenBracket b c q = absurd (cc)
nil_second F.Upper F.Dot F.Lower q = absurd (cc)
nil_second F.Upper F.Dot c q = absurd (cc)
nil_second F.Upper b c q = absurd (cc)
nil_second F.OpenParen F.CloseParen c q = absurd (cc)
nil_second F.OpenParen b c q = absurd (cc)
nil_second a b c q = absurd (cc)

second_stands : (ts : List Token) (f : Front) → second ts ≡ f → f ≢ F.Nothing → length (drop 2 ts) < length (drop 1 ts)
second_stands [] f q n = absurd (n (sym q))
second_stands (t ∷ []) f q n = absurd (n (sym q))
second_stands (t ∷ u ∷ ts) f q n = omega arith

third_stands : (ts : List Token) (f : Front) → third ts ≡ f → f ≢ F.Nothing → length (drop 3 ts) < length (drop 2 ts)
third_stands [] f q n = absurd (n (sym q))
third_stands (t ∷ []) f q n = absurd (n (sym q))
third_stands (t ∷ u ∷ []) f q n = absurd (n (sym q))
third_stands (t ∷ u ∷ v ∷ ts) f q n = omega arith

pub leaf_last : (l : Leaf) (ts : List Token) → A.Leaf l ≡ atom_lead ts → length (drop (width l) ts) < length ts → length (drop (width l) ts) < length (drop (width l - 1) ts)
unfolding atom_lead
leaf_last L.Path ts q lt = third_stands ts F.Lower (path_third (front ts) (second ts) (third ts) q) (λ h. cc)
leaf_last L.Unit ts q lt = second_stands ts F.CloseParen (unit_second (front ts) (second ts) (third ts) q) (λ h. cc)
leaf_last L.Nil ts q lt = second_stands ts F.CloseBracket (nil_second (front ts) (second ts) (third ts) q) (λ h. cc)
leaf_last L.Int ts q lt = lt
leaf_last L.Char ts q lt = lt
leaf_last L.Name ts q lt = lt
leaf_last L.Upper ts q lt = lt
leaf_last L.True ts q lt = lt
leaf_last L.False ts q lt = lt
