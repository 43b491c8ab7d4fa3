-- The rows of single kinds of patterns.
use Rattle.std.proofs.Common.{◌≡◌, ℕ, ℤ, Bool, List, [], ◌∷◌, ◌++◌, Option, Some, None, map, refl, sym, ap, ◌∙◌}
use Rattle.std.specs.Option.{option_map}
use Rattle.oxml_base.specs.declared.span.Span.{Span}
use Rattle.oxml_base.specs.declared.literal.Lit.{Lit}
use Rattle.ml_tree.specs.declared.words.Words.{Words}
use Rattle.ml_tree.specs.declared.types.TyExpr.{TyExpr}
use Rattle.ml_tree.specs.declared.pattern.ConName.{ConName}
use Rattle.ml_tree.specs.declared.pattern.FieldPat.{FieldPat, out-FieldPat, fold_out-FieldPat}
use Rattle.ml_tree.specs.declared.pattern.Pat.{Pat, out-Pat, fold_out-Pat}
use Rattle.ml_tree.specs.declared.pattern.PatKind.{fold-roll-PatKind}
use Rattle.ml_tree.specs.declared.pattern.PatKind.TheVariants as P
use Rattle.ml_tree.specs.declared.pattern.PatKind.TheOpen as p
use Rattle.ml_tree.specs.declared.pattern.PatKind.TheOpen.{PatKind-F}
use Rattle.ml_typing.specs.declared.equation.Unknown.TheVariants.{Node}
use Rattle.ml_typing.specs.declared.equation.Term.{Term}
use Rattle.ml_typing.specs.declared.equation.Equation.{Equation}
use Rattle.ml_typing.specs.Written.{Names}
use Rattle.hm_steps.specs.Blocks.{field_is}
use Rattle.ml_typing.specs.Rows.{Part, Row, FieldPart, equation, node_is, declared_field, pattern, pattern_kind, field_pattern, pattern_row, pattern_field, pattern_whole, part_of, field_part}

pub con : (names : Names) (name : ConName) (arg : Option Pat) → pattern_kind names (P.Con name arg) ≡ pattern_row names (p.Con name (option_map (pattern names) arg))
con names name None = ap (pattern_kind names) (sym (P.rolls-Con name None)) ∙ fold-roll-PatKind Row FieldPart Part (pattern_row names) pattern_field pattern_whole (p.Con name None)
con names name (Some q) = ap (pattern_kind names) (sym (P.rolls-Con name (Some q))) ∙ fold-roll-PatKind Row FieldPart Part (pattern_row names) pattern_field pattern_whole (p.Con name (Some q))

pub cons : (names : Names) (q u : Pat) → pattern_kind names (P.Cons q u) ≡ pattern_row names (p.Cons (pattern names q) (pattern names u))
cons names q u = ap (pattern_kind names) (sym (P.rolls-Cons q u)) ∙ fold-roll-PatKind Row FieldPart Part (pattern_row names) pattern_field pattern_whole (p.Cons q u)

pub tuple : (names : Names) (qs : List Pat) → pattern_kind names (P.Tuple qs) ≡ pattern_row names (p.Tuple (map (pattern names) qs))
tuple names qs = ap (pattern_kind names) (sym (P.rolls-Tuple qs)) ∙ fold-roll-PatKind Row FieldPart Part (pattern_row names) pattern_field pattern_whole (p.Tuple qs)

pub list : (names : Names) (qs : List Pat) → pattern_kind names (P.List qs) ≡ pattern_row names (p.List (map (pattern names) qs))
list names qs = ap (pattern_kind names) (sym (P.rolls-List qs)) ∙ fold-roll-PatKind Row FieldPart Part (pattern_row names) pattern_field pattern_whole (p.List qs)

pub fields : (names : Names) (fs : List FieldPat) (rest : Bool) → pattern_kind names (P.Fields fs rest) ≡ pattern_row names (p.Fields (map (field_pattern names) fs) rest)
fields names fs rest = ap (pattern_kind names) (sym (P.rolls-Fields fs rest)) ∙ fold-roll-PatKind Row FieldPart Part (pattern_row names) pattern_field pattern_whole (p.Fields fs rest)

pub either : (names : Names) (q u : Pat) → pattern_kind names (P.Or q u) ≡ pattern_row names (p.Or (pattern names q) (pattern names u))
either names q u = ap (pattern_kind names) (sym (P.rolls-Or q u)) ∙ fold-roll-PatKind Row FieldPart Part (pattern_row names) pattern_field pattern_whole (p.Or q u)

pub named : (names : Names) (q : Pat) (name : Span) → pattern_kind names (P.Named q name) ≡ pattern_row names (p.Named (pattern names q) name)
named names q name = ap (pattern_kind names) (sym (P.rolls-Named q name)) ∙ fold-roll-PatKind Row FieldPart Part (pattern_row names) pattern_field pattern_whole (p.Named q name)

pub typed : (names : Names) (q : Pat) (ty : TyExpr) → pattern_kind names (P.Typed q ty) ≡ pattern_row names (p.Typed (pattern names q) ty)
typed names q ty = ap (pattern_kind names) (sym (P.rolls-Typed q ty)) ∙ fold-roll-PatKind Row FieldPart Part (pattern_row names) pattern_field pattern_whole (p.Typed q ty)

pub paren : (names : Names) (q : Pat) → pattern_kind names (P.Paren q) ≡ pattern_row names (p.Paren (pattern names q))
paren names q = ap (pattern_kind names) (sym (P.rolls-Paren q)) ∙ fold-roll-PatKind Row FieldPart Part (pattern_row names) pattern_field pattern_whole (p.Paren q)

pub any : (names : Names) → pattern_kind names P.Any ≡ pattern_row names p.Any
any names = ap (pattern_kind names) (sym P.rolls-Any) ∙ fold-roll-PatKind Row FieldPart Part (pattern_row names) pattern_field pattern_whole p.Any

pub name : (names : Names) (words : Words) (span : Span) → pattern_kind names (P.Name words span) ≡ pattern_row names (p.Name words span)
name names words span = ap (pattern_kind names) (sym (P.rolls-Name words span)) ∙ fold-roll-PatKind Row FieldPart Part (pattern_row names) pattern_field pattern_whole (p.Name words span)

pub int_value : (names : Names) (value : ℤ) → pattern_kind names (P.Int value) ≡ pattern_row names (p.Int value)
int_value names value = ap (pattern_kind names) (sym (P.rolls-Int value)) ∙ fold-roll-PatKind Row FieldPart Part (pattern_row names) pattern_field pattern_whole (p.Int value)

pub char_value : (names : Names) (value : ℕ) → pattern_kind names (P.Char value) ≡ pattern_row names (p.Char value)
char_value names value = ap (pattern_kind names) (sym (P.rolls-Char value)) ∙ fold-roll-PatKind Row FieldPart Part (pattern_row names) pattern_field pattern_whole (p.Char value)

pub text_value : (names : Names) (value : Lit) → pattern_kind names (P.Text value) ≡ pattern_row names (p.Text value)
text_value names value = ap (pattern_kind names) (sym (P.rolls-Text value)) ∙ fold-roll-PatKind Row FieldPart Part (pattern_row names) pattern_field pattern_whole (p.Text value)

-- a pattern's node
pub whole : (names : Names) (q : Pat) → pattern names q ≡ part_of (out-Pat q).id (out-Pat q).span (pattern_kind names (out-Pat q).kind)
whole names q = fold_out-Pat Row FieldPart Part (pattern_row names) pattern_field pattern_whole q

pub whole_id : (names : Names) (q : Pat) → (pattern names q).id ≡ (out-Pat q).id
whole_id names q = ap (λ (p : Part). p.id) (whole names q)

pub whole_span : (names : Names) (q : Pat) → (pattern names q).span ≡ (out-Pat q).span
whole_span names q = ap (λ (p : Part). p.span) (whole names q)

pub of_field : (names : Names) (f : FieldPat) → field_pattern names f ≡ field_part (out-FieldPat f).id (out-FieldPat f).name (pattern names (out-FieldPat f).pat)
of_field names f = fold_out-FieldPat Row FieldPart Part (pattern_row names) pattern_field pattern_whole f

-- an equation that a part has a type
pub is_node : (names : Names) (q : Pat) (right : Term) → equation (out-Pat q).span (Node (out-Pat q).id) right ≡ node_is (pattern names q) right
is_node names q right = ap (λ (z : Part). equation z.span (Node z.id) right) (sym (whole names q))

pub is_field : (names : Names) (n : ℕ) (f : FieldPat) (right : Term) (old new : List Equation) → right ≡ declared_field n (names.target (out-FieldPat f).id) → new ≡ old ++ equation (out-Pat (out-FieldPat f).pat).span (Node (out-Pat (out-FieldPat f).pat).id) right ∷ [] → new ≡ old ++ field_is names n (field_pattern names f) ∷ []
is_field names n f right old new e h =
    let q = (out-FieldPat f).pat in
    h ∙ ap (λ z. old ++ z ∷ []) (is_node names q right ∙ (ap (node_is (pattern names q)) e ∙ ap (field_is names n) (sym (of_field names f))))

-- a pattern is no comparison
pub none_compared : (names : Names) (x : PatKind-F Row FieldPart Part) (n : ℕ) → (pattern_row names x).compared n ≡ None
none_compared names p.Any n = refl
none_compared names (p.Name words span) n = refl
none_compared names (p.Int value) n = refl
none_compared names (p.Char value) n = refl
none_compared names (p.Text value) n = refl
none_compared names (p.Con name arg) n = refl
none_compared names (p.Cons q u) n = refl
none_compared names (p.Tuple qs) n = refl
none_compared names (p.List qs) n = refl
none_compared names (p.Fields fs rest) n = refl
none_compared names (p.Or q u) n = refl
none_compared names (p.Named q name) n = refl
none_compared names (p.Typed q ty) n = refl
none_compared names (p.Paren q) n = refl
