-- The steps of the parts of a pattern, kind by kind.
use Rattle.std.proofs.Common.{◌≡◌, ℕ, ℤ, Bool, List, ◌++◌, map, Option, ap, ◌∙◌}
use Rattle.std.specs.Option.{option_map}
use Rattle.oxml_base.specs.declared.span.Span.{Span}
use Rattle.oxml_base.specs.declared.literal.Lit.{Lit}
use Rattle.ml_tree.specs.declared.words.Words.{Words}
use Rattle.ml_tree.specs.declared.types.TyExpr.{TyExpr}
use Rattle.ml_tree.specs.declared.pattern.ConName.{ConName}
use Rattle.ml_tree.specs.declared.pattern.FieldPat.{FieldPat}
use Rattle.ml_tree.specs.declared.pattern.Pat.{Pat}
use Rattle.ml_tree.specs.declared.pattern.PatKind.{PatKind}
use Rattle.ml_tree.specs.declared.pattern.PatKind.TheVariants as P
use Rattle.ml_typing.specs.declared.equation.Step.{Step}
use Rattle.ml_typing.specs.Written.{Names}
use Rattle.ml_typing.specs.Rows.{pattern, pattern_kind, field_pattern, field_parts, steps_of, steps_of_any, all_steps}
use Rattle.hm_steps.proofs.PatternLayers as L
use Rattle.hm_steps.proofs.Walks.{two, nothing, of_kind}

pub con : (names : Names) (kind : PatKind) (name : ConName) (arg : Option Pat) (n : ℕ) (old new : List Step) → kind ≡ P.Con name arg → new ≡ old ++ steps_of_any (option_map (pattern names) arg) → new ≡ old ++ (pattern_kind names kind).before n
con names kind name arg n old new is e = of_kind (pattern_kind names) kind _ _ n old new is (L.con names name arg) e

pub cons : (names : Names) (kind : PatKind) (q u : Pat) (q' : Pat) (u' : Pat) (n : ℕ) (old mid new : List Step) → kind ≡ P.Cons q u → q' ≡ q → u' ≡ u → mid ≡ old ++ steps_of (pattern names q') → new ≡ mid ++ steps_of (pattern names u') → new ≡ old ++ (pattern_kind names kind).before n
cons names kind q u q' u' n old mid new is same_q same_u e f = of_kind (pattern_kind names) kind _ _ n old new is (L.cons names q u) (two old mid new _ _ (e ∙ ap (λ z. old ++ steps_of (pattern names z)) same_q) (f ∙ ap (λ z. mid ++ steps_of (pattern names z)) same_u))

pub tuple : (names : Names) (kind : PatKind) (qs : List Pat) (qs' : List Pat) (n : ℕ) (old new : List Step) → kind ≡ P.Tuple qs → qs' ≡ qs → new ≡ old ++ all_steps (map (pattern names) qs') → new ≡ old ++ (pattern_kind names kind).before n
tuple names kind qs qs' n old new is same_qs e = of_kind (pattern_kind names) kind _ _ n old new is (L.tuple names qs) (e ∙ ap (λ z. old ++ all_steps (map (pattern names) z)) same_qs)

pub list : (names : Names) (kind : PatKind) (qs : List Pat) (qs' : List Pat) (n : ℕ) (old new : List Step) → kind ≡ P.List qs → qs' ≡ qs → new ≡ old ++ all_steps (map (pattern names) qs') → new ≡ old ++ (pattern_kind names kind).before n
list names kind qs qs' n old new is same_qs e = of_kind (pattern_kind names) kind _ _ n old new is (L.list names qs) (e ∙ ap (λ z. old ++ all_steps (map (pattern names) z)) same_qs)

pub fields : (names : Names) (kind : PatKind) (fs : List FieldPat) (rest : Bool) (fs' : List FieldPat) (n : ℕ) (old new : List Step) → kind ≡ P.Fields fs rest → fs' ≡ fs → new ≡ old ++ all_steps (field_parts (map (field_pattern names) fs')) → new ≡ old ++ (pattern_kind names kind).before n
fields names kind fs rest fs' n old new is same_fs e = of_kind (pattern_kind names) kind _ _ n old new is (L.fields names fs rest) (e ∙ ap (λ z. old ++ all_steps (field_parts (map (field_pattern names) z))) same_fs)

pub either : (names : Names) (kind : PatKind) (q u : Pat) (q' : Pat) (u' : Pat) (n : ℕ) (old mid new : List Step) → kind ≡ P.Or q u → q' ≡ q → u' ≡ u → mid ≡ old ++ steps_of (pattern names q') → new ≡ mid ++ steps_of (pattern names u') → new ≡ old ++ (pattern_kind names kind).before n
either names kind q u q' u' n old mid new is same_q same_u e f = of_kind (pattern_kind names) kind _ _ n old new is (L.either names q u) (two old mid new _ _ (e ∙ ap (λ z. old ++ steps_of (pattern names z)) same_q) (f ∙ ap (λ z. mid ++ steps_of (pattern names z)) same_u))

pub named : (names : Names) (kind : PatKind) (q : Pat) (name : Span) (q' : Pat) (n : ℕ) (old new : List Step) → kind ≡ P.Named q name → q' ≡ q → new ≡ old ++ steps_of (pattern names q') → new ≡ old ++ (pattern_kind names kind).before n
named names kind q name q' n old new is same_q e = of_kind (pattern_kind names) kind _ _ n old new is (L.named names q name) (e ∙ ap (λ z. old ++ steps_of (pattern names z)) same_q)

pub typed : (names : Names) (kind : PatKind) (q : Pat) (ty : TyExpr) (q' : Pat) (n : ℕ) (old new : List Step) → kind ≡ P.Typed q ty → q' ≡ q → new ≡ old ++ steps_of (pattern names q') → new ≡ old ++ (pattern_kind names kind).before n
typed names kind q ty q' n old new is same_q e = of_kind (pattern_kind names) kind _ _ n old new is (L.typed names q ty) (e ∙ ap (λ z. old ++ steps_of (pattern names z)) same_q)

pub paren : (names : Names) (kind : PatKind) (q : Pat) (q' : Pat) (n : ℕ) (old new : List Step) → kind ≡ P.Paren q → q' ≡ q → new ≡ old ++ steps_of (pattern names q') → new ≡ old ++ (pattern_kind names kind).before n
paren names kind q q' n old new is same_q e = of_kind (pattern_kind names) kind _ _ n old new is (L.paren names q) (e ∙ ap (λ z. old ++ steps_of (pattern names z)) same_q)

pub any : (names : Names) (kind : PatKind) (n : ℕ) (old : List Step) → kind ≡ P.Any → old ≡ old ++ (pattern_kind names kind).before n
any names kind n old is = of_kind (pattern_kind names) kind _ _ n old old is (L.any names) (nothing old)

pub name : (names : Names) (kind : PatKind) (words : Words) (span : Span) (n : ℕ) (old : List Step) → kind ≡ P.Name words span → old ≡ old ++ (pattern_kind names kind).before n
name names kind words span n old is = of_kind (pattern_kind names) kind _ _ n old old is (L.name names words span) (nothing old)

pub int_value : (names : Names) (kind : PatKind) (value : ℤ) (n : ℕ) (old : List Step) → kind ≡ P.Int value → old ≡ old ++ (pattern_kind names kind).before n
int_value names kind value n old is = of_kind (pattern_kind names) kind _ _ n old old is (L.int_value names value) (nothing old)

pub char_value : (names : Names) (kind : PatKind) (value : ℕ) (n : ℕ) (old : List Step) → kind ≡ P.Char value → old ≡ old ++ (pattern_kind names kind).before n
char_value names kind value n old is = of_kind (pattern_kind names) kind _ _ n old old is (L.char_value names value) (nothing old)

pub text_value : (names : Names) (kind : PatKind) (value : Lit) (n : ℕ) (old : List Step) → kind ≡ P.Text value → old ≡ old ++ (pattern_kind names kind).before n
text_value names kind value n old is = of_kind (pattern_kind names) kind _ _ n old old is (L.text_value names value) (nothing old)
