-- The names that single kinds of patterns bind.
use Rattle.std.proofs.Common.{◌≡◌, ℕ, ℤ, Bool, List, map, Option, Some, None, refl, sym, ap, ◌∙◌}
use Rattle.std.specs.Option.{option_map}
use Rattle.oxml_base.specs.declared.span.Span.{Span}
use Rattle.oxml_base.specs.declared.literal.Lit.{Lit}
use Rattle.ml_tree.specs.declared.words.Words.{Words}
use Rattle.ml_tree.specs.declared.types.TyExpr.{TyExpr}
use Rattle.ml_tree.specs.declared.pattern.ConName.{ConName}
use Rattle.ml_tree.specs.declared.pattern.FieldPat.{FieldPat, out-FieldPat, fold_out-FieldPat}
use Rattle.ml_tree.specs.declared.pattern.Pat.{Pat, out-Pat, fold_out-Pat}
use Rattle.ml_tree.specs.declared.pattern.PatKind.{PatKind, fold-PatKind, fold-roll-PatKind}
use Rattle.ml_tree.specs.declared.pattern.PatKind.TheVariants as P
use Rattle.ml_tree.specs.declared.pattern.PatKind.TheOpen as p
use Rattle.ml_typing.specs.Steps.{binders, kind_binders, field_binders, whole_binders}
use Rattle.hm_steps.specs.Blocks.{binders_of_field, binders_of_any}

abbrev pub of_kind : PatKind → ℕ → List ℕ
of_kind k = fold-PatKind (ℕ → List ℕ) (List ℕ) (List ℕ) kind_binders field_binders whole_binders k

-- a pattern by its kind
pub by_kind : (q : Pat) (k : PatKind) (names : ℕ → List ℕ) → (out-Pat q).kind ≡ k → of_kind k ≡ names → binders q ≡ names (out-Pat q).id
by_kind q k names is law = fold_out-Pat (ℕ → List ℕ) (List ℕ) (List ℕ) kind_binders field_binders whole_binders q ∙ (ap (λ z. of_kind z (out-Pat q).id) is ∙ ap (λ z. z (out-Pat q).id) law)

pub of_field : (f : FieldPat) → binders_of_field f ≡ binders (out-FieldPat f).pat
of_field f = fold_out-FieldPat (ℕ → List ℕ) (List ℕ) (List ℕ) kind_binders field_binders whole_binders f

con : (name : ConName) (arg : Option Pat) → of_kind (P.Con name arg) ≡ kind_binders (p.Con name (option_map binders arg))
con name None = ap of_kind (sym (P.rolls-Con name None)) ∙ fold-roll-PatKind (ℕ → List ℕ) (List ℕ) (List ℕ) kind_binders field_binders whole_binders (p.Con name None)
con name (Some q) = ap of_kind (sym (P.rolls-Con name (Some q))) ∙ fold-roll-PatKind (ℕ → List ℕ) (List ℕ) (List ℕ) kind_binders field_binders whole_binders (p.Con name (Some q))

con_binders : (name : ConName) (arg : Option (List ℕ)) (n : ℕ) → kind_binders (p.Con name arg) n ≡ binders_of_any arg
con_binders name None n = refl
con_binders name (Some ns) n = refl

pub of_con : (q : Pat) (name : ConName) (arg : Option Pat) → (out-Pat q).kind ≡ P.Con name arg → binders q ≡ binders_of_any (option_map binders arg)
of_con q name arg is = by_kind q (P.Con name arg) (kind_binders (p.Con name (option_map binders arg))) is (con name arg) ∙ con_binders name (option_map binders arg) (out-Pat q).id

pub cons : (q u : Pat) → of_kind (P.Cons q u) ≡ kind_binders (p.Cons (binders q) (binders u))
cons q u = ap of_kind (sym (P.rolls-Cons q u)) ∙ fold-roll-PatKind (ℕ → List ℕ) (List ℕ) (List ℕ) kind_binders field_binders whole_binders (p.Cons q u)

pub either : (q u : Pat) → of_kind (P.Or q u) ≡ kind_binders (p.Or (binders q) (binders u))
either q u = ap of_kind (sym (P.rolls-Or q u)) ∙ fold-roll-PatKind (ℕ → List ℕ) (List ℕ) (List ℕ) kind_binders field_binders whole_binders (p.Or q u)

pub tuple : (qs : List Pat) → of_kind (P.Tuple qs) ≡ kind_binders (p.Tuple (map binders qs))
tuple qs = ap of_kind (sym (P.rolls-Tuple qs)) ∙ fold-roll-PatKind (ℕ → List ℕ) (List ℕ) (List ℕ) kind_binders field_binders whole_binders (p.Tuple qs)

pub list : (qs : List Pat) → of_kind (P.List qs) ≡ kind_binders (p.List (map binders qs))
list qs = ap of_kind (sym (P.rolls-List qs)) ∙ fold-roll-PatKind (ℕ → List ℕ) (List ℕ) (List ℕ) kind_binders field_binders whole_binders (p.List qs)

pub fields : (fs : List FieldPat) (rest : Bool) → of_kind (P.Fields fs rest) ≡ kind_binders (p.Fields (map binders_of_field fs) rest)
fields fs rest = ap of_kind (sym (P.rolls-Fields fs rest)) ∙ fold-roll-PatKind (ℕ → List ℕ) (List ℕ) (List ℕ) kind_binders field_binders whole_binders (p.Fields fs rest)

pub named : (q : Pat) (name : Span) → of_kind (P.Named q name) ≡ kind_binders (p.Named (binders q) name)
named q name = ap of_kind (sym (P.rolls-Named q name)) ∙ fold-roll-PatKind (ℕ → List ℕ) (List ℕ) (List ℕ) kind_binders field_binders whole_binders (p.Named q name)

pub typed : (q : Pat) (ty : TyExpr) → of_kind (P.Typed q ty) ≡ kind_binders (p.Typed (binders q) ty)
typed q ty = ap of_kind (sym (P.rolls-Typed q ty)) ∙ fold-roll-PatKind (ℕ → List ℕ) (List ℕ) (List ℕ) kind_binders field_binders whole_binders (p.Typed q ty)

pub paren : (q : Pat) → of_kind (P.Paren q) ≡ kind_binders (p.Paren (binders q))
paren q = ap of_kind (sym (P.rolls-Paren q)) ∙ fold-roll-PatKind (ℕ → List ℕ) (List ℕ) (List ℕ) kind_binders field_binders whole_binders (p.Paren q)

pub any : of_kind P.Any ≡ kind_binders p.Any
any = ap of_kind (sym P.rolls-Any) ∙ fold-roll-PatKind (ℕ → List ℕ) (List ℕ) (List ℕ) kind_binders field_binders whole_binders p.Any

pub name : (words : Words) (span : Span) → of_kind (P.Name words span) ≡ kind_binders (p.Name words span)
name words span = ap of_kind (sym (P.rolls-Name words span)) ∙ fold-roll-PatKind (ℕ → List ℕ) (List ℕ) (List ℕ) kind_binders field_binders whole_binders (p.Name words span)

pub int_value : (value : ℤ) → of_kind (P.Int value) ≡ kind_binders (p.Int value)
int_value value = ap of_kind (sym (P.rolls-Int value)) ∙ fold-roll-PatKind (ℕ → List ℕ) (List ℕ) (List ℕ) kind_binders field_binders whole_binders (p.Int value)

pub char_value : (value : ℕ) → of_kind (P.Char value) ≡ kind_binders (p.Char value)
char_value value = ap of_kind (sym (P.rolls-Char value)) ∙ fold-roll-PatKind (ℕ → List ℕ) (List ℕ) (List ℕ) kind_binders field_binders whole_binders (p.Char value)

pub text_value : (value : Lit) → of_kind (P.Text value) ≡ kind_binders (p.Text value)
text_value value = ap of_kind (sym (P.rolls-Text value)) ∙ fold-roll-PatKind (ℕ → List ℕ) (List ℕ) (List ℕ) kind_binders field_binders whole_binders (p.Text value)
