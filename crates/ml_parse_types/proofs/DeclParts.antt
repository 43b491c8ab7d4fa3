-- The parts of a declaration, one lemma for each way out of its reader.
use Rattle.std.proofs.Common.{◌≡◌, ◌≢◌, Bool, true, false, List, [], ◌∷◌, drop, subst, sym, ap, ◌∙◌}
use Rattle.oxml_base.specs.declared.span.Span.{Span}
use Rattle.ml_lexer.specs.declared.token.Token.{Token}
use Rattle.ml_tree.specs.declared.words.Words.{Words}
use Rattle.ml_tree.specs.declared.types.TyExpr.{TyExpr}
use Rattle.ml_tree.specs.declared.types.Arg.{Arg}
use Rattle.ml_tree.specs.declared.types.ConDecl.{ConDecl}
use Rattle.ml_tree.specs.declared.types.FieldDecl.{FieldDecl}
use Rattle.ml_tree.specs.declared.types.DeclBody.{DeclBody}
use Rattle.ml_tree.specs.declared.types.DeclBody.TheVariants.{Variant, Fields, Alias}
use Rattle.ml_tree.specs.declared.types.Decl.{Decl}
use Rattle.ml_cursor.specs.declared.front.Front.TheVariants as F
use Rattle.ml_cursor.specs.Fronts.{front}
use Rattle.ml_cursor.specs.Places.{first_span, Takes}
use Rattle.ml_parse_types.specs.declared.looks.Row.TheVariants.{Alone, Factors}
use Rattle.ml_parse_types.specs.declared.looks.VarsStart.{VarsStart}
use Rattle.ml_parse_types.specs.declared.looks.VarsStart.TheVariants.{NoVars, OneVar, VarGroup}
use Rattle.ml_parse_types.specs.declared.looks.BodyStart.{BodyStart}
use Rattle.ml_parse_types.specs.declared.looks.BodyStart.TheVariants.{Bar, Constructor, Brace, Other}
use Rattle.ml_parse_types.specs.Looks.{is_of, vars_start, body_start}
use Rattle.ml_parse_types.specs.Types.{Got, got, an_arg, ReadsWords, ReadsType}
use Rattle.ml_parse_types.specs.Decls.{ReadsItems, ReadsVar, a_var, var_behind, VarsBy, no_vars, one_var, some_vars, ReadsVars, ReadsArg, con_arg, arg_behind, ArgsBy, no_args, some_args, ReadsArgs, a_con, ReadsCon, con, con_behind, a_field, ReadsField, field, field_behind, BodyBy, barred, variant, fields, alias, ReadsBody, a_decl, ReadsDecl, decl}
use Rattle.ml_parse_types.specs.Readers.{IsNone}
use Rattle.ml_parse_types.proofs.Unique.{same_words, same_vars}

-- one variable of several
pub var_taken : (ts us : List Token) (s : Span) → Takes F.TypeVar ts us s → ReadsVar ts (got s us)
var_taken ts us s t = subst (λ (r : List Token). ReadsVar ts (got s r)) (sym t.rest_is) (subst (λ (x : Span). ReadsVar ts (got x (drop 1 ts))) (sym t.span_is) (a_var t.stands))

no_var : {ts : List Token} {o : Got Span} → front ts ≢ F.TypeVar → ReadsVar ts o → ⊥
no_var n (a_var e) = n e

pub var_absent : (ts : List Token) → front ts ≢ F.TypeVar → IsNone ReadsVar ts
var_absent ts n = record { none = λ o d. no_var n d }

-- the variables of a declaration
by_start : (ts : List Token) (k : VarsStart) → k ≡ vars_start (front ts) → (o : Got (List Span)) → VarsBy k ts o → ReadsVars ts o
by_start ts k e o d = subst (λ (x : VarsStart). VarsBy x ts o) e d

from_start : (ts : List Token) (k v : VarsStart) → k ≡ vars_start (front ts) → k ≡ v → (o : Got (List Span)) → ReadsVars ts o → VarsBy v ts o
from_start ts k v e f o d = subst (λ (x : VarsStart). VarsBy x ts o) (sym e ∙ f) d

pub vars_none : (ts : List Token) (k : VarsStart) (l : List Span) → k ≡ vars_start (front ts) → k ≡ NoVars → l ≡ [] → ReadsVars ts (got l ts)
vars_none ts k l e f g = subst (λ (x : List Span). ReadsVars ts (got x ts)) (sym g) (by_start ts NoVars (sym f ∙ e) (got [] ts) no_vars)

pub vars_one : (ts us : List Token) (k : VarsStart) (l : List Span) → k ≡ vars_start (front ts) → k ≡ OneVar → VarsBy OneVar ts (got l us) → ReadsVars ts (got l us)
vars_one ts us k l e f d = by_start ts OneVar (sym f ∙ e) (got l us) d

pub a_lone_var : (ts us : List Token) (l : List Span) → l ≡ first_span ts ∷ [] → us ≡ drop 1 ts → VarsBy OneVar ts (got l us)
a_lone_var ts us l e f = subst (λ (x : List Span). VarsBy OneVar ts (got x us)) (sym e) (subst (λ (x : List Token). VarsBy OneVar ts (got (first_span ts ∷ []) x)) (sym f) one_var)

pub vars_many : (ts us vs : List Token) (k : VarsStart) (l : List Span) → k ≡ vars_start (front ts) → k ≡ VarGroup → us ≡ drop 1 ts → ReadsItems ReadsVar var_behind us (got l vs) → ReadsVars ts (got l vs)
vars_many ts us vs k l e f g d = by_start ts VarGroup (sym f ∙ e) (got l vs) (some_vars (subst (λ (x : List Token). ReadsItems ReadsVar var_behind x (got l vs)) g d))

group_of : {ts : List Token} {o : Got (List Span)} → VarsBy VarGroup ts o → ReadsItems ReadsVar var_behind (drop 1 ts) o
group_of (some_vars d) = d

pub vars_bad : (ts us : List Token) (k : VarsStart) → k ≡ vars_start (front ts) → k ≡ VarGroup → us ≡ drop 1 ts → IsNone (ReadsItems ReadsVar var_behind) us → IsNone ReadsVars ts
vars_bad ts us k e f g n = record { none = λ o d. n.none o (subst (λ (x : List Token). ReadsItems ReadsVar var_behind x o) (sym g) (group_of (from_start ts k VarGroup e f o d))) }

-- an arg of a constructor
pub arg_read : (ts us vs : List Token) (w : Words) (t : TyExpr) (a : Arg) → ReadsWords ts (got w us) → ReadsType Alone us (got t vs) → a ≡ an_arg w t → ReadsArg ts (got a vs)
arg_read ts us vs w t a d e f = subst (λ (x : Arg). ReadsArg ts (got x vs)) (sym f) (con_arg d e)

arg_parts : {P : Type 0} {ts : List Token} {o : Got Arg} → ((w : Got Words) (t : Got TyExpr) → ReadsWords ts w → ReadsType Alone w.rest t → P) → ReadsArg ts o → P
arg_parts f (con_arg {w = w} {t = t} d e) = f w t d e

pub arg_no_words : (ts : List Token) → IsNone ReadsWords ts → IsNone ReadsArg ts
arg_no_words ts n = record { none = λ o d. arg_parts (λ w t a b. n.none w a) d }

pub arg_no_type : (ts us : List Token) (w : Words) → ReadsWords ts (got w us) → IsNone (ReadsType Alone) us → IsNone ReadsArg ts
arg_no_type ts us w d n = record {
  none = λ o e. arg_parts (λ v t a b. n.none t (subst (λ (x : Got Words). ReadsType Alone x.rest t) (same_words a d) b)) e;
}

-- the args of a constructor
pub args_none : (ts : List Token) (k : Bool) (l : List Arg) → k ≡ is_of (front ts) → k ≡ false → l ≡ [] → ReadsArgs ts (got l ts)
args_none ts k l e f g = subst (λ (x : List Arg). ReadsArgs ts (got x ts)) (sym g) (subst (λ (x : Bool). ArgsBy x ts (got [] ts)) (sym f ∙ e) no_args)

pub args_many : (ts us vs : List Token) (k : Bool) (l : List Arg) → k ≡ is_of (front ts) → k ≡ true → us ≡ drop 1 ts → ReadsItems ReadsArg arg_behind us (got l vs) → ReadsArgs ts (got l vs)
args_many ts us vs k l e f g d = subst (λ (x : Bool). ArgsBy x ts (got l vs)) (sym f ∙ e) (some_args (subst (λ (x : List Token). ReadsItems ReadsArg arg_behind x (got l vs)) g d))

args_of : {ts : List Token} {o : Got (List Arg)} → ArgsBy true ts o → ReadsItems ReadsArg arg_behind (drop 1 ts) o
args_of (some_args d) = d

pub args_bad : (ts us : List Token) (k : Bool) → k ≡ is_of (front ts) → k ≡ true → us ≡ drop 1 ts → IsNone (ReadsItems ReadsArg arg_behind) us → IsNone ReadsArgs ts
args_bad ts us k e f g n = record { none = λ o d. n.none o (subst (λ (x : List Token). ReadsItems ReadsArg arg_behind x o) (sym g) (args_of (subst (λ (x : Bool). ArgsBy x ts o) (sym e ∙ f) d))) }

-- a constructor
pub con_read : (ts us vs : List Token) (s : Span) (l : List Arg) → Takes F.Upper ts us s → ReadsArgs us (got l vs) → ReadsCon ts (got (a_con s l) vs)
con_read ts us vs s l t d = subst (λ (x : Span). ReadsCon ts (got (a_con x l) vs)) (sym t.span_is) (con t.stands (subst (λ (x : List Token). ReadsArgs x (got l vs)) t.rest_is d))

con_parts : {P : Type 0} {ts : List Token} {o : Got ConDecl} → ((l : Got (List Arg)) → front ts ≡ F.Upper → ReadsArgs (drop 1 ts) l → P) → ReadsCon ts o → P
con_parts f (con {l = l} e d) = f l e d

pub con_no_name : (ts : List Token) → front ts ≢ F.Upper → IsNone ReadsCon ts
con_no_name ts n = record { none = λ o d. con_parts (λ l e a. n e) d }

pub con_no_args : (ts us : List Token) (s : Span) → Takes F.Upper ts us s → IsNone ReadsArgs us → IsNone ReadsCon ts
con_no_args ts us s t n = record { none = λ o d. con_parts (λ l e a. n.none l (subst (λ (x : List Token). ReadsArgs x l) (sym t.rest_is) a)) d }

-- a field
pub field_read : (ts us vs ws xs : List Token) (w : Words) (s u : Span) (t : TyExpr) (a : Arg) → ReadsWords ts (got w us) → Takes F.Lower us vs s → Takes F.Colon vs ws u → ReadsType Factors ws (got t xs) → a ≡ an_arg w t → ReadsField ts (got (a_field s a) xs)
field_read ts us vs ws xs w s u t a d n c e f =
    let rest : ws ≡ drop 1 (drop 1 us) = c.rest_is ∙ ap (drop 1) n.rest_is in
    let whole : ReadsField ts (got (a_field (first_span us) (an_arg w t)) xs) = field d n.stands (subst (λ (x : List Token). front x ≡ F.Colon) n.rest_is c.stands) (subst (λ (x : List Token). ReadsType Factors x (got t xs)) rest e) in
    subst (λ (x : Arg). ReadsField ts (got (a_field s x) xs)) (sym f) (subst (λ (x : Span). ReadsField ts (got (a_field x (an_arg w t)) xs)) (sym n.span_is) whole)

field_parts : {P : Type 0} {ts us : List Token} {w : Words} {o : Got FieldDecl} → ReadsWords ts (got w us) → ((t : Got TyExpr) → front us ≡ F.Lower → front (drop 1 us) ≡ F.Colon → ReadsType Factors (drop 1 (drop 1 us)) t → P) → ReadsField ts o → P
field_parts d f (field {w = v} {t = t} a e g b) =
    let q = same_words a d in
    f t (subst (λ (x : Got Words). front x.rest ≡ F.Lower) q e) (subst (λ (x : Got Words). front (drop 1 x.rest) ≡ F.Colon) q g) (subst (λ (x : Got Words). ReadsType Factors (drop 1 (drop 1 x.rest)) t) q b)

field_words : {P : Type 0} {ts : List Token} {o : Got FieldDecl} → ((w : Got Words) → ReadsWords ts w → P) → ReadsField ts o → P
field_words f (field {w = w} a e g b) = f w a

pub field_no_words : (ts : List Token) → IsNone ReadsWords ts → IsNone ReadsField ts
field_no_words ts n = record { none = λ o d. field_words (λ w a. n.none w a) d }

pub field_no_name : (ts us : List Token) (w : Words) → ReadsWords ts (got w us) → front us ≢ F.Lower → IsNone ReadsField ts
field_no_name ts us w d n = record { none = λ o e. field_parts d (λ t a b c. n a) e }

pub field_no_colon : (ts us vs : List Token) (w : Words) (s : Span) → ReadsWords ts (got w us) → Takes F.Lower us vs s → front vs ≢ F.Colon → IsNone ReadsField ts
field_no_colon ts us vs w s d t n = record { none = λ o e. field_parts d (λ u a b c. n (subst (λ (x : List Token). front x ≡ F.Colon) (sym t.rest_is) b)) e }

pub field_no_type : (ts us vs ws : List Token) (w : Words) (s u : Span) → ReadsWords ts (got w us) → Takes F.Lower us vs s → Takes F.Colon vs ws u → IsNone (ReadsType Factors) ws → IsNone ReadsField ts
field_no_type ts us vs ws w s u d n c i =
    let rest : ws ≡ drop 1 (drop 1 us) = c.rest_is ∙ ap (drop 1) n.rest_is in
    record { none = λ o e. field_parts d (λ t a b f. i.none t (subst (λ (x : List Token). ReadsType Factors x t) (sym rest) f)) e }

-- what a name stands for
by_body : (ts : List Token) (k v : BodyStart) → k ≡ body_start (front ts) → k ≡ v → (o : Got DeclBody) → BodyBy v ts o → ReadsBody ts o
by_body ts k v e f o d = subst (λ (x : BodyStart). BodyBy x ts o) (sym f ∙ e) d

from_body : (ts : List Token) (k v : BodyStart) → k ≡ body_start (front ts) → k ≡ v → (o : Got DeclBody) → ReadsBody ts o → BodyBy v ts o
from_body ts k v e f o d = subst (λ (x : BodyStart). BodyBy x ts o) (sym e ∙ f) d

pub body_barred : (ts us vs : List Token) (k : BodyStart) (l : List ConDecl) → k ≡ body_start (front ts) → k ≡ Bar → us ≡ drop 1 ts → ReadsItems ReadsCon con_behind us (got l vs) → ReadsBody ts (got (Variant l) vs)
body_barred ts us vs k l e f g d = by_body ts k Bar e f _ (barred (subst (λ (x : List Token). ReadsItems ReadsCon con_behind x (got l vs)) g d))

pub body_variant : (ts vs : List Token) (k : BodyStart) (l : List ConDecl) → k ≡ body_start (front ts) → k ≡ Constructor → ReadsItems ReadsCon con_behind ts (got l vs) → ReadsBody ts (got (Variant l) vs)
body_variant ts vs k l e f d = by_body ts k Constructor e f _ (variant d)

pub body_fields : (ts us vs : List Token) (k : BodyStart) (l : List FieldDecl) → k ≡ body_start (front ts) → k ≡ Brace → us ≡ drop 1 ts → ReadsItems ReadsField field_behind us (got l vs) → ReadsBody ts (got (Fields l) vs)
body_fields ts us vs k l e f g d = by_body ts k Brace e f _ (fields (subst (λ (x : List Token). ReadsItems ReadsField field_behind x (got l vs)) g d))

pub body_alias : (ts vs : List Token) (k : BodyStart) (t : TyExpr) → k ≡ body_start (front ts) → k ≡ Other → ReadsType Factors ts (got t vs) → ReadsBody ts (got (Alias t) vs)
body_alias ts vs k t e f d = by_body ts k Other e f _ (alias d)

barred_of : {P : Type 0} {ts : List Token} {o : Got DeclBody} → ((l : Got (List ConDecl)) → ReadsItems ReadsCon con_behind (drop 1 ts) l → P) → BodyBy Bar ts o → P
barred_of f (barred {l = l} d) = f l d

variant_of : {P : Type 0} {ts : List Token} {o : Got DeclBody} → ((l : Got (List ConDecl)) → ReadsItems ReadsCon con_behind ts l → P) → BodyBy Constructor ts o → P
variant_of f (variant {l = l} d) = f l d

fields_of : {P : Type 0} {ts : List Token} {o : Got DeclBody} → ((l : Got (List FieldDecl)) → ReadsItems ReadsField field_behind (drop 1 ts) l → P) → BodyBy Brace ts o → P
fields_of f (fields {l = l} d) = f l d

alias_of : {P : Type 0} {ts : List Token} {o : Got DeclBody} → ((t : Got TyExpr) → ReadsType Factors ts t → P) → BodyBy Other ts o → P
alias_of f (alias {t = t} d) = f t d

pub body_no_barred : (ts us : List Token) (k : BodyStart) → k ≡ body_start (front ts) → k ≡ Bar → us ≡ drop 1 ts → IsNone (ReadsItems ReadsCon con_behind) us → IsNone ReadsBody ts
body_no_barred ts us k e f g n = record { none = λ o d. barred_of (λ l c. n.none l (subst (λ (x : List Token). ReadsItems ReadsCon con_behind x l) (sym g) c)) (from_body ts k Bar e f o d) }

pub body_no_variant : (ts : List Token) (k : BodyStart) → k ≡ body_start (front ts) → k ≡ Constructor → IsNone (ReadsItems ReadsCon con_behind) ts → IsNone ReadsBody ts
body_no_variant ts k e f n = record { none = λ o d. variant_of (λ l c. n.none l c) (from_body ts k Constructor e f o d) }

pub body_no_fields : (ts us : List Token) (k : BodyStart) → k ≡ body_start (front ts) → k ≡ Brace → us ≡ drop 1 ts → IsNone (ReadsItems ReadsField field_behind) us → IsNone ReadsBody ts
body_no_fields ts us k e f g n = record { none = λ o d. fields_of (λ l c. n.none l (subst (λ (x : List Token). ReadsItems ReadsField field_behind x l) (sym g) c)) (from_body ts k Brace e f o d) }

pub body_no_alias : (ts : List Token) (k : BodyStart) → k ≡ body_start (front ts) → k ≡ Other → IsNone (ReadsType Factors) ts → IsNone ReadsBody ts
body_no_alias ts k e f n = record { none = λ o d. alias_of (λ t c. n.none t c) (from_body ts k Other e f o d) }

-- a declaration
pub decl_read : (ts us vs ws xs : List Token) (v : List Span) (s u : Span) (b : DeclBody) → ReadsVars ts (got v us) → Takes F.Lower us vs s → Takes F.Equal vs ws u → ReadsBody ws (got b xs) → ReadsDecl ts (got (a_decl s v b) xs)
decl_read ts us vs ws xs v s u b d n c e =
    let rest : ws ≡ drop 1 (drop 1 us) = c.rest_is ∙ ap (drop 1) n.rest_is in
    let whole : ReadsDecl ts (got (a_decl (first_span us) v b) xs) = decl d n.stands (subst (λ (x : List Token). front x ≡ F.Equal) n.rest_is c.stands) (subst (λ (x : List Token). ReadsBody x (got b xs)) rest e) in
    subst (λ (x : Span). ReadsDecl ts (got (a_decl x v b) xs)) (sym n.span_is) whole

decl_parts : {P : Type 0} {ts us : List Token} {v : List Span} {o : Got Decl} → ReadsVars ts (got v us) → ((b : Got DeclBody) → front us ≡ F.Lower → front (drop 1 us) ≡ F.Equal → ReadsBody (drop 1 (drop 1 us)) b → P) → ReadsDecl ts o → P
decl_parts d f (decl {b = b} a e g c) =
    let q = same_vars a d in
    f b (subst (λ (x : Got (List Span)). front x.rest ≡ F.Lower) q e) (subst (λ (x : Got (List Span)). front (drop 1 x.rest) ≡ F.Equal) q g) (subst (λ (x : Got (List Span)). ReadsBody (drop 1 (drop 1 x.rest)) b) q c)

decl_vars : {P : Type 0} {ts : List Token} {o : Got Decl} → ((v : Got (List Span)) → ReadsVars ts v → P) → ReadsDecl ts o → P
decl_vars f (decl {v = v} a e g c) = f v a

pub decl_no_vars : (ts : List Token) → IsNone ReadsVars ts → IsNone ReadsDecl ts
decl_no_vars ts n = record { none = λ o d. decl_vars (λ v a. n.none v a) d }

pub decl_no_name : (ts us : List Token) (v : List Span) → ReadsVars ts (got v us) → front us ≢ F.Lower → IsNone ReadsDecl ts
decl_no_name ts us v d n = record { none = λ o e. decl_parts d (λ b a c f. n a) e }

pub decl_no_equal : (ts us vs : List Token) (v : List Span) (s : Span) → ReadsVars ts (got v us) → Takes F.Lower us vs s → front vs ≢ F.Equal → IsNone ReadsDecl ts
decl_no_equal ts us vs v s d t n = record { none = λ o e. decl_parts d (λ b a c f. n (subst (λ (x : List Token). front x ≡ F.Equal) (sym t.rest_is) c)) e }

pub decl_no_body : (ts us vs ws : List Token) (v : List Span) (s u : Span) → ReadsVars ts (got v us) → Takes F.Lower us vs s → Takes F.Equal vs ws u → IsNone ReadsBody ws → IsNone ReadsDecl ts
decl_no_body ts us vs ws v s u d n c i =
    let rest : ws ≡ drop 1 (drop 1 us) = c.rest_is ∙ ap (drop 1) n.rest_is in
    record { none = λ o e. decl_parts d (λ b a f g. i.none b (subst (λ (x : List Token). ReadsBody x b) (sym rest) g)) e }
