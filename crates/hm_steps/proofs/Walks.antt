-- What the walk of a node, an arm or a bind appends, from what it appends for the parts.
use Rattle.std.proofs.Common.{◌≡◌, ℕ, List, [], ◌∷◌, ◌++◌, Option, Some, None, sym, ap, ◌∙◌}
use Rattle.std.specs.Option.{option_map}
use Rattle.std.proofs.lemmas.List.{append_assoc, append-nil}
use Rattle.oxml_base.specs.declared.span.Span.{Span}
use Rattle.ml_tree.specs.declared.pattern.FieldPat.{FieldPat, out-FieldPat}
use Rattle.ml_tree.specs.declared.pattern.Pat.{Pat, out-Pat}
use Rattle.ml_tree.specs.declared.pattern.PatKind.{PatKind, fold_out-PatKind}
use Rattle.ml_tree.specs.declared.pattern.PatKind.TheOpen.{PatKind-F}
use Rattle.ml_tree.specs.declared.expr.Arm.{Arm, out-Arm}
use Rattle.ml_tree.specs.declared.expr.Bind.{Bind, out-Bind}
use Rattle.ml_tree.specs.declared.expr.FieldExpr.{FieldExpr, out-FieldExpr}
use Rattle.ml_tree.specs.declared.expr.Expr.{Expr, out-Expr}
use Rattle.ml_typing.specs.declared.equation.Unknown.{Unknown}
use Rattle.ml_typing.specs.declared.equation.Unknown.TheVariants.{Node}
use Rattle.ml_typing.specs.declared.equation.Term.{Term}
use Rattle.ml_typing.specs.declared.equation.Term.TheVariants.{Of}
use Rattle.ml_typing.specs.declared.equation.Equation.{Equation}
use Rattle.ml_typing.specs.declared.equation.Step.{Step}
use Rattle.ml_typing.specs.Written.{Names}
use Rattle.ml_typing.specs.Rows.{Part, Row, FieldPart, pattern, pattern_kind, field_pattern, pattern_row, pattern_field, pattern_whole, part_of, equation, node_is, steps_and, steps_of, all_steps, steps_of_any}
use Rattle.ml_typing.specs.Steps.{ArmPart, BindPart, expression, expr_kind, field_expr, arm, bind, bind_step, bind_steps, param_parts, result_term}
use Rattle.hm_steps.specs.Blocks.{arm_steps}
use Rattle.hm_steps.proofs.PatternLayers as P
use Rattle.hm_steps.proofs.ExpressionLayers as E

pub two : {A : Type 0} (old mid new a b : List A) → mid ≡ old ++ a → new ≡ mid ++ b → new ≡ old ++ (a ++ b)
two old mid new a b e f = f ∙ (ap (λ xs. xs ++ b) e ∙ append_assoc old a b)

pub three : {A : Type 0} (old m k new a b c : List A) → m ≡ old ++ a → k ≡ m ++ b → new ≡ k ++ c → new ≡ old ++ ((a ++ b) ++ c)
three old m k new a b c e f g = two old k new (a ++ b) c (two old m k a b e f) g

pub four : {A : Type 0} (old m k l new a b c d : List A) → m ≡ old ++ a → k ≡ m ++ b → l ≡ k ++ c → new ≡ l ++ d → new ≡ old ++ (((a ++ b) ++ c) ++ d)
four old m k l new a b c d e f g h = two old l new ((a ++ b) ++ c) d (three old m k l a b c e f g) h

pub nothing : {A : Type 0} (old : List A) → old ≡ old ++ []
nothing old = sym (append-nil old)

-- what a kind's row says of the node that has the kind
pub of_kind : {K : Type 0} (f : K → Row) (kind k : K) (r : Row) (n : ℕ) (old new : List Step) → kind ≡ k → f k ≡ r → new ≡ old ++ r.before n → new ≡ old ++ (f kind).before n
of_kind f kind k r n old new is law h = h ∙ ap (λ (z : Row). old ++ z.before n) (sym (ap f is ∙ law))

pub row_of_kind : {K : Type 0} (f : K → Row) (kind k : K) (r : Row) (n : ℕ) (span : Span) (es : List Equation) → kind ≡ k → f k ≡ r → es ≡ r.own n span → es ≡ (f kind).own n span
row_of_kind f kind k r n span es is law h = h ∙ ap (λ (z : Row). z.own n span) (sym (ap f is ∙ law))

pub compared_of_kind : {K : Type 0} (f : K → Row) (kind k : K) (r : Row) (n : ℕ) (o : Option Unknown) → kind ≡ k → f k ≡ r → o ≡ r.compared n → o ≡ (f kind).compared n
compared_of_kind f kind k r n o is law h = h ∙ ap (λ (z : Row). z.compared n) (sym (ap f is ∙ law))

pub compared_by_kind : {K : Type 0} (f : K → Row) (kind k : K) (n : ℕ) (o : Option Unknown) → kind ≡ k → (f k).compared n ≡ o → o ≡ (f kind).compared n
compared_by_kind f kind k n o is law = sym law ∙ ap (λ z. (f z).compared n) (sym is)

compared_by : (names : Names) (r : Row) (x : PatKind-F Row FieldPart Part) (n : ℕ) → r ≡ pattern_row names x → r.compared n ≡ None
compared_by names r x n e = ap (λ (z : Row). z.compared n) e ∙ P.none_compared names x n

pub not_compared : (names : Names) (kind : PatKind) (n : ℕ) → (pattern_kind names kind).compared n ≡ None
not_compared names kind n = compared_by names (pattern_kind names kind) _ n (fold_out-PatKind Row FieldPart Part (pattern_row names) pattern_field pattern_whole kind)

abbrev pub node_step : ℕ → Span → List Equation → Option Unknown → Step
node_step id span equations compared = record { span = span; node = Some id; equations = equations; compared = compared }

-- a node behind its parts
node_walk : (row : Row) (id : ℕ) (span : Span) (more : List Equation) (old mid new : List Step) (own es : List Equation) (compared : Option Unknown) → mid ≡ old ++ row.before id → own ≡ row.own id span → es ≡ own ++ more → compared ≡ row.compared id → new ≡ mid ++ node_step id span es compared ∷ [] → new ≡ old ++ steps_and (part_of id span row) more
node_walk row id span more old mid new own es compared before is all c grown =
    two old mid new (row.before id) (node_step id span (row.own id span ++ more) (row.compared id) ∷ []) before
    (grown ∙ (ap (λ z. mid ++ node_step id span z compared ∷ []) (all ∙ ap (λ z. z ++ more) is) ∙ ap (λ z. mid ++ node_step id span (row.own id span ++ more) z ∷ []) c))

pub pattern_walk : (names : Names) (q : Pat) (more : List Equation) (old mid new : List Step) (own es : List Equation) → mid ≡ old ++ (pattern_kind names (out-Pat q).kind).before (out-Pat q).id → own ≡ (pattern_kind names (out-Pat q).kind).own (out-Pat q).id (out-Pat q).span → es ≡ own ++ more → new ≡ mid ++ node_step (out-Pat q).id (out-Pat q).span es None ∷ [] → new ≡ old ++ steps_and (pattern names q) more
pattern_walk names q more old mid new own es before is all grown =
    node_walk (pattern_kind names (out-Pat q).kind) (out-Pat q).id (out-Pat q).span more old mid new own es None before is all (sym (not_compared names (out-Pat q).kind (out-Pat q).id)) grown
    ∙ ap (λ z. old ++ steps_and z more) (sym (P.whole names q))

pub expression_walk : (names : Names) (x : Expr) (old mid new : List Step) (es : List Equation) (compared : Option Unknown) → mid ≡ old ++ (expr_kind names (out-Expr x).kind).before (out-Expr x).id → es ≡ (expr_kind names (out-Expr x).kind).own (out-Expr x).id (out-Expr x).span → compared ≡ (expr_kind names (out-Expr x).kind).compared (out-Expr x).id → new ≡ mid ++ node_step (out-Expr x).id (out-Expr x).span es compared ∷ [] → new ≡ old ++ steps_of (expression names x)
expression_walk names x old mid new es compared before is c grown =
    node_walk (expr_kind names (out-Expr x).kind) (out-Expr x).id (out-Expr x).span [] old mid new es es compared before is (sym (append-nil es)) c grown
    ∙ ap (λ z. old ++ steps_of z) (sym (E.whole names x))

abbrev pub field_step : ℕ → Span → ℕ → Span → Step
field_step id name inner span = record { span = record { start = name.start; «end» = span.«end» }; node = Some id; equations = equation span (Node id) (Of (Node inner)) ∷ []; compared = None }

pub field_pattern_walk : (names : Names) (f : FieldPat) (old mid new : List Step) → mid ≡ old ++ steps_of (pattern names (out-FieldPat f).pat) → new ≡ mid ++ field_step (out-FieldPat f).id (out-FieldPat f).name (out-Pat (out-FieldPat f).pat).id (out-Pat (out-FieldPat f).pat).span ∷ [] → new ≡ old ++ steps_of (field_pattern names f).part
field_pattern_walk names f old mid new inner grown =
    let id = (out-FieldPat f).id in
    let name = (out-FieldPat f).name in
    let q = (out-FieldPat f).pat in
    two old mid new (steps_of (pattern names q)) (field_step id name (pattern names q).id (pattern names q).span ∷ []) inner
    (grown ∙ ap (λ (z : Part). mid ++ field_step id name z.id z.span ∷ []) (sym (P.whole names q)))
    ∙ ap (λ (z : FieldPart). old ++ steps_of z.part) (sym (P.of_field names f))

pub field_expr_walk : (names : Names) (f : FieldExpr) (old mid new : List Step) → mid ≡ old ++ steps_of (expression names (out-FieldExpr f).expr) → new ≡ mid ++ field_step (out-FieldExpr f).id (out-FieldExpr f).name (out-Expr (out-FieldExpr f).expr).id (out-Expr (out-FieldExpr f).expr).span ∷ [] → new ≡ old ++ steps_of (field_expr names f).part
field_expr_walk names f old mid new inner grown =
    let id = (out-FieldExpr f).id in
    let name = (out-FieldExpr f).name in
    let x = (out-FieldExpr f).expr in
    two old mid new (steps_of (expression names x)) (field_step id name (expression names x).id (expression names x).span ∷ []) inner
    (grown ∙ ap (λ (z : Part). mid ++ field_step id name z.id z.span ∷ []) (sym (E.whole names x)))
    ∙ ap (λ (z : FieldPart). old ++ steps_of z.part) (sym (E.of_field names f))

pub arm_walk : (names : Names) (a : Arm) (scrutinee : Term) (old m k new : List Step) → m ≡ old ++ steps_and (pattern names (out-Arm a).pat) (node_is (pattern names (out-Arm a).pat) scrutinee ∷ []) → k ≡ m ++ steps_of_any (option_map (expression names) (out-Arm a).guard) → new ≡ k ++ steps_of (expression names (out-Arm a).body) → new ≡ old ++ arm_steps scrutinee (arm names a)
arm_walk names a scrutinee old m k new e f g =
    three old m k new (steps_and (pattern names (out-Arm a).pat) (node_is (pattern names (out-Arm a).pat) scrutinee ∷ [])) (steps_of_any (option_map (expression names) (out-Arm a).guard)) (steps_of (expression names (out-Arm a).body)) e f g
    ∙ ap (λ (z : ArmPart). old ++ arm_steps scrutinee z) (sym (E.of_arm names a))

abbrev pub bind_of : Span → Span → List Equation → Step
bind_of pat body equations = record { span = record { start = pat.start; «end» = body.«end» }; node = None; equations = equations; compared = None }

pub bind_walk : (names : Names) (b : Bind) (old m k l new : List Step) (es : List Equation) → m ≡ old ++ steps_of (pattern names (out-Bind b).pat) → k ≡ m ++ all_steps (param_parts names (out-Bind b).params) → l ≡ k ++ steps_of (expression names (out-Bind b).body) → es ≡ (bind_step (bind names b)).equations → new ≡ l ++ bind_of (out-Pat (out-Bind b).pat).span (out-Expr (out-Bind b).body).span es ∷ [] → new ≡ old ++ bind_steps (bind names b)
bind_walk names b old m k l new es e f g is grown =
    let q = (out-Bind b).pat in
    let x = (out-Bind b).body in
    let part : BindPart = record { pat = pattern names q; params = param_parts names (out-Bind b).params; result = result_term names (out-Bind b).result; body = expression names x } in
    let all : es ≡ (bind_step part).equations = is ∙ ap (λ (z : BindPart). (bind_step z).equations) (E.of_bind names b) in
    let own : new ≡ l ++ bind_step part ∷ [] =
    grown ∙ (ap (λ z. l ++ bind_of (out-Pat q).span (out-Expr x).span z ∷ []) all
    ∙ (ap (λ z. l ++ bind_of z (out-Expr x).span (bind_step part).equations ∷ []) (sym (P.whole_span names q))
    ∙ ap (λ z. l ++ bind_of (pattern names q).span z (bind_step part).equations ∷ []) (sym (E.whole_span names x)))) in
    four old m k l new (steps_of part.pat) (all_steps part.params) (steps_of part.body) (bind_step part ∷ []) e f g own
    ∙ ap (λ (z : BindPart). old ++ bind_steps z) (sym (E.of_bind names b))
