-- The equations of a row from those that the code lists.
use Rattle.std.proofs.Common.{◌≡◌, ℕ, suc, ◌-◌, List, [], ◌∷◌, ◌++◌, length, Result, Ok, Err, IfOk, Option, Some, None, map, slice_get, refl, sym, ap, ◌∙◌, arith}
use Rattle.std.specs.Option.{option_map}
use Rattle.std.proofs.lemmas.List.{append-nil}
use Rattle.oxml_base.specs.declared.span.Span.{Span}
use Rattle.ml_tree.specs.declared.types.TyExpr.{TyExpr}
use Rattle.ml_tree.specs.declared.pattern.Param.{Param}
use Rattle.ml_tree.specs.declared.pattern.Pat.{Pat, out-Pat}
use Rattle.ml_tree.specs.declared.expr.Arm.{Arm, out-Arm}
use Rattle.ml_tree.specs.declared.expr.Bind.{Bind, out-Bind}
use Rattle.ml_tree.specs.declared.expr.Expr.{Expr, out-Expr}
use Rattle.ml_typing.specs.declared.equation.Unknown.{Unknown}
use Rattle.ml_typing.specs.declared.equation.Unknown.TheVariants.{Node}
use Rattle.ml_typing.specs.declared.equation.Term.{Term}
use Rattle.ml_typing.specs.declared.equation.Term.TheVariants.{Of, Function}
use Rattle.ml_typing.specs.declared.equation.Equation.{Equation}
use Rattle.ml_typing.specs.Written.{Names, written}
use Rattle.ml_typing.specs.Rows.{Part, pattern, equation, node_is, type_of, bool, scrutinee_is}
use Rattle.ml_typing.specs.Steps.{ArmPart, BindPart, expression, arm, bind, bind_step, param_parts, value_span, result_term, result_is, guard_is, last_is}
use Rattle.hm_steps.proofs.PatternLayers as P
use Rattle.hm_steps.proofs.ExpressionLayers as E
use Rattle.hm_steps.specs.Blocks.{arm_is}
use Rattle.hm_steps.proofs.Walks.{two}

-- what holds of a value that may not be there
pub if_ok : {A X : Type 0} {P Q : A → Type 0} (r : Result A X) → ((x : A) → P x → Q x) → IfOk r P → IfOk r Q
if_ok (Ok x) f h = f x h
if_ok (Err e) f h = tt

-- the same, of each of many
pub if_ok_each : {A B X : Type 0} {P : A → Type 0} {Q : B → A → Type 0} (r : Result A X) → ((x : A) (b : B) → P x → Q b x) → IfOk r P → IfOk r (λ x. (b : B) → Q b x)
if_ok_each (Ok x) f h = λ b. f x b h
if_ok_each (Err e) f h = tt

-- an equation on a part, where the part and the term are known by other names
pub pattern_is : (names : Names) (a q : Pat) (right term : Term) → a ≡ q → right ≡ term → equation (out-Pat a).span (Node (out-Pat a).id) right ≡ node_is (pattern names q) term
pattern_is names a q right term same is = P.is_node names a right ∙ (ap (node_is (pattern names a)) is ∙ ap (λ z. node_is (pattern names z) term) same)

pub expression_is : (names : Names) (a x : Expr) (right term : Term) → a ≡ x → right ≡ term → equation (out-Expr a).span (Node (out-Expr a).id) right ≡ node_is (expression names x) term
expression_is names a x right term same is = E.is_node names a right ∙ (ap (node_is (expression names a)) is ∙ ap (λ z. node_is (expression names z) term) same)

pub first : (es : List Equation) (e f : Equation) → es ≡ e ∷ [] → e ≡ f → es ≡ f ∷ []
first es e f h g = h ∙ ap (λ z. z ∷ []) g

pub more : (es gs known : List Equation) (e f : Equation) → es ≡ known → gs ≡ es ++ e ∷ [] → e ≡ f → gs ≡ known ++ f ∷ []
more es gs known e f h grown g = grown ∙ (ap (λ z. z ++ e ∷ []) h ∙ ap (λ z. known ++ z ∷ []) g)

-- one equation, at the front of none or of others
pub alone : (start es : List Equation) (e f : Equation) → start ≡ [] → es ≡ start ++ e ∷ [] → e ≡ f → es ≡ f ∷ []
alone start es e f none grown g = grown ∙ (ap (λ z. z ++ e ∷ []) none ∙ ap (λ z. z ∷ []) g)

pub first_then : (es gs : List Equation) (e f : Equation) (rest others : List Equation) → es ≡ e ∷ [] → e ≡ f → gs ≡ es ++ rest → rest ≡ others → gs ≡ f ∷ others
first_then es gs e f rest others h g grown same = grown ∙ (ap (λ z. z ++ rest) h ∙ (ap (λ z. z ∷ rest) g ∙ ap (λ z. f ∷ z) same))

pub followed : (es gs known rest others : List Equation) → es ≡ known → gs ≡ es ++ rest → rest ≡ others → gs ≡ known ++ others
followed es gs known rest others h grown same = grown ∙ (ap (λ z. z ++ rest) h ∙ ap (λ z. known ++ z) same)

pub after_none : (start es rest others : List Equation) → start ≡ [] → es ≡ start ++ rest → rest ≡ others → es ≡ others
after_none start es rest others none grown same = grown ∙ (ap (λ z. z ++ rest) none ∙ same)

pub parts_of_three : (es : List Equation) (e f g h k : Equation) → es ≡ e ∷ f ∷ g ∷ [] → f ≡ h → g ≡ k → es ≡ e ∷ h ∷ k ∷ []
parts_of_three es e f g h k is one other = is ∙ (ap (λ z. e ∷ z ∷ g ∷ []) one ∙ ap (λ z. e ∷ h ∷ z ∷ []) other)

pub term_is : (part : Span) (left : Unknown) (right term : Term) → right ≡ term → equation part left right ≡ equation part left term
term_is part left right term e = ap (equation part left) e

pub function_is : (params others : List Term) (result term : Term) → params ≡ others → result ≡ term → Function params result ≡ Function others term
function_is params others result term e f = ap (λ z. Function z result) e ∙ ap (Function others) f

-- a list that begins with nothing
pub begun : {A : Type 0} (start rest : List A) → start ≡ [] → start ++ rest ≡ [] ++ rest
begun start rest none = ap (λ z. z ++ rest) none

-- from the start of one to the end of another
abbrev pub between : Span → Span → Span
between from to = record { start = from.start; «end» = to.«end» }

-- a bind's parameters and body
pub value_from : (names : Names) (params : List Param) (q : Param) (body : Expr) → slice_get params 0 ≡ Some q → between (out-Pat q.pat).span (out-Expr body).span ≡ value_span (param_parts names params) (expression names body)
value_from names [] q body h = absurd (let g : None ≡ Some q = h in cc)
value_from names (r ∷ params) q body h =
    let same : r ≡ q = cc in
    ap (λ (z : Param). between (out-Pat z.pat).span (out-Expr body).span) (sym same)
    ∙ (ap (λ z. between z (out-Expr body).span) (sym (P.whole_span names r.pat)) ∙ ap (between (pattern names r.pat).span) (sym (E.whole_span names body)))

pub value_none : (names : Names) (params : List Param) (body : Expr) → slice_get params 0 ≡ None → (out-Expr body).span ≡ value_span (param_parts names params) (expression names body)
value_none names [] body h = sym (E.whole_span names body)
value_none names (r ∷ params) body h = absurd (let g : Some r ≡ None = h in cc)

-- the first equation of a bind
pub bind_first : (names : Names) (b : Bind) (span : Span) (params : List Term) (right : Term) (es : List Equation) → span ≡ value_span (param_parts names (out-Bind b).params) (expression names (out-Bind b).body) → params ≡ map type_of (param_parts names (out-Bind b).params) → right ≡ Of (Node (out-Expr (out-Bind b).body).id) → es ≡ equation span (Node (out-Pat (out-Bind b).pat).id) (Function params right) ∷ [] → es ≡ equation (value_span (bind names b).params (bind names b).body) (Node (bind names b).pat.id) (Function (map type_of (bind names b).params) (type_of (bind names b).body)) ∷ []
bind_first names b span params right es s p r h =
    let q = (out-Bind b).pat in
    let x = (out-Bind b).body in
    let ps = param_parts names (out-Bind b).params in
    let part : BindPart = record { pat = pattern names q; params = ps; result = result_term names (out-Bind b).result; body = expression names x } in
    h
    ∙ (ap (λ z. equation z (Node (out-Pat q).id) (Function params right) ∷ []) s
    ∙ (ap (λ z. equation (value_span ps (expression names x)) (Node (out-Pat q).id) (Function z right) ∷ []) p
    ∙ (ap (λ z. equation (value_span ps (expression names x)) (Node (out-Pat q).id) (Function (map type_of ps) z) ∷ []) (r ∙ ap (λ i. Of (Node i)) (sym (E.whole_id names x)))
    ∙ (ap (λ z. equation (value_span ps (expression names x)) (Node z) (Function (map type_of ps) (type_of (expression names x))) ∷ []) (sym (P.whole_id names q))
    ∙ ap (λ (z : BindPart). equation (value_span z.params z.body) (Node z.pat.id) (Function (map type_of z.params) (type_of z.body)) ∷ []) (sym (E.of_bind names b))))))

abbrev pub first_of : Names → Bind → Equation
first_of names b = equation (value_span (bind names b).params (bind names b).body) (Node (bind names b).pat.id) (Function (map type_of (bind names b).params) (type_of (bind names b).body))

bind_result : (names : Names) (b : Bind) (o : Option TyExpr) → (out-Bind b).result ≡ o → (bind names b).result ≡ result_term names o
bind_result names b o h = ap (λ (z : BindPart). z.result) (E.of_bind names b) ∙ ap (result_term names) h

pub bind_plain : (names : Names) (b : Bind) (es : List Equation) → es ≡ first_of names b ∷ [] → (out-Bind b).result ≡ None → es ≡ (bind_step (bind names b)).equations
bind_plain names b es h none = h ∙ ap (λ z. first_of names b ∷ result_is z (bind names b).body) (sym (bind_result names b None none))

pub bind_annotated : (names : Names) (b : Bind) (ty a : TyExpr) (right : Term) (es gs : List Equation) → es ≡ first_of names b ∷ [] → (out-Bind b).result ≡ Some ty → a ≡ ty → right ≡ written names a → gs ≡ es ++ equation (out-Expr (out-Bind b).body).span (Node (out-Expr (out-Bind b).body).id) right ∷ [] → gs ≡ (bind_step (bind names b)).equations
bind_annotated names b ty a right es gs h some same is grown =
    let x = (out-Bind b).body in
    let body : Part → List Equation = λ z. first_of names b ∷ node_is z (written names ty) ∷ [] in
    more es gs (first_of names b ∷ []) (equation (out-Expr x).span (Node (out-Expr x).id) right) (node_is (expression names x) (written names ty)) h grown (expression_is names x x right (written names ty) refl (is ∙ ap (written names) same))
    ∙ (ap body (sym (ap (λ (z : BindPart). z.body) (E.of_bind names b)))
    ∙ ap (λ z. first_of names b ∷ result_is z (bind names b).body) (sym (bind_result names b (Some ty) some)))

pub arm_equations : (names : Names) (a : Arm) (whole : Term) (list guarded es : List Equation) → guarded ≡ list ++ guard_is (option_map (expression names) (out-Arm a).guard) → es ≡ guarded ++ equation (out-Expr (out-Arm a).body).span (Node (out-Expr (out-Arm a).body).id) whole ∷ [] → es ≡ list ++ arm_is whole (arm names a)
arm_equations names a whole list guarded es e h =
    let x = (out-Arm a).body in
    two list guarded es (guard_is (option_map (expression names) (out-Arm a).guard)) (node_is (expression names x) whole ∷ []) e (h ∙ ap (λ z. guarded ++ z ∷ []) (E.is_node names x whole))
    ∙ ap (λ (z : ArmPart). list ++ arm_is whole z) (sym (E.of_arm names a))

pub guard_some : (names : Names) (guard : Option Expr) (x : Expr) (right : Term) (list es : List Equation) → guard ≡ Some x → right ≡ bool → es ≡ list ++ equation (out-Expr x).span (Node (out-Expr x).id) right ∷ [] → es ≡ list ++ guard_is (option_map (expression names) guard)
guard_some names guard x right list es is r h =
    h ∙ (ap (λ z. list ++ z ∷ []) (expression_is names x x right bool refl r) ∙ ap (λ z. list ++ guard_is (option_map (expression names) z)) (sym is))

pub guard_none : (names : Names) (guard : Option Expr) (list : List Equation) → guard ≡ None → list ≡ list ++ guard_is (option_map (expression names) guard)
guard_none names guard list is = sym (append-nil list) ∙ ap (λ z. list ++ guard_is (option_map (expression names) z)) (sym is)

-- an application: the function, then its arguments
pub application : (names : Names) (f : Expr) (arrow term : Term) (first es args : List Equation) → arrow ≡ term → first ≡ [] ++ equation (out-Expr f).span (Node (out-Expr f).id) arrow ∷ [] → es ≡ first ++ args → es ≡ node_is (expression names f) term ∷ args
application names f arrow term first es args is one h = h ∙ (ap (λ z. z ++ args) one ∙ ap (λ z. z ∷ args) (expression_is names f f arrow term refl is))

-- the last of several parts
last_more : (n : ℕ) (q : Part) (qs : List Part) (r : Part) → last_is n (q ∷ (qs ++ r ∷ [])) ≡ last_is n (qs ++ r ∷ [])
last_more n q [] r = refl
last_more n q (s ∷ qs) r = refl

last_of : (n : ℕ) (qs : List Part) (r : Part) → last_is n (qs ++ r ∷ []) ≡ node_is r (Of (Node n)) ∷ []
last_of n [] r = refl
last_of n (q ∷ qs) r = last_more n q qs r ∙ last_of n qs r

map_append : (names : Names) (front : List Expr) (x : Expr) → map (expression names) (front ++ x ∷ []) ≡ map (expression names) front ++ expression names x ∷ []
map_append names [] x = refl
map_append names (y ∷ front) x = ap (λ z. expression names y ∷ z) (map_append names front x)

pub last_part : (names : Names) (n : ℕ) (xs front : List Expr) (x : Expr) (right : Term) (es : List Equation) → xs ≡ front ++ x ∷ [] → right ≡ Of (Node n) → es ≡ [] ++ equation (out-Expr x).span (Node (out-Expr x).id) right ∷ [] → es ≡ last_is n (map (expression names) xs)
last_part names n xs front x right es is r h =
    h ∙ (ap (λ z. z ∷ []) (expression_is names x x right (Of (Node n)) refl r)
    ∙ (sym (last_of n (map (expression names) front) (expression names x)) ∙ (ap (last_is n) (sym (map_append names front x)) ∙ ap (λ z. last_is n (map (expression names) z)) (sym is))))

behind : (y z : Expr) (zs : List Expr) → length (y ∷ z ∷ zs) - 1 ≡ suc (length (z ∷ zs) - 1)
behind y z zs = omega arith

last_split : (xs : List Expr) (x : Expr) → slice_get xs (length xs - 1) ≡ Some x → (front : List Expr) × (xs ≡ front ++ x ∷ [])
last_split [] x h = absurd (let g : None ≡ Some x = h in cc)
last_split (y ∷ []) x h = ([], let e : y ≡ x = cc in ap (λ z. z ∷ []) e)
last_split (y ∷ z ∷ zs) x h =
    let inner = last_split (z ∷ zs) x (sym (ap (slice_get (y ∷ z ∷ zs)) (behind y z zs)) ∙ h) in
    (y ∷ inner.0, ap (λ ws. y ∷ ws) inner.1)

no_last : (xs : List Expr) → slice_get xs (length xs - 1) ≡ None → xs ≡ []
no_last [] h = refl
no_last (y ∷ []) h = absurd (let g : Some y ≡ None = h in cc)
no_last (y ∷ z ∷ zs) h = absurd (let g : z ∷ zs ≡ [] = no_last (z ∷ zs) (sym (ap (slice_get (y ∷ z ∷ zs)) (behind y z zs)) ∙ h) in cc)

pub last_some : (names : Names) (n : ℕ) (xs : List Expr) (x : Expr) (right : Term) (es : List Equation) → slice_get xs (length xs - 1) ≡ Some x → right ≡ Of (Node n) → es ≡ [] ++ equation (out-Expr x).span (Node (out-Expr x).id) right ∷ [] → es ≡ last_is n (map (expression names) xs)
last_some names n xs x right es at r h =
    let s = last_split xs x at in
    last_part names n xs s.0 x right es s.1 r h

pub last_none : (names : Names) (n : ℕ) (xs : List Expr) → slice_get xs (length xs - 1) ≡ None → [] ≡ last_is n (map (expression names) xs)
last_none names n xs h = ap (λ z. last_is n (map (expression names) z)) (sym (no_last xs h))

-- the scrutinee's type behind the row of an arm's top pattern
pub scrutinee_some : (names : Names) (q : Pat) (scrutinee : Option Unknown) (u : Unknown) (own es : List Equation) → scrutinee ≡ Some u → es ≡ own ++ equation (out-Pat q).span (Node (out-Pat q).id) (Of u) ∷ [] → es ≡ own ++ scrutinee_is (pattern names q) scrutinee
scrutinee_some names q scrutinee u own es is h =
    h ∙ (ap (λ z. own ++ z ∷ []) (P.is_node names q (Of u)) ∙ ap (λ z. own ++ scrutinee_is (pattern names q) z) (sym is))

pub scrutinee_none : (names : Names) (q : Pat) (scrutinee : Option Unknown) (own : List Equation) → scrutinee ≡ None → own ≡ own ++ scrutinee_is (pattern names q) scrutinee
scrutinee_none names q scrutinee own is = sym (append-nil own) ∙ ap (λ z. own ++ scrutinee_is (pattern names q) z) (sym is)
