-- The steps of the parts of an expression, kind by kind.
use Rattle.std.proofs.Common.{◌≡◌, ℕ, ℤ, Bool, List, ◌++◌, map, Option, sym, ap, ◌∙◌}
use Rattle.std.specs.Option.{option_map}
use Rattle.oxml_base.specs.declared.span.Span.{Span}
use Rattle.oxml_base.specs.declared.literal.Lit.{Lit}
use Rattle.ml_tree.specs.declared.words.Words.{Words}
use Rattle.ml_tree.specs.declared.types.TyExpr.{TyExpr}
use Rattle.ml_tree.specs.declared.pattern.ConName.{ConName}
use Rattle.ml_tree.specs.declared.pattern.Param.{Param}
use Rattle.ml_tree.specs.declared.expr.BinOp.{BinOp}
use Rattle.ml_tree.specs.declared.expr.Arm.{Arm}
use Rattle.ml_tree.specs.declared.expr.Bind.{Bind}
use Rattle.ml_tree.specs.declared.expr.FieldExpr.{FieldExpr}
use Rattle.ml_tree.specs.declared.expr.Expr.{Expr, out-Expr}
use Rattle.ml_tree.specs.declared.expr.ExprKind.{ExprKind}
use Rattle.ml_tree.specs.declared.expr.ExprKind.TheVariants as E
use Rattle.ml_typing.specs.declared.equation.Unknown.TheVariants.{Node, Fresh}
use Rattle.ml_typing.specs.declared.equation.Term.TheVariants.{Of}
use Rattle.ml_typing.specs.declared.equation.Step.{Step}
use Rattle.ml_typing.specs.Written.{Names}
use Rattle.ml_typing.specs.Rows.{field_parts, steps_of, steps_of_any, all_steps}
use Rattle.ml_typing.specs.Steps.{expression, expr_kind, field_expr, arm, bind, param_parts, arms_steps, binds_steps}
use Rattle.hm_steps.proofs.ExpressionLayers as L
use Rattle.hm_steps.proofs.Walks.{two, three, nothing, of_kind}

pub con : (names : Names) (kind : ExprKind) (name : ConName) (arg : Option Expr) (n : ℕ) (old new : List Step) → kind ≡ E.Con name arg → new ≡ old ++ steps_of_any (option_map (expression names) arg) → new ≡ old ++ (expr_kind names kind).before n
con names kind name arg n old new is e = of_kind (expr_kind names) kind _ _ n old new is (L.con names name arg) e

pub conditional : (names : Names) (kind : ExprKind) (x y : Expr) (other : Option Expr) (x' : Expr) (y' : Expr) (n : ℕ) (old m k new : List Step) → kind ≡ E.If x y other → x' ≡ x → y' ≡ y → m ≡ old ++ steps_of (expression names x') → k ≡ m ++ steps_of (expression names y') → new ≡ k ++ steps_of_any (option_map (expression names) other) → new ≡ old ++ (expr_kind names kind).before n
conditional names kind x y other x' y' n old m k new is same_x same_y e f g = of_kind (expr_kind names) kind _ _ n old new is (L.conditional names x y other) (three old m k new _ _ _ (e ∙ ap (λ z. old ++ steps_of (expression names z)) same_x) (f ∙ ap (λ z. m ++ steps_of (expression names z)) same_y) g)

pub cons : (names : Names) (kind : ExprKind) (x y : Expr) (x' : Expr) (y' : Expr) (n : ℕ) (old mid new : List Step) → kind ≡ E.Cons x y → x' ≡ x → y' ≡ y → mid ≡ old ++ steps_of (expression names x') → new ≡ mid ++ steps_of (expression names y') → new ≡ old ++ (expr_kind names kind).before n
cons names kind x y x' y' n old mid new is same_x same_y e f = of_kind (expr_kind names) kind _ _ n old new is (L.cons names x y) (two old mid new _ _ (e ∙ ap (λ z. old ++ steps_of (expression names z)) same_x) (f ∙ ap (λ z. mid ++ steps_of (expression names z)) same_y))

pub index : (names : Names) (kind : ExprKind) (x y : Expr) (x' : Expr) (y' : Expr) (n : ℕ) (old mid new : List Step) → kind ≡ E.Index x y → x' ≡ x → y' ≡ y → mid ≡ old ++ steps_of (expression names x') → new ≡ mid ++ steps_of (expression names y') → new ≡ old ++ (expr_kind names kind).before n
index names kind x y x' y' n old mid new is same_x same_y e f = of_kind (expr_kind names) kind _ _ n old new is (L.index names x y) (two old mid new _ _ (e ∙ ap (λ z. old ++ steps_of (expression names z)) same_x) (f ∙ ap (λ z. mid ++ steps_of (expression names z)) same_y))

pub binary : (names : Names) (kind : ExprKind) (op : BinOp) (x y : Expr) (x' : Expr) (y' : Expr) (n : ℕ) (old mid new : List Step) → kind ≡ E.Binary op x y → x' ≡ x → y' ≡ y → mid ≡ old ++ steps_of (expression names x') → new ≡ mid ++ steps_of (expression names y') → new ≡ old ++ (expr_kind names kind).before n
binary names kind op x y x' y' n old mid new is same_x same_y e f = of_kind (expr_kind names) kind _ _ n old new is (L.binary names op x y) (two old mid new _ _ (e ∙ ap (λ z. old ++ steps_of (expression names z)) same_x) (f ∙ ap (λ z. mid ++ steps_of (expression names z)) same_y))

pub tuple : (names : Names) (kind : ExprKind) (xs : List Expr) (xs' : List Expr) (n : ℕ) (old new : List Step) → kind ≡ E.Tuple xs → xs' ≡ xs → new ≡ old ++ all_steps (map (expression names) xs') → new ≡ old ++ (expr_kind names kind).before n
tuple names kind xs xs' n old new is same_xs e = of_kind (expr_kind names) kind _ _ n old new is (L.tuple names xs) (e ∙ ap (λ z. old ++ all_steps (map (expression names) z)) same_xs)

pub list : (names : Names) (kind : ExprKind) (xs : List Expr) (xs' : List Expr) (n : ℕ) (old new : List Step) → kind ≡ E.List xs → xs' ≡ xs → new ≡ old ++ all_steps (map (expression names) xs') → new ≡ old ++ (expr_kind names kind).before n
list names kind xs xs' n old new is same_xs e = of_kind (expr_kind names) kind _ _ n old new is (L.list names xs) (e ∙ ap (λ z. old ++ all_steps (map (expression names) z)) same_xs)

pub sequence : (names : Names) (kind : ExprKind) (xs : List Expr) (xs' : List Expr) (n : ℕ) (old new : List Step) → kind ≡ E.Seq xs → xs' ≡ xs → new ≡ old ++ all_steps (map (expression names) xs') → new ≡ old ++ (expr_kind names kind).before n
sequence names kind xs xs' n old new is same_xs e = of_kind (expr_kind names) kind _ _ n old new is (L.sequence names xs) (e ∙ ap (λ z. old ++ all_steps (map (expression names) z)) same_xs)

pub fields : (names : Names) (kind : ExprKind) (fs : List FieldExpr) (fs' : List FieldExpr) (n : ℕ) (old new : List Step) → kind ≡ E.Fields fs → fs' ≡ fs → new ≡ old ++ all_steps (field_parts (map (field_expr names) fs')) → new ≡ old ++ (expr_kind names kind).before n
fields names kind fs fs' n old new is same_fs e = of_kind (expr_kind names) kind _ _ n old new is (L.fields names fs) (e ∙ ap (λ z. old ++ all_steps (field_parts (map (field_expr names) z))) same_fs)

pub apply : (names : Names) (kind : ExprKind) (x : Expr) (xs : List Expr) (x' : Expr) (xs' : List Expr) (n : ℕ) (old mid new : List Step) → kind ≡ E.Apply x xs → x' ≡ x → xs' ≡ xs → mid ≡ old ++ steps_of (expression names x') → new ≡ mid ++ all_steps (map (expression names) xs') → new ≡ old ++ (expr_kind names kind).before n
apply names kind x xs x' xs' n old mid new is same_x same_xs e f = of_kind (expr_kind names) kind _ _ n old new is (L.apply names x xs) (two old mid new _ _ (e ∙ ap (λ z. old ++ steps_of (expression names z)) same_x) (f ∙ ap (λ z. mid ++ all_steps (map (expression names) z)) same_xs))

pub binding : (names : Names) (kind : ExprKind) (recursive : Bool) (bs : List Bind) (x : Expr) (bs' : List Bind) (x' : Expr) (n : ℕ) (old mid new : List Step) → kind ≡ E.Let recursive bs x → bs' ≡ bs → x' ≡ x → mid ≡ old ++ binds_steps (map (bind names) bs') → new ≡ mid ++ steps_of (expression names x') → new ≡ old ++ (expr_kind names kind).before n
binding names kind recursive bs x bs' x' n old mid new is same_bs same_x e f = of_kind (expr_kind names) kind _ _ n old new is (L.binding names recursive bs x) (two old mid new _ _ (e ∙ ap (λ z. old ++ binds_steps (map (bind names) z)) same_bs) (f ∙ ap (λ z. mid ++ steps_of (expression names z)) same_x))

pub function : (names : Names) (kind : ExprKind) (params : List Param) (x : Expr) (params' : List Param) (x' : Expr) (n : ℕ) (old mid new : List Step) → kind ≡ E.Fun params x → params' ≡ params → x' ≡ x → mid ≡ old ++ all_steps (param_parts names params') → new ≡ mid ++ steps_of (expression names x') → new ≡ old ++ (expr_kind names kind).before n
function names kind params x params' x' n old mid new is same_params same_x e f = of_kind (expr_kind names) kind _ _ n old new is (L.function names params x) (two old mid new _ _ (e ∙ ap (λ z. old ++ all_steps (param_parts names z)) same_params) (f ∙ ap (λ z. mid ++ steps_of (expression names z)) same_x))

pub matching : (names : Names) (kind : ExprKind) (arms : List Arm) (arms' : List Arm) (n : ℕ) (old new : List Step) → kind ≡ E.Function arms → arms' ≡ arms → new ≡ old ++ arms_steps (Of (Fresh n 0)) (map (arm names) arms') → new ≡ old ++ (expr_kind names kind).before n
matching names kind arms arms' n old new is same_arms e = of_kind (expr_kind names) kind _ _ n old new is (L.matching names arms) (e ∙ ap (λ z. old ++ arms_steps (Of (Fresh n 0)) (map (arm names) z)) same_arms)

pub field : (names : Names) (kind : ExprKind) (x : Expr) (name : Span) (x' : Expr) (n : ℕ) (old new : List Step) → kind ≡ E.Field x name → x' ≡ x → new ≡ old ++ steps_of (expression names x') → new ≡ old ++ (expr_kind names kind).before n
field names kind x name x' n old new is same_x e = of_kind (expr_kind names) kind _ _ n old new is (L.field names x name) (e ∙ ap (λ z. old ++ steps_of (expression names z)) same_x)

pub minus : (names : Names) (kind : ExprKind) (x : Expr) (x' : Expr) (n : ℕ) (old new : List Step) → kind ≡ E.Minus x → x' ≡ x → new ≡ old ++ steps_of (expression names x') → new ≡ old ++ (expr_kind names kind).before n
minus names kind x x' n old new is same_x e = of_kind (expr_kind names) kind _ _ n old new is (L.minus names x) (e ∙ ap (λ z. old ++ steps_of (expression names z)) same_x)

pub paren : (names : Names) (kind : ExprKind) (x : Expr) (x' : Expr) (n : ℕ) (old new : List Step) → kind ≡ E.Paren x → x' ≡ x → new ≡ old ++ steps_of (expression names x') → new ≡ old ++ (expr_kind names kind).before n
paren names kind x x' n old new is same_x e = of_kind (expr_kind names) kind _ _ n old new is (L.paren names x) (e ∙ ap (λ z. old ++ steps_of (expression names z)) same_x)

pub typed : (names : Names) (kind : ExprKind) (x : Expr) (ty : TyExpr) (x' : Expr) (n : ℕ) (old new : List Step) → kind ≡ E.Typed x ty → x' ≡ x → new ≡ old ++ steps_of (expression names x') → new ≡ old ++ (expr_kind names kind).before n
typed names kind x ty x' n old new is same_x e = of_kind (expr_kind names) kind _ _ n old new is (L.typed names x ty) (e ∙ ap (λ z. old ++ steps_of (expression names z)) same_x)

pub worded : (names : Names) (kind : ExprKind) (words : Words) (x : Expr) (x' : Expr) (n : ℕ) (old new : List Step) → kind ≡ E.Worded words x → x' ≡ x → new ≡ old ++ steps_of (expression names x') → new ≡ old ++ (expr_kind names kind).before n
worded names kind words x x' n old new is same_x e = of_kind (expr_kind names) kind _ _ n old new is (L.worded names words x) (e ∙ ap (λ z. old ++ steps_of (expression names z)) same_x)

pub exclave : (names : Names) (kind : ExprKind) (x : Expr) (x' : Expr) (n : ℕ) (old new : List Step) → kind ≡ E.Exclave x → x' ≡ x → new ≡ old ++ steps_of (expression names x') → new ≡ old ++ (expr_kind names kind).before n
exclave names kind x x' n old new is same_x e = of_kind (expr_kind names) kind _ _ n old new is (L.exclave names x) (e ∙ ap (λ z. old ++ steps_of (expression names z)) same_x)

pub borrow : (names : Names) (kind : ExprKind) (name lent : Span) (x : Expr) (x' : Expr) (n : ℕ) (old new : List Step) → kind ≡ E.Borrow name lent x → x' ≡ x → new ≡ old ++ steps_of (expression names x') → new ≡ old ++ (expr_kind names kind).before n
borrow names kind name lent x x' n old new is same_x e = of_kind (expr_kind names) kind _ _ n old new is (L.borrow names name lent x) (e ∙ ap (λ z. old ++ steps_of (expression names z)) same_x)

pub overwrite : (names : Names) (kind : ExprKind) (name : Span) (x : Expr) (x' : Expr) (n : ℕ) (old new : List Step) → kind ≡ E.Overwrite name x → x' ≡ x → new ≡ old ++ steps_of (expression names x') → new ≡ old ++ (expr_kind names kind).before n
overwrite names kind name x x' n old new is same_x e = of_kind (expr_kind names) kind _ _ n old new is (L.overwrite names name x) (e ∙ ap (λ z. old ++ steps_of (expression names z)) same_x)

pub int_value : (names : Names) (kind : ExprKind) (value : ℤ) (n : ℕ) (old : List Step) → kind ≡ E.Int value → old ≡ old ++ (expr_kind names kind).before n
int_value names kind value n old is = of_kind (expr_kind names) kind _ _ n old old is (L.int_value names value) (nothing old)

pub char_value : (names : Names) (kind : ExprKind) (value : ℕ) (n : ℕ) (old : List Step) → kind ≡ E.Char value → old ≡ old ++ (expr_kind names kind).before n
char_value names kind value n old is = of_kind (expr_kind names) kind _ _ n old old is (L.char_value names value) (nothing old)

pub text_value : (names : Names) (kind : ExprKind) (value : Lit) (n : ℕ) (old : List Step) → kind ≡ E.Text value → old ≡ old ++ (expr_kind names kind).before n
text_value names kind value n old is = of_kind (expr_kind names) kind _ _ n old old is (L.text_value names value) (nothing old)

pub name : (names : Names) (kind : ExprKind) (span : Span) (n : ℕ) (old : List Step) → kind ≡ E.Name span → old ≡ old ++ (expr_kind names kind).before n
name names kind span n old is = of_kind (expr_kind names) kind _ _ n old old is (L.name names span) (nothing old)

pub path : (names : Names) (kind : ExprKind) (place span : Span) (n : ℕ) (old : List Step) → kind ≡ E.Path place span → old ≡ old ++ (expr_kind names kind).before n
path names kind place span n old is = of_kind (expr_kind names) kind _ _ n old old is (L.path names place span) (nothing old)

-- the scrutinee's type is that of its node
pub cases : (names : Names) (kind : ExprKind) (x x' : Expr) (arms arms' : List Arm) (n : ℕ) (old mid new : List Step) → kind ≡ E.Match x arms → x' ≡ x → arms' ≡ arms → mid ≡ old ++ steps_of (expression names x') → new ≡ mid ++ arms_steps (Of (Node (out-Expr x').id)) (map (arm names) arms') → new ≡ old ++ (expr_kind names kind).before n
cases names kind x x' arms arms' n old mid new is same_x same_arms e f =
    of_kind (expr_kind names) kind _ _ n old new is (L.cases names x arms)
    (two old mid new _ _ (e ∙ ap (λ z. old ++ steps_of (expression names z)) same_x)
    (f ∙ (ap (λ z. mid ++ arms_steps (Of (Node (out-Expr z).id)) (map (arm names) arms')) same_x
    ∙ (ap (λ z. mid ++ arms_steps (Of (Node (out-Expr x).id)) (map (arm names) z)) same_arms
    ∙ ap (λ i. mid ++ arms_steps (Of (Node i)) (map (arm names) arms)) (sym (L.whole_id names x))))))
