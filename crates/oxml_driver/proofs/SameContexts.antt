-- Over two tables with the declarations of one program terms stand for the same types, so that a program
-- has types, or a fault, over both.
use Rattle.std.proofs.Common.{◌≡◌, ℕ, zero, suc, ◌+◌, ◌<◌, Bool, true, false, cond, List, [], ◌∷◌, ◌++◌, map, take, length, Option, Some, None, slice_get, refl, sym, ap, ◌∙◌, subst}
use Rattle.std.specs.Prelude.{option_map}
use Rattle.std.proofs.lemmas.Option.{get_or_from_slice_get}
use Rattle.oxml_base.specs.declared.span.Span.{Span}
use Rattle.ml_tree.specs.declared.reference.Op.{Op}
use Rattle.ml_types.specs.declared.node.TyId.{TyId}
use Rattle.ml_types.specs.declared.node.TyNode.{TyNode}
use Rattle.ml_types.specs.declared.declared.DeclInfo.{DeclInfo}
use Rattle.ml_types.specs.declared.declared.ConInfo.{ConInfo}
use Rattle.ml_types.specs.declared.declared.ArgInfo.{ArgInfo}
use Rattle.ml_types.specs.declared.declared.FieldInfo.{FieldInfo}
use Rattle.ml_types.specs.Types.{ConHead, Tree, Leaf, tree_size}
use Rattle.ml_decls.specs.Said.{SaidArg, SaidCon, SaidField, Said}
use Rattle.ml_decls.specs.Tables.{tree_in, trees_of, HasType, Each, ArgSays, ConSays, FieldSays, AliasSays, Says}
use Rattle.ml_typing.specs.declared.equation.Unknown.TheVariants.{Binder}
use Rattle.ml_typing.specs.declared.equation.Equation.{Equation}
use Rattle.ml_typing.specs.declared.equation.Step.{Step}
use Rattle.ml_typing.specs.declared.equation.Term.{Term, fold-Term}
use Rattle.ml_typing.specs.declared.equation.Term.TheOpen as t
use Rattle.ml_typing.specs.declared.equation.Term.TheOpen.{Term-F}
use Rattle.ml_typing.specs.Terms.{Shape, Is, Make, shapes, Context, with_shapes, fresh_from, at_fresh, product, no_shape, no_shapes, shape_at, named, made, argument, field, cons_of, fields_of, top, term_step, shape_of}
use Rattle.declared_laws.specs.Expanding.{expand, layers, bodies, declared_types}
use Rattle.ml_typing.specs.Typing.{alias_of, Assignment, Pair, Satisfies, pair_of, step_pairs, pairs, is_among, behind, behind_all, IsPrincipal, IsTyped, ItemSteps, first_context}
use Rattle.ml_typing.specs.Refusals.{HasSolution, NoSolution, Fits, IsRuleOf, IsUnsolved, IsTooLarge, HasTypes, FirstFault}

-- ---- what terms stand for, by what the declarations say

-- what a declaration says that it abbreviates
abbrev alias_said : Option Said → Option Tree
alias_said None = None
alias_said (Some said) = said.alias

abbrev bodies_said : List Said → ℕ → Option Tree
bodies_said said d = alias_said (slice_get said d)

-- a type that a declaration says, in which the names of abbreviations are replaced by the types that
-- they stand for
abbrev expanded : List Said → Tree → Tree
expanded said w = expand (layers (bodies_said said) (length said)) w

-- a type is expanded by E
abbrev named_said : (Tree → Tree) → ℕ → List Shape → Option Said → Shape
named_said E d args None = Make (ConHead d (length args)) (shapes args)
named_said E d args (Some said) = elim said.alias [ None ↦ Make (ConHead d (length args)) (shapes args) | Some body ↦ with_shapes (shape_at args) (E body) ]

abbrev made_said : ℕ → ℕ → Option Said → Shape
made_said d node None = Make (ConHead d 0) no_shapes
made_said d node (Some said) = Make (ConHead d said.vars) (shapes (fresh_from node said.vars 0))

abbrev argument_said : (Tree → Tree) → ℕ → Option SaidCon → Shape
argument_said E node None = no_shape
argument_said E node (Some con) = product (map (λ (a : SaidArg). at_fresh node (E a.ty)) con.args)

abbrev field_said : (Tree → Tree) → ℕ → Option SaidField → Shape
field_said E node None = no_shape
field_said E node (Some f) = at_fresh node (E f.arg.ty)

abbrev cons_said : Option Said → List SaidCon
cons_said None = []
cons_said (Some said) = said.cons

abbrev fields_said : Option Said → List SaidField
fields_said None = []
fields_said (Some said) = said.fields

-- what stands at a number of two lists that are related one by one
abbrev Both : {A B : Type 0} → (A → B → Type 0) → Option A → Option B → Type 0
Both R None None = Unit {0}
Both R None (Some y) = ⊥
Both R (Some x) None = ⊥
Both R (Some x) (Some y) = R x y

both_at : {A B : Type 0} → (R : A → B → Type 0) (xs : List A) (ys : List B) → Each R xs ys → (i : ℕ) → Both R (slice_get xs i) (slice_get ys i)
both_at R [] [] h i = tt
both_at R [] (y ∷ ys) h i = absurd h
both_at R (x ∷ xs) [] h i = absurd h
both_at R (x ∷ xs) (y ∷ ys) h zero = h.0
both_at R (x ∷ xs) (y ∷ ys) h (suc i) = both_at R xs ys h.1 i

shape_more : (x y : Shape) (xs ys : List Shape) → x ≡ y → xs ≡ ys → x ∷ xs ≡ y ∷ ys
shape_more x y xs ys e g = cc

raw_type_is : (nodes : List TyNode) (x : TyId) (w : Tree) → HasType nodes x w → tree_in (trees_of nodes) x ≡ w
raw_type_is nodes x w h = get_or_from_slice_get (trees_of nodes) x.0 w (Leaf 0) h

alias_same : (nodes : List TyNode) (o : Option TyId) (p : Option Tree) → AliasSays nodes o p → option_map (tree_in (trees_of nodes)) o ≡ p
alias_same nodes None None h = refl
alias_same nodes None (Some w) h = absurd h
alias_same nodes (Some x) None h = absurd h
alias_same nodes (Some x) (Some w) h = ap Some (raw_type_is nodes x w h)

body_same : (nodes : List TyNode) (o : Option DeclInfo) (p : Option Said) → Both (Says nodes) o p → option_map (tree_in (trees_of nodes)) (alias_of o) ≡ alias_said p
body_same nodes None None h = refl
body_same nodes None (Some y) h = absurd h
body_same nodes (Some x) None h = absurd h
body_same nodes (Some x) (Some y) h = alias_same nodes x.alias y.alias h.alias

each_length : {A B : Type 0} → (R : A → B → Type 0) (xs : List A) (ys : List B) → Each R xs ys → length xs ≡ length ys
each_length R [] [] h = refl
each_length R [] (y ∷ ys) h = absurd h
each_length R (x ∷ xs) [] h = absurd h
each_length R (x ∷ xs) (y ∷ ys) h = ap suc (each_length R xs ys h.1)

-- the types of a table are those that its declarations say, expanded
expanded_is : (nodes : List TyNode) (infos : List DeclInfo) (said : List Said) → Each (Says nodes) infos said → (x : TyId) (w : Tree) → HasType nodes x w → declared_types infos nodes x ≡ expanded said w
expanded_is nodes infos said h x w t =
    let bodies_same : bodies infos nodes ≡ bodies_said said = λ i d. body_same nodes (slice_get infos d) (slice_get said d) (both_at (Says nodes) infos said h d) i in
    ap (λ (f : ℕ → Option Tree). expand (layers f (length infos)) (tree_in (trees_of nodes) x)) bodies_same
    ∙ ap (λ n. expand (layers (bodies_said said) n) (tree_in (trees_of nodes) x)) (each_length (Says nodes) infos said h)
    ∙ ap (expanded said) (raw_type_is nodes x w t)

module _ (nodes : List TyNode) (type_in : TyId → Tree) (E : Tree → Tree) (type_is : (x : TyId) (w : Tree) → HasType nodes x w → type_in x ≡ E w) where
  alias_is : (d : ℕ) (args : List Shape) (o : Option TyId) (p : Option Tree) → AliasSays nodes o p → elim o as (λ z. Shape) [ None ↦ Make (ConHead d (length args)) (shapes args) | Some body ↦ with_shapes (shape_at args) (type_in body) ] ≡ elim p as (λ z. Shape) [ None ↦ Make (ConHead d (length args)) (shapes args) | Some body ↦ with_shapes (shape_at args) (E body) ]
  alias_is d args None None h = refl
  alias_is d args None (Some w) h = absurd h
  alias_is d args (Some x) None h = absurd h
  alias_is d args (Some x) (Some w) h = ap (with_shapes (shape_at args)) (type_is x w h)

  named_is : (d : ℕ) (args : List Shape) (o : Option DeclInfo) (p : Option Said) → Both (Says nodes) o p → named type_in d args o ≡ named_said E d args p
  named_is d args None None h = refl
  named_is d args None (Some y) h = absurd h
  named_is d args (Some x) None h = absurd h
  named_is d args (Some x) (Some y) h = alias_is d args x.alias y.alias h.alias

  made_is : (d node : ℕ) (o : Option DeclInfo) (p : Option Said) → Both (Says nodes) o p → made d node o ≡ made_said d node p
  made_is d node None None h = refl
  made_is d node None (Some y) h = absurd h
  made_is d node (Some x) None h = absurd h
  made_is d node (Some x) (Some y) h = ap (λ v. Make (ConHead d v) (shapes (fresh_from node v 0))) h.vars

  args_are : (node : ℕ) (xs : List ArgInfo) (ys : List SaidArg) → Each (ArgSays nodes) xs ys → map (λ (a : ArgInfo). at_fresh node (type_in a.ty)) xs ≡ map (λ (a : SaidArg). at_fresh node (E a.ty)) ys
  args_are node [] [] h = refl
  args_are node [] (y ∷ ys) h = absurd h
  args_are node (x ∷ xs) [] h = absurd h
  args_are node (x ∷ xs) (y ∷ ys) h = shape_more _ _ _ _ (ap (at_fresh node) (type_is x.ty y.ty h.0.ty)) (args_are node xs ys h.1)

  argument_is : (node : ℕ) (o : Option ConInfo) (p : Option SaidCon) → Both (ConSays nodes) o p → argument type_in node o ≡ argument_said E node p
  argument_is node None None h = refl
  argument_is node None (Some y) h = absurd h
  argument_is node (Some x) None h = absurd h
  argument_is node (Some x) (Some y) h = ap product (args_are node x.args y.args h.args)

  field_is : (node : ℕ) (o : Option FieldInfo) (p : Option SaidField) → Both (FieldSays nodes) o p → field type_in node o ≡ field_said E node p
  field_is node None None h = refl
  field_is node None (Some y) h = absurd h
  field_is node (Some x) None h = absurd h
  field_is node (Some x) (Some y) h = ap (at_fresh node) (type_is x.arg.ty y.arg.ty h.arg.ty)

  con_at : (k : ℕ) (o : Option DeclInfo) (p : Option Said) → Both (Says nodes) o p → Both (ConSays nodes) (slice_get (cons_of o) k) (slice_get (cons_said p) k)
  con_at k None None h = tt
  con_at k None (Some y) h = absurd h
  con_at k (Some x) None h = absurd h
  con_at k (Some x) (Some y) h = both_at (ConSays nodes) x.cons y.cons h.cons k

  field_at : (k : ℕ) (o : Option DeclInfo) (p : Option Said) → Both (Says nodes) o p → Both (FieldSays nodes) (slice_get (fields_of o) k) (slice_get (fields_said p) k)
  field_at k None None h = tt
  field_at k None (Some y) h = absurd h
  field_at k (Some x) None h = absurd h
  field_at k (Some x) (Some y) h = both_at (FieldSays nodes) x.fields y.fields h.fields k

-- ---- contexts in which terms stand for the same types

pub record IsSame (c d : Context) : Type 0 where
  pub names : (q : ℕ) (args : List Shape) → named c.declared q args (slice_get c.decls q) ≡ named d.declared q args (slice_get d.decls q)
  pub makes : (q node : ℕ) → made q node (slice_get c.decls q) ≡ made q node (slice_get d.decls q)
  pub takes : (q k node : ℕ) → argument c.declared node (slice_get (cons_of (slice_get c.decls q)) k) ≡ argument d.declared node (slice_get (cons_of (slice_get d.decls q)) k)
  pub holds : (q k node : ℕ) → field c.declared node (slice_get (fields_of (slice_get c.decls q)) k) ≡ field d.declared node (slice_get (fields_of (slice_get d.decls q)) k)
  pub operations : (op : Op) → c.operation op ≡ d.operation op
  pub schemes : (b : ℕ) → c.scheme b ≡ d.scheme b

pub first_same : (nodes others : List TyNode) (infos kinds : List DeclInfo) (said : List Said) → Each (Says nodes) infos said → Each (Says others) kinds said → IsSame (first_context infos (declared_types infos nodes)) (first_context kinds (declared_types kinds others))
first_same nodes others infos kinds said h k = record {
  names = λ q args. named_is nodes (declared_types infos nodes) (expanded said) first q args _ _ (one q) ∙ sym (named_is others (declared_types kinds others) (expanded said) second q args _ _ (other q));
  makes = λ q node. made_is nodes (declared_types infos nodes) (expanded said) first q node _ _ (one q) ∙ sym (made_is others (declared_types kinds others) (expanded said) second q node _ _ (other q));
  takes = λ q j node. argument_is nodes (declared_types infos nodes) (expanded said) first node _ _ (con_at nodes (declared_types infos nodes) (expanded said) first j _ _ (one q)) ∙ sym (argument_is others (declared_types kinds others) (expanded said) second node _ _ (con_at others (declared_types kinds others) (expanded said) second j _ _ (other q)));
  holds = λ q j node. field_is nodes (declared_types infos nodes) (expanded said) first node _ _ (field_at nodes (declared_types infos nodes) (expanded said) first j _ _ (one q)) ∙ sym (field_is others (declared_types kinds others) (expanded said) second node _ _ (field_at others (declared_types kinds others) (expanded said) second j _ _ (other q)));
  operations = λ op. refl;
  schemes = λ b. refl;
}
  where
    first : (x : TyId) (w : Tree) → HasType nodes x w → declared_types infos nodes x ≡ expanded said w
    first = expanded_is nodes infos said h

    second : (x : TyId) (w : Tree) → HasType others x w → declared_types kinds others x ≡ expanded said w
    second = expanded_is others kinds said k

    one : (q : ℕ) → Both (Says nodes) (slice_get infos q) (slice_get said q)
    one q = both_at (Says nodes) infos said h q

    other : (q : ℕ) → Both (Says others) (slice_get kinds q) (slice_get said q)
    other q = both_at (Says others) kinds said k q

scheme_behind : (x : Bool) (w : Tree) (o p : Option Tree) → o ≡ p → cond x (Some w) o ≡ cond x (Some w) p
scheme_behind true w o p e = refl
scheme_behind false w o p e = e

behind_same : (c d : Context) (a : Assignment) (binders : List ℕ) → IsSame c d → IsSame (behind c a binders) (behind d a binders)
behind_same c d a binders s = record {
  names = s.names;
  makes = s.makes;
  takes = s.takes;
  holds = s.holds;
  operations = s.operations;
  schemes = λ b. scheme_behind (is_among binders b) (a (Binder b)) (c.scheme b) (d.scheme b) (s.schemes b);
}

behind_all_same : (c d : Context) (types : List Assignment) (items : List ItemSteps) → IsSame c d → IsSame (behind_all c types items) (behind_all d types items)
behind_all_same c d [] items s = s
behind_all_same c d (a ∷ types) [] s = s
behind_all_same c d (a ∷ types) (i ∷ items) s = behind_all_same (behind c a i.binders) (behind d a i.binders) types items (behind_same c d a i.binders s)

step_same : (c d : Context) → IsSame c d → (y : Term-F Shape) → term_step c y ≡ term_step d y
step_same c d s (t.Of v) = refl
step_same c d s (t.Top b n) = ap (λ o. top o b n) (s.schemes b)
step_same c d s (t.Operation op n) = ap (at_fresh n) (s.operations op)
step_same c d s (t.Made q n) = s.makes q n
step_same c d s (t.Argument q k n) = s.takes q k n
step_same c d s (t.Field q k n) = s.holds q k n
step_same c d s (t.Con q args) = s.names q args
step_same c d s (t.Tuple parts) = refl
step_same c d s (t.Function params result) = refl

shape_same : (c d : Context) → IsSame c d → (x : Term) → shape_of c x ≡ shape_of d x
shape_same c d s x = λ i. fold-Term Shape (λ y. step_same c d s y i) x

pair_more : (x y : Pair) (xs ys : List Pair) → x ≡ y → xs ≡ ys → x ∷ xs ≡ y ∷ ys
pair_more x y xs ys e g = cc

append_same : (xs ys us vs : List Pair) → xs ≡ ys → us ≡ vs → xs ++ us ≡ ys ++ vs
append_same xs ys us vs e g = cc

-- ---- what is said of equations in the one is said of them in the other

module _ (c d : Context) (same : IsSame c d) where
  equations_same : (es : List Equation) → map (pair_of c) es ≡ map (pair_of d) es
  equations_same [] = refl
  equations_same (e ∷ es) = pair_more _ _ _ _ (ap (λ (r : Shape). (Is e.left, r)) (shape_same c d same e.right)) (equations_same es)

  pairs_same : (ss : List Step) → pairs c ss ≡ pairs d ss
  pairs_same [] = refl
  pairs_same (s ∷ ss) = append_same _ _ _ _ (equations_same s.equations) (pairs_same ss)

  whole_same : (ss : List Step) (s : Step) → pairs c ss ++ step_pairs c s ≡ pairs d ss ++ step_pairs d s
  whole_same ss s = append_same _ _ _ _ (pairs_same ss) (equations_same s.equations)

  part_same : (ss : List Step) (s : Step) (n : ℕ) → pairs c ss ++ take n (step_pairs c s) ≡ pairs d ss ++ take n (step_pairs d s)
  part_same ss s n = append_same _ _ _ _ (pairs_same ss) (ap (take n) (equations_same s.equations))

  fits_too : (ss : List Step) → Fits c ss → Fits d ss
  fits_too ss (a, solves, small) = (a, subst (Satisfies a) (pairs_same ss) solves, small)

  pub unsolved_too : (ss : List Step) (rule : ℕ) (span : Span) → IsUnsolved c ss rule span → IsUnsolved d ss rule span
  unsolved_too ss rule span f = record {
    k = f.k;
    step = f.step;
    at = f.at;
    part = f.part;
    equation = f.equation;
    equation_at = f.equation_at;
    span_is = f.span_is;
    before = fits_too (take f.k ss) f.before;
    still = subst HasSolution (part_same (take f.k ss) f.step f.part) f.still;
    fails = subst NoSolution (part_same (take f.k ss) f.step (f.part + 1)) f.fails;
    rule_is = subst (IsRuleOf rule) (whole_same (take f.k ss) f.step) f.rule_is;
  }

  pub large_too : (ss : List Step) (span : Span) → IsTooLarge c ss span → IsTooLarge d ss span
  large_too ss span f = record {
    k = f.k;
    step = f.step;
    at = f.at;
    type = f.type;
    of_steps = f.of_steps;
    span_is = f.span_is;
    before = fits_too (take f.k ss) f.before;
    solvable = subst HasSolution (whole_same (take f.k ss) f.step) f.solvable;
    large = subst (λ ps. (a : Assignment) → Satisfies a ps → 2000 < tree_size (a f.type)) (whole_same (take f.k ss) f.step) f.large;
  }

typed_too : (c d : Context) → IsSame c d → (types : List Assignment) (items : List ItemSteps) → IsTyped c types items → IsTyped d types items
typed_too c d s [] [] h = h
typed_too c d s [] (i ∷ items) h = h
typed_too c d s (a ∷ types) [] h = h
typed_too c d s (a ∷ types) (i ∷ items) h =
    (subst (λ ps. IsPrincipal ps a) (pairs_same c d s i.steps) h.0, typed_too (behind c a i.binders) (behind d a i.binders) (behind_same c d a i.binders s) types items h.1)

pub has_types_too : (c d : Context) → IsSame c d → (items : List ItemSteps) (types : List Assignment) → HasTypes c items types → HasTypes d items types
has_types_too c d s items types h = record { typed = typed_too c d s types items h.typed; small = h.small }

pub first_too : (P : Context → List Step → Type 0) → ((e f : Context) → IsSame e f → (ss : List Step) → P e ss → P f ss) → (c d : Context) → IsSame c d → (items : List ItemSteps) → FirstFault c items P → FirstFault d items P
first_too P moves c d s items f = record {
  before = f.before;
  item = f.item;
  after = f.after;
  split = f.split;
  types = f.types;
  typed = has_types_too c d s f.before f.types f.typed;
  fault = moves (behind_all c f.types f.before) (behind_all d f.types f.before) (behind_all_same c d f.types f.before s) f.item.steps f.fault;
}
