-- Equations behind the same items, whose names have schemes by one principal typing or by another: the
-- one are the other at other fresh types of the uses.
use Rattle.std.proofs.Common.{◌≡◌, ℕ, zero, suc, ◌+◌, Bool, true, false, cond, List, [], ◌∷◌, map, length, Option, Some, None, slice_get, refl, sym, ap, ◌∙◌, arith, subst}
use Rattle.ml_types.specs.declared.node.TyId.{TyId}
use Rattle.ml_types.specs.declared.declared.DeclInfo.{DeclInfo}
use Rattle.ml_types.specs.declared.declared.ConInfo.{ConInfo}
use Rattle.ml_types.specs.declared.declared.ArgInfo.{ArgInfo}
use Rattle.ml_types.specs.declared.declared.FieldInfo.{FieldInfo}
use Rattle.ml_types.specs.Types.{Head, ConHead, TupleHead, ArrowHead, Tree, Leaf, Node, Trees, Nil, Cons}
use Rattle.ml_typing.specs.declared.equation.Unknown.{Unknown}
use Rattle.ml_typing.specs.declared.equation.Unknown.TheVariants as u
use Rattle.ml_typing.specs.declared.equation.Term.{Term, fold-roll-Term, ind-Term, roll-Term, map-Term}
use Rattle.ml_typing.specs.declared.equation.Term.TheOpen as t
use Rattle.ml_typing.specs.declared.equation.Term.TheOpen.{Term-F}
use Rattle.ml_typing.specs.Terms.{Shape, Is, Make, Shapes, no_shapes, shape_and, shapes, Context, with_shapes, all_with_shapes, fresh_from, at_fresh, product, function, shape_at, named, made, argument, field, cons_of, fields_of, top, term_step, shape_of}
use Rattle.ml_typing.specs.Typing.{Assignment, tree_of, trees_of, at_types, all_at_types}
use Rattle.ml_typing.specs.Laws.{names_none, names_this, is_own, all_true, apart_step, apart}

shape_and_same : (s r : Shape) (ss rs : Shapes) → s ≡ r → ss ≡ rs → shape_and s ss ≡ shape_and r rs
shape_and_same s r ss rs p q = cc

tree_and_same : (s r : Tree) (ss rs : Trees) → s ≡ r → ss ≡ rs → Cons s ss ≡ Cons r rs
tree_and_same s r ss rs p q = cc

make_same : (h k : Head) (ss rs : Shapes) → h ≡ k → ss ≡ rs → Make h ss ≡ Make k rs
make_same h k ss rs p q = cc

list_same : (x y : Shape) (xs ys : List Shape) → x ≡ y → xs ≡ ys → x ∷ xs ≡ y ∷ ys
list_same x y xs ys p q = cc

-- a type over unknowns at other such types of its unknowns
abbrev mutual
  pub at_shapes : (Unknown → Shape) → Shape → Shape
  at_shapes f (Is v) = f v
  at_shapes f (Make h ss) = Make h (all_at_shapes f ss)

  pub all_at_shapes : (Unknown → Shape) → Shapes → Shapes
  all_at_shapes f no_shapes = no_shapes
  all_at_shapes f (shape_and s ss) = shape_and (at_shapes f s) (all_at_shapes f ss)

mutual
  pub tree_at : (a : Assignment) (f : Unknown → Shape) (s : Shape) → tree_of a (at_shapes f s) ≡ tree_of (λ v. tree_of a (f v)) s
  tree_at a f (Is v) = refl
  tree_at a f (Make h ss) = ap (Node h) (trees_at a f ss)

  pub trees_at : (a : Assignment) (f : Unknown → Shape) (ss : Shapes) → trees_of a (all_at_shapes f ss) ≡ trees_of (λ v. tree_of a (f v)) ss
  trees_at a f no_shapes = refl
  trees_at a f (shape_and s ss) = tree_and_same _ _ _ _ (tree_at a f s) (trees_at a f ss)

mutual
  with_at : (f : Unknown → Shape) (g h : ℕ → Shape) → ((n : ℕ) → at_shapes f (g n) ≡ h n) → (w : Tree) → at_shapes f (with_shapes g w) ≡ with_shapes h w
  with_at f g h e (Leaf n) = e n
  with_at f g h e (Node k ts) = ap (Make k) (all_with_at f g h e ts)

  all_with_at : (f : Unknown → Shape) (g h : ℕ → Shape) → ((n : ℕ) → at_shapes f (g n) ≡ h n) → (ws : Trees) → all_at_shapes f (all_with_shapes g ws) ≡ all_with_shapes h ws
  all_with_at f g h e Nil = refl
  all_with_at f g h e (Cons w ws) = shape_and_same _ _ _ _ (with_at f g h e w) (all_with_at f g h e ws)

mutual
  with_types : (g : ℕ → Shape) (f : ℕ → Tree) (w : Tree) → with_shapes (λ n. with_shapes g (f n)) w ≡ with_shapes g (at_types f w)
  with_types g f (Leaf n) = refl
  with_types g f (Node k ts) = ap (Make k) (all_with_types g f ts)

  all_with_types : (g : ℕ → Shape) (f : ℕ → Tree) (ws : Trees) → all_with_shapes (λ n. with_shapes g (f n)) ws ≡ all_with_shapes g (all_at_types f ws)
  all_with_types g f Nil = refl
  all_with_types g f (Cons w ws) = shape_and_same _ _ _ _ (with_types g f w) (all_with_types g f ws)

-- each is the other at other types of its variables
abbrev pub IsAt : Tree → Tree → Type 0
IsAt x y = (f : ℕ → Tree) × (x ≡ at_types f y)

abbrev pub SameScheme : Option Tree → Option Tree → Type 0
SameScheme None None = Unit {0}
SameScheme None (Some y) = ⊥
SameScheme (Some x) None = ⊥
SameScheme (Some x) (Some y) = IsAt x y × IsAt y x

-- contexts that differ in the variables of schemes alone
pub record IsAlike (c d : Context) : Type 0 where
  pub decls : d.decls ≡ c.decls
  pub declared : d.declared ≡ c.declared
  pub operation : d.operation ≡ c.operation
  pub scheme : (b : ℕ) → SameScheme (c.scheme b) (d.scheme b)

flip : (x y : Option Tree) → SameScheme x y → SameScheme y x
flip None None h = tt
flip None (Some y) h = h
flip (Some x) None h = h
flip (Some x) (Some y) h = (h.1, h.0)

pub alike_back : (c d : Context) → IsAlike c d → IsAlike d c
alike_back c d h = record { decls = sym h.decls; declared = sym h.declared; operation = sym h.operation; scheme = λ b. flip (c.scheme b) (d.scheme b) (h.scheme b) }

-- the types at which the second scheme is the first
abbrev scheme_types : (x y : Option Tree) → SameScheme x y → ℕ → Tree
scheme_types None y h = λ n. Leaf n
scheme_types (Some x) None h = λ n. Leaf n
scheme_types (Some x) (Some y) h = h.0.0

abbrev fresh_at : (c d : Context) → IsAlike c d → ℕ → ℕ → Option ℕ → Shape
fresh_at c d h n k None = Is (u.Fresh n k)
fresh_at c d h n k (Some b) = at_fresh n (scheme_types (c.scheme b) (d.scheme b) (h.scheme b) k)

-- the types of unknowns in the first context that make the equations of the second those of the first
abbrev pub renamed : (c d : Context) → IsAlike c d → (ℕ → Option ℕ) → Unknown → Shape
renamed c d h uses (u.Node n) = Is (u.Node n)
renamed c d h uses (u.Binder n) = Is (u.Binder n)
renamed c d h uses (u.Fresh n k) = fresh_at c d h n k (uses n)

module _ (uses : ℕ → Option ℕ) (c d : Context) (alike : IsAlike c d) where
  abbrev by : Unknown → Shape
  by = renamed c d alike uses

  fresh_own : (n k : ℕ) (o : Option ℕ) → names_none o ≡ true → fresh_at c d alike n k o ≡ Is (u.Fresh n k)
  fresh_own n k None h = refl
  fresh_own n k (Some b) h = absurd cc

  pub own_same : (v : Unknown) → is_own uses v ≡ true → by v ≡ Is v
  own_same (u.Node n) h = refl
  own_same (u.Binder n) h = refl
  own_same (u.Fresh n k) h = fresh_own n k (uses n) h

  at_fresh_same : (n : ℕ) (w : Tree) → names_none (uses n) ≡ true → at_shapes by (at_fresh n w) ≡ at_fresh n w
  at_fresh_same n w h = with_at by (λ k. Is (u.Fresh n k)) (λ k. Is (u.Fresh n k)) (λ k. fresh_own n k (uses n) h) w

  used_of : (o : Option ℕ) (b n k : ℕ) → names_this o b ≡ true → fresh_at c d alike n k o ≡ at_fresh n (scheme_types (c.scheme b) (d.scheme b) (alike.scheme b) k)
  used_of None b n k h = absurd cc
  used_of (Some m) b n k h = let e : m ≡ b = grind arith in ap (λ z. fresh_at c d alike n k (Some z)) e

  top_by : (x y : Option Tree) (s : SameScheme x y) (b n : ℕ) → ((k : ℕ) → by (u.Fresh n k) ≡ at_fresh n (scheme_types x y s k)) → at_shapes by (top y b n) ≡ top x b n
  top_by None None s b n e = refl
  top_by None (Some y) s b n e = absurd s
  top_by (Some x) None s b n e = absurd s
  top_by (Some x) (Some y) s b n e =
      with_at by (λ k. Is (u.Fresh n k)) (λ k. at_fresh n (s.0.0 k)) e y ∙ with_types (λ k. Is (u.Fresh n k)) s.0.0 y ∙ sym (ap (at_fresh n) s.0.1)

  top_same : (b n : ℕ) → names_this (uses n) b ≡ true → at_shapes by (top (d.scheme b) b n) ≡ top (c.scheme b) b n
  top_same b n h = top_by (c.scheme b) (d.scheme b) (alike.scheme b) b n (λ k. used_of (uses n) b n k h)

  -- lists of types
  fresh_same : (n k at : ℕ) → names_none (uses n) ≡ true → all_at_shapes by (shapes (fresh_from n k at)) ≡ shapes (fresh_from n k at)
  fresh_same n zero at h = refl
  fresh_same n (suc k) at h = shape_and_same _ _ _ _ (fresh_own n at (uses n) h) (fresh_same n k (at + 1) h)

  made_same : (q n : ℕ) (o : Option DeclInfo) → names_none (uses n) ≡ true → at_shapes by (made q n o) ≡ made q n o
  made_same q n None h = refl
  made_same q n (Some info) h = ap (Make (ConHead q info.vars)) (fresh_same n info.vars 0 h)

  shapes_same : (xs ys : List Shape) → map (at_shapes by) xs ≡ ys → all_at_shapes by (shapes xs) ≡ shapes ys
  shapes_same [] ys e = ap shapes e
  shapes_same (x ∷ xs) ys e = ap (shape_and (at_shapes by x)) (shapes_same xs (map (at_shapes by) xs) refl) ∙ ap shapes e

  length_same : (xs : List Shape) → length (map (at_shapes by) xs) ≡ length xs
  length_same [] = refl
  length_same (x ∷ xs) = ap (λ n. suc n) (length_same xs)

  product_same : (xs : List Shape) → at_shapes by (product xs) ≡ product (map (at_shapes by) xs)
  product_same [] = refl
  product_same (x ∷ []) = refl
  product_same (x ∷ y ∷ xs) =
      make_same _ _ _ _ (ap (λ n. TupleHead (n + 2)) (sym (length_same xs))) (ap (λ z. shape_and (at_shapes by x) (shape_and (at_shapes by y) z)) (shapes_same xs (map (at_shapes by) xs) refl))

  arguments_same : (n : ℕ) (xs : List ArgInfo) → names_none (uses n) ≡ true → map (at_shapes by) (map (λ (a : ArgInfo). at_fresh n (d.declared a.ty)) xs) ≡ map (λ (a : ArgInfo). at_fresh n (c.declared a.ty)) xs
  arguments_same n [] h = refl
  arguments_same n (x ∷ xs) h =
      list_same _ _ _ _ (at_fresh_same n (d.declared x.ty) h ∙ ap (λ (f : TyId → Tree). at_fresh n (f x.ty)) alike.declared) (arguments_same n xs h)

  function_same : (xs : List Shape) (r : Shape) → at_shapes by (function xs r) ≡ function (map (at_shapes by) xs) (at_shapes by r)
  function_same [] r = refl
  function_same (x ∷ xs) r = ap (λ s. Make ArrowHead (shape_and (at_shapes by x) (shape_and s no_shapes))) (function_same xs r)

  shape_at_same : (xs : List Shape) (n : ℕ) → at_shapes by (shape_at xs n) ≡ shape_at (map (at_shapes by) xs) n
  shape_at_same [] n = refl
  shape_at_same (x ∷ xs) zero = refl
  shape_at_same (x ∷ xs) (suc n) = shape_at_same xs n

  alias_same : (f : TyId → Tree) (q : ℕ) (xs : List Shape) (o : Option TyId) → at_shapes by (elim o as (λ z. Shape) [ None ↦ Make (ConHead q (length xs)) (shapes xs) | Some body ↦ with_shapes (shape_at xs) (f body) ]) ≡ elim o as (λ z. Shape) [ None ↦ Make (ConHead q (length (map (at_shapes by) xs))) (shapes (map (at_shapes by) xs)) | Some body ↦ with_shapes (shape_at (map (at_shapes by) xs)) (f body) ]
  alias_same f q xs None = make_same _ _ _ _ (ap (ConHead q) (sym (length_same xs))) (shapes_same xs (map (at_shapes by) xs) refl)
  alias_same f q xs (Some body) = with_at by (shape_at xs) (shape_at (map (at_shapes by) xs)) (shape_at_same xs) (f body)

  named_same : (f : TyId → Tree) (q : ℕ) (xs : List Shape) (o : Option DeclInfo) → at_shapes by (named f q xs o) ≡ named f q (map (at_shapes by) xs) o
  named_same f q xs None = make_same _ _ _ _ (ap (ConHead q) (sym (length_same xs))) (shapes_same xs (map (at_shapes by) xs) refl)
  named_same f q xs (Some info) = alias_same f q xs info.alias

  made_here : (q n : ℕ) → names_none (uses n) ≡ true → at_shapes by (made q n (slice_get d.decls q)) ≡ made q n (slice_get c.decls q)
  made_here q n h = made_same q n (slice_get d.decls q) h ∙ ap (λ (ds : List DeclInfo). made q n (slice_get ds q)) alike.decls

  argument_same : (n : ℕ) (o : Option ConInfo) → names_none (uses n) ≡ true → at_shapes by (argument d.declared n o) ≡ argument c.declared n o
  argument_same n None h = refl
  argument_same n (Some con) h = product_same (map (λ (a : ArgInfo). at_fresh n (d.declared a.ty)) con.args) ∙ ap product (arguments_same n con.args h)

  argument_here : (q k n : ℕ) → names_none (uses n) ≡ true → at_shapes by (argument d.declared n (slice_get (cons_of (slice_get d.decls q)) k)) ≡ argument c.declared n (slice_get (cons_of (slice_get c.decls q)) k)
  argument_here q k n h = argument_same n (slice_get (cons_of (slice_get d.decls q)) k) h ∙ ap (λ (ds : List DeclInfo). argument c.declared n (slice_get (cons_of (slice_get ds q)) k)) alike.decls

  field_same : (n : ℕ) (o : Option FieldInfo) → names_none (uses n) ≡ true → at_shapes by (field d.declared n o) ≡ field c.declared n o
  field_same n None h = refl
  field_same n (Some g) h = at_fresh_same n (d.declared g.arg.ty) h ∙ ap (λ (f : TyId → Tree). at_fresh n (f g.arg.ty)) alike.declared

  field_here : (q k n : ℕ) → names_none (uses n) ≡ true → at_shapes by (field d.declared n (slice_get (fields_of (slice_get d.decls q)) k)) ≡ field c.declared n (slice_get (fields_of (slice_get c.decls q)) k)
  field_here q k n h = field_same n (slice_get (fields_of (slice_get d.decls q)) k) h ∙ ap (λ (ds : List DeclInfo). field c.declared n (slice_get (fields_of (slice_get ds q)) k)) alike.decls

  named_here : (q : ℕ) (xs ys : List Shape) → map (at_shapes by) xs ≡ ys → at_shapes by (named d.declared q xs (slice_get d.decls q)) ≡ named c.declared q ys (slice_get c.decls q)
  named_here q xs ys e =
      named_same d.declared q xs (slice_get d.decls q) ∙ ap (λ (f : TyId → Tree). named f q (map (at_shapes by) xs) (slice_get d.decls q)) alike.declared
      ∙ ap (λ (ds : List DeclInfo). named c.declared q (map (at_shapes by) xs) (slice_get ds q)) alike.decls ∙ ap (λ zs. named c.declared q zs (slice_get c.decls q)) e

  tuple_all : (xs ys : List Shape) → map (at_shapes by) xs ≡ ys → at_shapes by (Make (TupleHead (length xs)) (shapes xs)) ≡ Make (TupleHead (length ys)) (shapes ys)
  tuple_all xs ys e = make_same _ _ _ _ (ap TupleHead (sym (length_same xs) ∙ ap length e)) (shapes_same xs ys e)

  function_all : (xs ys : List Shape) (r q : Shape) → map (at_shapes by) xs ≡ ys → at_shapes by r ≡ q → at_shapes by (function xs r) ≡ function ys q
  function_all xs ys r q e g = function_same xs r ∙ ap (λ zs. function zs (at_shapes by r)) e ∙ ap (function ys) g

  -- by induction over a term
  abbrev Same : Term → Type 0
  Same x = apart uses x ≡ true → at_shapes by (shape_of d x) ≡ shape_of c x

  abbrev TermPart : Type 0
  TermPart = (x : Term) × Same x

  abbrev layer : Term-F TermPart → Term-F Term
  layer y = map-Term TermPart Term (λ q. q.0) y

  cond_first : (x y : Bool) → cond x y false ≡ true → x ≡ true
  cond_first true y h = refl
  cond_first false y h = absurd cc

  cond_second : (x y : Bool) → cond x y false ≡ true → y ≡ true
  cond_second true y h = h
  cond_second false y h = absurd cc

  all_same : (ys : List TermPart) → all_true (map (apart uses) (map (λ q. q.0) ys)) ≡ true → map (at_shapes by) (map (shape_of d) (map (λ q. q.0) ys)) ≡ map (shape_of c) (map (λ q. q.0) ys)
  all_same [] h = refl
  all_same (y ∷ ys) h = list_same _ _ _ _ (y.1 (cond_first _ _ h)) (all_same ys (cond_second _ _ h))

  step_same : (y : Term-F TermPart) → apart_step uses (map-Term Term Bool (apart uses) (layer y)) ≡ true → at_shapes by (term_step d (map-Term Term Shape (shape_of d) (layer y))) ≡ term_step c (map-Term Term Shape (shape_of c) (layer y))
  step_same (t.Of v) h = own_same v h
  step_same (t.Top b n) h = top_same b n h
  step_same (t.Operation op n) h = at_fresh_same n (d.operation op) h ∙ ap (λ f. at_fresh n (f op)) alike.operation
  step_same (t.Made q n) h = made_here q n h
  step_same (t.Argument q k n) h = argument_here q k n h
  step_same (t.Field q k n) h = field_here q k n h
  step_same (t.Con q args) h = named_here q _ _ (all_same args h)
  step_same (t.Tuple parts) h = tuple_all _ _ (all_same parts h)
  step_same (t.Function params result) h = function_all _ _ _ _ (all_same params (cond_first _ _ h)) (result.1 (cond_second _ _ h))

  term_case : (l : Term-F Term) (y : Term-F TermPart) → layer y ≡ l → Same (roll-Term l)
  term_case l y same h =
      let tested : apart_step uses (map-Term Term Bool (apart uses) l) ≡ true = sym (fold-roll-Term Bool (apart_step uses) l) ∙ h in
      ap (at_shapes by) (fold-roll-Term Shape (term_step d) l)
      ∙ subst (λ (m : Term-F Term). apart_step uses (map-Term Term Bool (apart uses) m) ≡ true → at_shapes by (term_step d (map-Term Term Shape (shape_of d) m)) ≡ term_step c (map-Term Term Shape (shape_of c) m)) same (step_same y) tested
      ∙ sym (fold-roll-Term Shape (term_step c) l)

  pub shape_same : (x : Term) → apart uses x ≡ true → at_shapes by (shape_of d x) ≡ shape_of c x
  shape_same x = ind-Term Same term_case x
