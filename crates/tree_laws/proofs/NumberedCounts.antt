-- Numbering counts the nodes: a step for a tree hands out as many numbers as the tree has nodes.
use Rattle.std.proofs.Common.{◌≡◌, ℕ, ◌+◌, List, [], ◌∷◌, map, sym, subst, arith}
use Rattle.std.specs.Prelude.{sum}
use Rattle.ml_tree.specs.declared.types.TyExpr.{TyExpr, ind-TyExpr, fold-roll-TyExpr, map-TyExpr, roll-TyExpr}
use Rattle.ml_tree.specs.declared.types.Arg.{Arg, ind-Arg, fold-roll-Arg, map-Arg, roll-Arg}
use Rattle.ml_tree.specs.declared.types.TyKind.{TyKind, fold-roll-TyKind, map-TyKind, roll-TyKind}
use Rattle.ml_tree.specs.declared.types.TyKind.TheVariants as T
use Rattle.ml_tree.specs.declared.types.TyKind.TheOpen as t
use Rattle.ml_tree.specs.declared.types.TyKind.TheOpen.{TyKind-F, Arg-F, TyExpr-F}
use Rattle.ml_tree.specs.declared.types.ConDecl.{ConDecl}
use Rattle.ml_tree.specs.declared.types.FieldDecl.{FieldDecl}
use Rattle.ml_tree.specs.declared.types.Decl.{Decl}
use Rattle.ml_tree.specs.declared.types.DeclBody.{DeclBody}
use Rattle.ml_tree.specs.declared.types.DeclBody.TheVariants as B
use Rattle.ml_numbers.specs.declared.next.Next.{Next}
use Rattle.ml_numbers.specs.Steps.{Step, done, ◌>>=◌, node, of_type, one, two, three, each}
use Rattle.ml_numbers.specs.Numbered.{type_step, arg_step, type_node, numbered_type, numbered_type_kind, numbered_arg, numbered_con, numbered_field_decl, numbered_body, numbered_decl}
use Rattle.tree_laws.proofs.NodeForms.{sum_more}

-- the step hands out this many numbers of nodes
pub record Counts {A : Type 0} (k : ℕ) (m : Step A) : Type 0 where
  pub by : (n : Next) → (m n).1.nodes ≡ n.nodes + k

pub counts_done : {A : Type 0} (x : A) → Counts 0 (done x)
counts_done x = record { by = λ n. omega arith }

pub counts_one : {A B : Type 0} (k : ℕ) (m : Step A) (f : A → B) → Counts k m → Counts k (one m f)
counts_one k m f h = record { by = λ n. h.by n }

pub counts_two : {A B C : Type 0} (k l : ℕ) (m : Step A) (p : Step B) (f : A → B → C) → Counts k m → Counts l p → Counts (k + l) (two m p f)
counts_two k l m p f h g = record { by = λ n. (let i = h.by n in let j = g.by (m n).1 in omega arith) }

pub counts_three : {A B C D : Type 0} (k l o : ℕ) (m : Step A) (p : Step B) (q : Step C) (f : A → B → C → D) → Counts k m → Counts l p → Counts o q → Counts (k + l + o) (three m p q f)
counts_three k l o m p q f h g j = record {
  by = λ n.
      let x = h.by n in let y = g.by (m n).1 in let z = j.by (p (m n).1).1 in omega arith;
}

-- types have no nodes
pub counts_before : {A B C : Type 0} (k : ℕ) (m : Step A) (p : Step B) (f : A → B → C) → Counts k m → Counts 0 p → Counts k (two m p f)
counts_before k m p f h g = record { by = λ n. (let i = h.by n in let j = g.by (m n).1 in omega arith) }

-- a pattern, parameters, what has no nodes, and a body
pub counts_four : {A B C D E : Type 0} (k l o : ℕ) (m : Step A) (p : Step B) (q : Step C) (r : Step D) (f : A → B → C → D → E) → Counts k m → Counts l p → Counts 0 q → Counts o r → Counts (k + l + o) (m >>= λ x. three p q r (f x))
counts_four k l o m p q r f h g j t = record {
  by = λ n.
      let a = (m n).1 in let b = (p a).1 in let c = (q b).1 in
      let w = h.by n in let x = g.by a in let y = j.by b in let z = t.by c in omega arith;
}

-- a node, and its parts behind it
pub counts_node : {A B : Type 0} (k : ℕ) (p : Step A) (f : ℕ → A → B) → Counts k p → Counts (k + 1) (two node p f)
counts_node k p f h = record { by = λ n. (let i = h.by (node n).1 in omega arith) }

counts_of_type : {A B : Type 0} (p : Step A) (f : ℕ → A → B) → Counts 0 p → Counts 0 (two of_type p f)
counts_of_type p f h = record { by = λ n. (let i = h.by (of_type n).1 in omega arith) }

pub counts_each : {A : Type 0} (g : A → ℕ) (f : A → Step A) → ((x : A) → Counts (g x) (f x)) → (xs : List A) → Counts (sum (map g xs)) (each (map f xs))
counts_each g f h [] = counts_done []
counts_each g f h (x ∷ xs) = subst (λ k. Counts k (each (map f (x ∷ xs)))) (sym (sum_more (g x) (map g xs))) (counts_two (g x) (sum (map g xs)) (f x) (each (map f xs)) ◌∷◌ (h x) (counts_each g f h xs))

pub counts_parts : {A : Type 0} (g : A → ℕ) (f : A → Step A) (xs : List ((x : A) × Counts (g x) (f x))) → Counts (sum (map g (map (λ q. q.0) xs))) (each (map f (map (λ q. q.0) xs)))
counts_parts g f [] = counts_done []
counts_parts g f (q ∷ qs) = subst (λ k. Counts k (each (map f (map (λ r. r.0) (q ∷ qs))))) (sym (sum_more (g q.0) (map g (map (λ r. r.0) qs)))) (counts_two (g q.0) (sum (map g (map (λ r. r.0) qs))) (f q.0) (each (map f (map (λ r. r.0) qs))) ◌∷◌ q.1 (counts_parts g f qs))

pub counts_none_each : {A : Type 0} (f : A → Step A) → ((x : A) → Counts 0 (f x)) → (xs : List A) → Counts 0 (each (map f xs))
counts_none_each f h [] = counts_done []
counts_none_each f h (x ∷ xs) = counts_before 0 (f x) (each (map f xs)) ◌∷◌ (h x) (counts_none_each f h xs)

counts_none_parts : {A : Type 0} (f : A → Step A) (xs : List ((x : A) × Counts 0 (f x))) → Counts 0 (each (map f (map (λ q. q.0) xs)))
counts_none_parts f [] = counts_done []
counts_none_parts f (q ∷ qs) = counts_before 0 (f q.0) (each (map f (map (λ r. r.0) qs))) ◌∷◌ q.1 (counts_none_parts f qs)

abbrev TyKindPart : Type 0
TyKindPart = (x : TyKind) × Counts 0 (numbered_type_kind x)

abbrev ArgPart : Type 0
ArgPart = (x : Arg) × Counts 0 (numbered_arg x)

abbrev TyExprPart : Type 0
TyExprPart = (x : TyExpr) × Counts 0 (numbered_type x)

abbrev layer_tykind : TyKind-F TyKindPart ArgPart TyExprPart → TyKind-F TyKind Arg TyExpr
layer_tykind y = map-TyKind TyKindPart ArgPart TyExprPart TyKind Arg TyExpr (λ q. q.0) (λ q. q.0) (λ q. q.0) y

abbrev stepped_tykind : TyKind-F TyKind Arg TyExpr → TyKind-F (Step TyKind) (Step Arg) (Step TyExpr)
stepped_tykind l = map-TyKind TyKind Arg TyExpr (Step TyKind) (Step Arg) (Step TyExpr) numbered_type_kind numbered_arg numbered_type l

abbrev layer_arg : Arg-F TyKindPart ArgPart TyExprPart → Arg-F TyKind Arg TyExpr
layer_arg y = map-Arg TyKindPart ArgPart TyExprPart TyKind Arg TyExpr (λ q. q.0) (λ q. q.0) (λ q. q.0) y

abbrev stepped_arg : Arg-F TyKind Arg TyExpr → Arg-F (Step TyKind) (Step Arg) (Step TyExpr)
stepped_arg l = map-Arg TyKind Arg TyExpr (Step TyKind) (Step Arg) (Step TyExpr) numbered_type_kind numbered_arg numbered_type l

abbrev layer_tyexpr : TyExpr-F TyKindPart ArgPart TyExprPart → TyExpr-F TyKind Arg TyExpr
layer_tyexpr y = map-TyExpr TyKindPart ArgPart TyExprPart TyKind Arg TyExpr (λ q. q.0) (λ q. q.0) (λ q. q.0) y

abbrev stepped_tyexpr : TyExpr-F TyKind Arg TyExpr → TyExpr-F (Step TyKind) (Step Arg) (Step TyExpr)
stepped_tyexpr l = map-TyExpr TyKind Arg TyExpr (Step TyKind) (Step Arg) (Step TyExpr) numbered_type_kind numbered_arg numbered_type l

kind_counts : (y : TyKind-F TyKindPart ArgPart TyExprPart) → Counts 0 (type_step (stepped_tykind (layer_tykind y)))
kind_counts (t.Var span) = counts_done _
kind_counts (t.Con name args) = counts_one 0 _ (T.Con name) (counts_none_parts numbered_type args)
kind_counts (t.Tuple parts) = counts_one 0 _ T.Tuple (counts_none_parts numbered_type parts)
kind_counts (t.Arrow from to) = counts_before 0 _ _ T.Arrow from.1 to.1

kind_case : (l : TyKind-F TyKind Arg TyExpr) (y : TyKind-F TyKindPart ArgPart TyExprPart) → layer_tykind y ≡ l → Counts 0 (numbered_type_kind (roll-TyKind l))
kind_case l y same = subst (Counts 0) (sym (fold-roll-TyKind (Step TyKind) (Step Arg) (Step TyExpr) type_step arg_step type_node l)) (subst (λ l. Counts 0 (type_step (stepped_tykind l))) same (kind_counts y))

arg_case : (l : Arg-F TyKind Arg TyExpr) (y : Arg-F TyKindPart ArgPart TyExprPart) → layer_arg y ≡ l → Counts 0 (numbered_arg (roll-Arg l))
arg_case l y same = subst (Counts 0) (sym (fold-roll-Arg (Step TyKind) (Step Arg) (Step TyExpr) type_step arg_step type_node l)) (subst (λ l. Counts 0 (arg_step (stepped_arg l))) same (counts_one 0 _ (λ ty. roll-Arg (record { words = y.words; ty = ty })) y.ty.1))

tyexpr_case : (l : TyExpr-F TyKind Arg TyExpr) (y : TyExpr-F TyKindPart ArgPart TyExprPart) → layer_tyexpr y ≡ l → Counts 0 (numbered_type (roll-TyExpr l))
tyexpr_case l y same = subst (Counts 0) (sym (fold-roll-TyExpr (Step TyKind) (Step Arg) (Step TyExpr) type_step arg_step type_node l)) (subst (λ l. Counts 0 (type_node (stepped_tyexpr l))) same (counts_of_type _ (λ id kind. roll-TyExpr (record { id = id; span = y.span; kind = kind })) y.kind.1))

pub type_counts : (ty : TyExpr) → Counts 0 (numbered_type ty)
type_counts ty = ind-TyExpr (λ x. Counts 0 (numbered_type_kind x)) (λ x. Counts 0 (numbered_arg x)) (λ x. Counts 0 (numbered_type x)) kind_case arg_case tyexpr_case ty

arg_counts : (a : Arg) → Counts 0 (numbered_arg a)
arg_counts a = ind-Arg (λ x. Counts 0 (numbered_type_kind x)) (λ x. Counts 0 (numbered_arg x)) (λ x. Counts 0 (numbered_type x)) kind_case arg_case tyexpr_case a

con_counts : (c : ConDecl) → Counts 0 (numbered_con c)
con_counts c = counts_one 0 _ (λ args. record { name = c.name; args = args }) (counts_none_each numbered_arg arg_counts c.args)

field_decl_counts : (f : FieldDecl) → Counts 0 (numbered_field_decl f)
field_decl_counts f = counts_one 0 _ (λ arg. record { name = f.name; arg = arg }) (arg_counts f.arg)

body_counts : (b : DeclBody) → Counts 0 (numbered_body b)
body_counts (B.Variant cons) = counts_one 0 _ B.Variant (counts_none_each numbered_con con_counts cons)
body_counts (B.Fields fields) = counts_one 0 _ B.Fields (counts_none_each numbered_field_decl field_decl_counts fields)
body_counts (B.Alias ty) = counts_one 0 _ B.Alias (type_counts ty)

pub decl_counts : (d : Decl) → Counts 0 (numbered_decl d)
decl_counts d = counts_one 0 _ (λ body. record { name = d.name; vars = d.vars; body = body }) (body_counts d.body)
