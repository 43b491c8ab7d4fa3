-- Why a program has no types: the first step without a solution, the first whose most general solution
-- makes a type too large, and the first comparison at a type that has none.
use Rattle.std.specs.Prelude.{◌≡◌, ◌⊎◌, ℕ, ◌+◌, ◌<◌, ◌≤◌, List, [], ◌∷◌, ◌++◌, take, Some, slice_get}
use Rattle.oxml_base.specs.declared.span.Span.{Span}
use Rattle.ml_types.specs.Types.{Head, ConHead, Tree, Node, Trees, Nil, Cons, tree_size}
use Rattle.ml_typing.specs.declared.equation.Unknown.{Unknown}
use Rattle.ml_typing.specs.declared.equation.Unknown.TheVariants as u
use Rattle.ml_typing.specs.declared.equation.Equation.{Equation}
use Rattle.ml_typing.specs.declared.equation.Step.{Step}
use Rattle.ml_typing.specs.Terms.{Shape, Is, Make, Shapes, no_shapes, shape_and, Context}
use Rattle.ml_typing.specs.Typing.{Assignment, Pair, Satisfies, pairs, step_pairs, ItemSteps, behind_all, IsTyped}

abbrev pub HasSolution : List Pair → Type 0
HasSolution ps = (a : Assignment) × Satisfies a ps

abbrev pub NoSolution : List Pair → Type 0
NoSolution ps = (a : Assignment) → Satisfies a ps → ⊥

-- a part of a type over unknowns, itself among them
abbrev mutual
  pub IsPart : Shape → Shape → Type 0
  IsPart s (Is v) = s ≡ Is v
  IsPart s (Make h ss) = (s ≡ Make h ss) ⊎ IsPartOfAny s ss

  pub IsPartOfAny : Shape → Shapes → Type 0
  IsPartOfAny s no_shapes = ⊥
  IsPartOfAny s (shape_and r ss) = IsPart s r ⊎ IsPartOfAny s ss

abbrev pub IsIn : Shape → List Pair → Type 0
IsIn s [] = ⊥
IsIn s (p ∷ ps) = IsPart s p.0 ⊎ (IsPart s p.1 ⊎ IsIn s ps)

abbrev pub names_of_all : (Shape → Tree) → Shapes → Trees
names_of_all c no_shapes = Nil
names_of_all c (shape_and s ss) = Cons (c s) (names_of_all c ss)

-- a solution among infinite types: an equivalence of the types that occur, by a name for each class,
-- that relates the two of each pair and the parts of related types in order, and relates no two types
-- with different heads
pub record IsInfinite (ps : List Pair) (c : Shape → Tree) : Type 0 where
  pub equal : (i : ℕ) (p : Pair) → slice_get ps i ≡ Some p → c p.0 ≡ c p.1
  pub heads : (h k : Head) (ss rs : Shapes) → IsIn (Make h ss) ps → IsIn (Make k rs) ps → c (Make h ss) ≡ c (Make k rs) → h ≡ k
  pub parts : (h k : Head) (ss rs : Shapes) → IsIn (Make h ss) ps → IsIn (Make k rs) ps → c (Make h ss) ≡ c (Make k rs) → names_of_all c ss ≡ names_of_all c rs

abbrev pub HasInfinite : List Pair → Type 0
HasInfinite ps = (c : Shape → Tree) × IsInfinite ps c

abbrev pub NoInfinite : List Pair → Type 0
NoInfinite ps = (c : Shape → Tree) → IsInfinite ps c → ⊥

-- a type that a step has: that of its node, or what one of its equations is about
abbrev pub IsTypeAt : Step → Unknown → Type 0
IsTypeAt s v = ((n : ℕ) × (s.node ≡ Some n) × (v ≡ u.Node n)) ⊎ ((i : ℕ) × (e : Equation) × (slice_get s.equations i ≡ Some e) × (v ≡ e.left))

-- the types that are measured, those of the nodes of these steps: what an equation is about is a node of
-- the steps so far, or a name that is borrowed
abbrev pub IsTypeOf : List Step → Unknown → Type 0
IsTypeOf steps v = (i : ℕ) × (s : Step) × (slice_get steps i ≡ Some s) × IsTypeAt s v

-- none of these types has more than 2,000 nodes
abbrev pub IsSmall : List Step → Assignment → Type 0
IsSmall steps a = (v : Unknown) → IsTypeOf steps v → tree_size (a v) ≤ 2000

-- the steps have a solution in which no type is too large: neither number is among them
abbrev pub Fits : Context → List Step → Type 0
Fits c steps = (a : Assignment) × Satisfies a (pairs c steps) × IsSmall steps a

-- rule 40 where infinite types give no solution either, and 41 otherwise
abbrev pub IsRuleOf : ℕ → List Pair → Type 0
IsRuleOf rule ps = ((rule ≡ 40) × NoInfinite ps) ⊎ ((rule ≡ 41) × HasInfinite ps)

-- step k is the first without a solution, by all its equations; the span is that of its first part
-- whose equation leaves none
pub record IsUnsolved (c : Context) (steps : List Step) (rule : ℕ) (span : Span) : Type 0 where
  pub k : ℕ
  pub step : Step
  pub at : slice_get steps k ≡ Some step
  pub before : Fits c (take k steps)
  pub part : ℕ
  pub equation : Equation
  pub equation_at : slice_get step.equations part ≡ Some equation
  pub still : HasSolution (pairs c (take k steps) ++ take part (step_pairs c step))
  pub fails : NoSolution (pairs c (take k steps) ++ take (part + 1) (step_pairs c step))
  pub rule_is : IsRuleOf rule (pairs c (take k steps) ++ step_pairs c step)
  pub span_is : span ≡ equation.part

-- step k is the first whose most general solution has a type of more than 2,000 nodes among those of the
-- steps so far: every solution does, since the most general one has the least types
pub record IsTooLarge (c : Context) (steps : List Step) (span : Span) : Type 0 where
  pub k : ℕ
  pub step : Step
  pub at : slice_get steps k ≡ Some step
  pub before : Fits c (take k steps)
  pub solvable : HasSolution (pairs c (take k steps) ++ step_pairs c step)
  pub type : Unknown
  pub of_steps : IsTypeOf (take (k + 1) steps) type
  pub large : (a : Assignment) → Satisfies a (pairs c (take k steps) ++ step_pairs c step) → 2000 < tree_size (a type)
  pub span_is : span ≡ step.span

-- items whose types are all small enough, each by its own assignment
abbrev pub AllSmall : List Assignment → List ItemSteps → Type 0
AllSmall [] [] = Unit {0}
AllSmall [] (i ∷ is) = ⊥
AllSmall (a ∷ types) [] = ⊥
AllSmall (a ∷ types) (i ∷ is) = IsSmall i.steps a × AllSmall types is

-- a program with neither number
pub record HasTypes (c : Context) (items : List ItemSteps) (types : List Assignment) : Type 0 where
  pub typed : IsTyped c types items
  pub small : AllSmall types items

-- an item is the first with a number; the items before it have types
pub record FirstFault (c : Context) (items : List ItemSteps) (P : Context → List Step → Type 0) : Type 0 where
  pub before : List ItemSteps
  pub item : ItemSteps
  pub after : List ItemSteps
  pub split : items ≡ before ++ item ∷ after
  pub types : List Assignment
  pub typed : HasTypes c before types
  pub fault : P (behind_all c types before) item.steps

-- int, char, string, bool and unit can be compared
abbrev pub CanCompare : Tree → Type 0
CanCompare t = (d : ℕ) × (d < 5) × (t ≡ Node (ConHead d 0) Nil)

-- the operands of each comparison among these steps can be compared
abbrev pub Compares : List Step → Assignment → Type 0
Compares steps a = (j : ℕ) (s : Step) (v : Unknown) → slice_get steps j ≡ Some s → s.compared ≡ Some v → CanCompare (a v)

abbrev pub AllCompare : List Assignment → List ItemSteps → Type 0
AllCompare [] [] = Unit {0}
AllCompare [] (i ∷ is) = ⊥
AllCompare (a ∷ types) [] = ⊥
AllCompare (a ∷ types) (i ∷ is) = Compares i.steps a × AllCompare types is

-- the first comparison whose operands have another type: of the items in their order the first with one,
-- and of its steps the first
pub record IsBadComparison (items : List ItemSteps) (types : List Assignment) (span : Span) : Type 0 where
  pub i : ℕ
  pub item : ItemSteps
  pub a : Assignment
  pub item_at : slice_get items i ≡ Some item
  pub types_at : slice_get types i ≡ Some a
  pub items_before : AllCompare (take i types) (take i items)
  pub k : ℕ
  pub step : Step
  pub operands : Unknown
  pub at : slice_get item.steps k ≡ Some step
  pub compares : step.compared ≡ Some operands
  pub bad : CanCompare (a operands) → ⊥
  pub steps_before : Compares (take k item.steps) a
  pub span_is : span ≡ step.span
