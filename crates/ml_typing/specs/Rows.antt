-- The equations of each node, and the steps of patterns.
use Rattle.std.specs.Prelude.{ℕ, List, [], ◌∷◌, ◌++◌, map, Option, Some, None}
use Rattle.oxml_base.specs.declared.span.Span.{Span}
use Rattle.ml_tree.specs.declared.reference.Ref.{Ref}
use Rattle.ml_tree.specs.declared.reference.Ref.TheVariants as r
use Rattle.ml_tree.specs.declared.pattern.ConName.{ConName}
use Rattle.ml_tree.specs.declared.pattern.ConName.TheVariants.{Named, True, False, Unit, Nil}
use Rattle.ml_tree.specs.declared.pattern.Pat.{Pat, fold-Pat}
use Rattle.ml_tree.specs.declared.pattern.PatKind.{PatKind, fold-PatKind}
use Rattle.ml_tree.specs.declared.pattern.FieldPat.{FieldPat, fold-FieldPat}
use Rattle.ml_tree.specs.declared.pattern.PatKind.TheOpen as p
use Rattle.ml_tree.specs.declared.pattern.PatKind.TheOpen.{PatKind-F, FieldPat-F, Pat-F}
use Rattle.ml_typing.specs.declared.equation.Unknown.{Unknown}
use Rattle.ml_typing.specs.declared.equation.Unknown.TheVariants.{Node, Binder, Fresh}
use Rattle.ml_typing.specs.declared.equation.Term.{Term}
use Rattle.ml_typing.specs.declared.equation.Term.TheVariants as t
use Rattle.ml_typing.specs.declared.equation.Equation.{Equation}
use Rattle.ml_typing.specs.declared.equation.Step.{Step}
use Rattle.ml_typing.specs.Written.{Names, written}

-- a node with the steps of its parts and the equations of its own row
pub record Part : Type 0 where
  pub id : ℕ
  pub span : Span
  pub before : List Step
  pub own : List Equation
  pub compared : Option Unknown

abbrev pub equation : Span → Unknown → Term → Equation
equation part left right = record { part = part; left = left; right = right }

-- a node's type, and that of a part of it
abbrev pub node_is : Part → Term → Equation
node_is q right = equation q.span (Node q.id) right

-- the steps of a node, with further equations at the end of its own
abbrev pub steps_and : Part → List Equation → List Step
steps_and q more = q.before ++ record { span = q.span; node = Some q.id; equations = q.own ++ more; compared = q.compared } ∷ []

abbrev pub steps_of : Part → List Step
steps_of q = steps_and q []

abbrev pub all_steps : List Part → List Step
all_steps [] = []
all_steps (q ∷ qs) = steps_of q ++ all_steps qs

abbrev pub steps_of_any : Option Part → List Step
steps_of_any None = []
steps_of_any (Some q) = steps_of q

abbrev pub type_of : Part → Term
type_of q = t.Of (Node q.id)

abbrev pub at : ℕ → ℕ → Term
at n k = t.Of (Fresh n k)

abbrev pub int : Term
int = t.Con 0 []

abbrev pub char : Term
char = t.Con 1 []

abbrev pub string : Term
string = t.Con 2 []

abbrev pub bool : Term
bool = t.Con 3 []

abbrev pub unit : Term
unit = t.Con 4 []

abbrev pub list_of : Term → Term
list_of element = t.Con 5 (element ∷ [])

-- each of the parts has this type
abbrev pub each_is : Term → List Part → List Equation
each_is right qs = map (λ (q : Part). node_is q right) qs

-- what a node names by its reference; of a name without one nothing is known
abbrev pub name_term : ℕ → Option Ref → Term
name_term n None = t.Tuple []
name_term n (Some (r.Top b)) = t.Top b n
name_term n (Some (r.Local b)) = t.Of (Binder b)
name_term n (Some (r.Operation op)) = t.Operation op n
name_term n (Some (r.Con d c)) = t.Tuple []
name_term n (Some (r.Field d f)) = t.Tuple []
name_term n (Some (r.Decl d)) = t.Tuple []

-- a constructor's declaration, and its argument
abbrev pub named_con : ℕ → Option Ref → Term
named_con n None = t.Tuple []
named_con n (Some (r.Con d c)) = t.Made d n
named_con n (Some (r.Top b)) = t.Tuple []
named_con n (Some (r.Local b)) = t.Tuple []
named_con n (Some (r.Operation op)) = t.Tuple []
named_con n (Some (r.Field d f)) = t.Tuple []
named_con n (Some (r.Decl d)) = t.Tuple []

abbrev pub named_argument : ℕ → Option Ref → Term
named_argument n None = t.Tuple []
named_argument n (Some (r.Con d c)) = t.Argument d c n
named_argument n (Some (r.Top b)) = t.Tuple []
named_argument n (Some (r.Local b)) = t.Tuple []
named_argument n (Some (r.Operation op)) = t.Tuple []
named_argument n (Some (r.Field d f)) = t.Tuple []
named_argument n (Some (r.Decl d)) = t.Tuple []

abbrev pub con_term : Names → ℕ → ConName → Term
con_term names n (Named span) = named_con n (names.target n)
con_term names n True = bool
con_term names n False = bool
con_term names n Unit = unit
con_term names n Nil = list_of (at n 0)

abbrev pub argument_is : Names → ℕ → Option Part → List Equation
argument_is names n None = []
argument_is names n (Some q) = node_is q (named_argument n (names.target n)) ∷ []

-- a record's declaration, and a field of it
abbrev pub declared_record : ℕ → Option Ref → Term
declared_record n None = t.Tuple []
declared_record n (Some (r.Decl d)) = t.Made d n
declared_record n (Some (r.Field d f)) = t.Made d n
declared_record n (Some (r.Top b)) = t.Tuple []
declared_record n (Some (r.Local b)) = t.Tuple []
declared_record n (Some (r.Operation op)) = t.Tuple []
declared_record n (Some (r.Con d c)) = t.Tuple []

abbrev pub declared_field : ℕ → Option Ref → Term
declared_field n None = t.Tuple []
declared_field n (Some (r.Field d f)) = t.Field d f n
declared_field n (Some (r.Top b)) = t.Tuple []
declared_field n (Some (r.Local b)) = t.Tuple []
declared_field n (Some (r.Operation op)) = t.Tuple []
declared_field n (Some (r.Con d c)) = t.Tuple []
declared_field n (Some (r.Decl d)) = t.Tuple []

-- a field of a record, a node whose type is that of its expression or pattern
pub record FieldPart : Type 0 where
  pub field : ℕ
  pub part : Part
  pub inner : Part

abbrev pub field_part : ℕ → Span → Part → FieldPart
field_part id name q = record { field = id; inner = q; part = record { id = id; span = record { start = name.start; «end» = q.span.«end» }; before = steps_of q; own = equation q.span (Node id) (type_of q) ∷ []; compared = None } }

abbrev pub field_parts : List FieldPart → List Part
field_parts fs = map (λ (f : FieldPart). f.part) fs

abbrev pub fields_are : Names → ℕ → List FieldPart → List Equation
fields_are names n fs = map (λ (f : FieldPart). node_is f.inner (declared_field n (names.target f.field))) fs

-- what a kind gives its node: the steps of the parts, and the node's own equations by its number and
-- span
pub record Row : Type 0 where
  pub before : ℕ → List Step
  pub own : ℕ → Span → List Equation
  pub compared : ℕ → Option Unknown

abbrev pub row : List Step → (ℕ → Span → List Equation) → Row
row before own = record { before = λ n. before; own = own; compared = λ n. None }

abbrev pub part_of : ℕ → Span → Row → Part
part_of id span b = record { id = id; span = span; before = b.before id; own = b.own id span; compared = b.compared id }

-- the node's own type comes first; it is new there, so that it is never what fails
abbrev pub pattern_row : Names → PatKind-F Row FieldPart Part → Row
pattern_row names p.Any = row [] (λ n s. [])
pattern_row names (p.Name words span) = row [] (λ n s. equation s (Node n) (t.Of (Binder n)) ∷ [])
pattern_row names (p.Int value) = row [] (λ n s. equation s (Node n) int ∷ [])
pattern_row names (p.Char value) = row [] (λ n s. equation s (Node n) char ∷ [])
pattern_row names (p.Text value) = row [] (λ n s. equation s (Node n) string ∷ [])
pattern_row names (p.Con name arg) = row (steps_of_any arg) (λ n s. equation s (Node n) (con_term names n name) ∷ argument_is names n arg)
pattern_row names (p.Cons q u) = row (steps_of q ++ steps_of u) (λ n s. equation s (Node n) (list_of (at n 0)) ∷ node_is q (at n 0) ∷ node_is u (list_of (at n 0)) ∷ [])
pattern_row names (p.Tuple qs) = row (all_steps qs) (λ n s. equation s (Node n) (t.Tuple (map type_of qs)) ∷ [])
pattern_row names (p.List qs) = row (all_steps qs) (λ n s. equation s (Node n) (list_of (at n 0)) ∷ each_is (at n 0) qs)
pattern_row names (p.Fields fs rest) = row (all_steps (field_parts fs)) (λ n s. equation s (Node n) (declared_record n (names.target n)) ∷ fields_are names n fs)
pattern_row names (p.Or q u) = row (steps_of q ++ steps_of u) (λ n s. node_is q (t.Of (Node n)) ∷ node_is u (t.Of (Node n)) ∷ [])
pattern_row names (p.Named q name) = row (steps_of q) (λ n s. equation s (Node n) (t.Of (Binder n)) ∷ node_is q (t.Of (Node n)) ∷ [])
pattern_row names (p.Typed q ty) = row (steps_of q) (λ n s. equation s (Node n) (written names ty) ∷ node_is q (t.Of (Node n)) ∷ [])
pattern_row names (p.Paren q) = row (steps_of q) (λ n s. node_is q (t.Of (Node n)) ∷ [])

abbrev pub pattern_field : FieldPat-F Row FieldPart Part → FieldPart
pattern_field f = field_part f.id f.name f.pat

abbrev pub pattern_whole : Pat-F Row FieldPart Part → Part
pattern_whole q = part_of q.id q.span q.kind

abbrev pub pattern : Names → Pat → Part
pattern names q = fold-Pat Row FieldPart Part (pattern_row names) pattern_field pattern_whole q

abbrev pub pattern_kind : Names → PatKind → Row
pattern_kind names k = fold-PatKind Row FieldPart Part (pattern_row names) pattern_field pattern_whole k

abbrev pub field_pattern : Names → FieldPat → FieldPart
field_pattern names f = fold-FieldPat Row FieldPart Part (pattern_row names) pattern_field pattern_whole f

-- the top pattern of an arm has, behind its own row, the type of the scrutinee
abbrev pub scrutinee_is : Part → Option Unknown → List Equation
scrutinee_is q None = []
scrutinee_is q (Some u) = node_is q (t.Of u) ∷ []
