-- What each expression means: a run, given how calls run, whether it stands in tail position, and
-- what the local names stand for.
use Rattle.std.specs.Prelude.{ℕ, zero, suc, ◌+◌, List, [], ◌∷◌, ◌++◌, length, map, take, drop, Option, Some, None, nat_eq, nat_le, if◌then◌else◌}
use Rattle.std.specs.List.{range_with_len}
use Rattle.ml_tree.specs.declared.reference.Ref.{Ref}
use Rattle.ml_tree.specs.declared.reference.Ref.TheVariants as ref
use Rattle.ml_tree.specs.declared.reference.Op.{Op}
use Rattle.ml_tree.specs.declared.reference.Op.TheVariants as operation
use Rattle.ml_tree.specs.declared.pattern.ConName.{ConName}
use Rattle.ml_tree.specs.declared.expr.BinOp.{BinOp}
use Rattle.ml_tree.specs.declared.expr.BinOp.TheVariants as op
use Rattle.ml_tree.specs.declared.expr.ExprKind.TheOpen as e
use Rattle.ml_tree.specs.declared.expr.ExprKind.TheOpen.{ExprKind-F, Arm-F, Bind-F, Expr-F, FieldExpr-F}
use Rattle.ml_meaning.specs.declared.event.Event.{Event}
use Rattle.ml_meaning.specs.declared.event.Event.TheVariants as event
use Rattle.ml_meaning.specs.Values.{Value, Number, Character, Bytes, Constant, Block, Function, Code, Source, Primitive, no_values, packed, listed, empty_list, cell, unit_value, true_value, false_value}
use Rattle.ml_meaning.specs.Names.{lookup, constructor_place, field_place}
use Rattle.ml_meaning.specs.Patterns.{Env, Fits, all_fit, found}
use Rattle.ml_meaning.specs.Functions.{FunctionCode, Body, Single, Cases}
use Rattle.ml_meaning.specs.Runs.{Run, Done, Stop, Stuck, after, ◌>>=◌}
use Rattle.ml_meaning.specs.Tellings.{Setting, Mode, Inner, Last, Call, Meaning, NoMatch, or_stuck, branch, fail, made, closes, leaves, finish, named}
use Rattle.ml_meaning.specs.Operations.{operate, operation_arity, operator, negated}
use Rattle.ml_meaning.specs.Arithmetic.{wrapped}

-- What an expression is where more than its value counts: the bare name of an operation, the parts of
-- a tuple that may be the fields of a constructor, the construction of an overwrite.
pub data Form (M : Type 0) : Type 0 where
  Ordinary : Form M
  Named : Op → Form M
  Several : List M → Form M
  Builds : Option ℕ → List M → Form M

pub record ExprMeaning (E : Type 0) : Type 0 where
  pub form : Form (Meaning E)
  pub run : Meaning E

pub record ArmMeaning (E : Type 0) : Type 0 where
  pub fits : Fits
  pub guard : Option (Meaning E)
  pub body : Meaning E

pub record BindMeaning (E : Type 0) : Type 0 where
  pub fits : Fits
  pub value : Meaning E

-- the form of an expression is passed on by parentheses, except for an operation's name
abbrev pub inside : {M : Type 0} → Form M → Form M
inside (Several ms) = Several ms
inside (Builds place ms) = Builds place ms
inside _ = Ordinary

abbrev pub operation_named : {M : Type 0} → Option Ref → Form M
operation_named (Some (ref.Operation o)) = Named o
operation_named _ = Ordinary

module _ (E : Type 0) (s : Setting E) where
  -- ---- lists of parts

  -- the values of all parts; the last part is evaluated first
  abbrev pub values : List (Meaning E) → Call E → Env → Run E (List Value)
  values [] c env = Done [] []
  values (m ∷ ms) c env = values ms c env >>= λ vs. m c Inner env >>= λ v. Done [] (v ∷ vs)

  -- a block of these parts, made after them: one word more than it has parts
  abbrev pub block : ℕ → Option ℕ → List Value → Run E Value
  block node place vs = or_stuck place >>= λ k. Done (made E s node (length vs + 1)) (Block k (packed vs))

  -- a list literal: each cell is made right after its element, the last first
  abbrev pub chain : ℕ → List (Meaning E) → Call E → Env → Run E Value
  chain node [] c env = Done [] empty_list
  chain node (m ∷ ms) c env = chain node ms c env >>= λ tail. m c Inner env >>= λ head. Done (made E s node 3) (cell head tail)

  -- one after the other, each but the last for its events alone
  abbrev pub sequence : List (Meaning E) → Meaning E
  sequence [] c mode env = Stop [] Stuck
  sequence (m ∷ []) c mode env = m c mode env
  sequence (m ∷ (n ∷ ms)) c mode env = m c Inner env >>= λ v. sequence (n ∷ ms) c mode env

  -- ---- names, constructors, records

  -- a constructor's fields: the one argument, or the parts of a tuple for several fields
  abbrev pub fields_of : ℕ → ExprMeaning E → List (Meaning E)
  fields_of (suc zero) a = a.run ∷ []
  fields_of _ a = elim (a.form) [ Several ms ↦ ms | _ ↦ a.run ∷ [] ]

  abbrev pub field_count : Option Ref → ℕ
  field_count (Some (ref.Con decl place)) = s.fields decl place
  field_count _ = 1

  -- the values in the order of the record's declaration
  abbrev pub all_there : List (Option Value) → Option (List Value)
  all_there [] = Some []
  all_there (None ∷ vs) = None
  all_there (Some v ∷ vs) = elim (all_there vs) [ None ↦ None | Some us ↦ Some (v ∷ us) ]

  abbrev pub with_place : ℕ × Meaning E → Value → Option (ℕ × Value)
  with_place f v = elim (field_place s.names f.0) [ None ↦ None | Some k ↦ Some (k, v) ]

  abbrev pub placed : List (ℕ × Value) → Option (List Value)
  placed pairs = all_there (map (λ k. lookup k pairs) (range_with_len 0 (length pairs)))

  abbrev pub paired : List (Option ℕ) → List Value → List (ℕ × Value)
  paired (Some k ∷ ks) (v ∷ vs) = (k, v) ∷ paired ks vs
  paired _ _ = []

  abbrev pub arranged : List (ℕ × Meaning E) → List Value → Run E (List Value)
  arranged fs vs = or_stuck (placed (paired (map (λ f. field_place s.names f.0) fs) vs))

  abbrev pub projected : Option ℕ → Value → Run E Value
  projected place (Block k vs) = or_stuck (found (listed vs) place)
  projected place _ = Stop [] Stuck

  -- ---- functions and calls

  abbrev pub body_arity : Body → ℕ → ℕ
  body_arity (Single body) n = n
  body_arity (Cases arms) n = 1

  abbrev pub code_arity : Option FunctionCode → ℕ
  code_arity None = 0
  code_arity (Some f) = body_arity f.body (length f.params)

  abbrev pub code_weight : Option FunctionCode → ℕ
  code_weight None = 0
  code_weight (Some f) = f.weight

  abbrev pub arity : Code → ℕ
  arity (Source n) = code_arity (s.code n)
  arity (Primitive o) = operation_arity o

  abbrev pub call_weight : Code → ℕ
  call_weight (Source n) = code_weight (s.code n)
  call_weight (Primitive o) = 64

  -- a function without captures is no block
  abbrev pub function_made : ℕ → List ℕ → List E
  function_made node [] = []
  function_made node (n ∷ ns) = made E s node (length (n ∷ ns) + 2)

  abbrev pub captured : List ℕ → Env → Option (List Value)
  captured ns env = all_there (map (λ n. lookup n env) ns)

  abbrev pub closure : ℕ → Meaning E
  closure node c mode env =
      or_stuck (s.code node) >>= λ f. or_stuck (captured f.captures env) >>= λ vs.
      after (function_made node f.captures) (finish E s mode (Function (Source node) (packed vs) no_values))

  -- an application that ends a call takes its place, and each other call enters
  abbrev pub entry : Mode → Code → Event
  entry Inner code = event.Enter (call_weight code)
  entry (Last w) code = event.Tail w (call_weight code)

  -- the last call of an application gives its result; what an earlier one gives is applied on
  abbrev pub called : Call E → Mode → List Value → (Value → Run E Value) → Code → List Value → List Value → Run E Value
  called c mode [] rest code held args = c (entry mode code) code held args
  called c mode (u ∷ us) rest code held args = c (entry Inner code) code held args >>= rest

  -- one more argument: a call where there are as many as parameters, else the function holds it
  abbrev pub given : Call E → Mode → List Value → (Value → Run E Value) → Value → Value → Run E Value
  given c mode vs rest v (Function code held args) =
      if nat_eq (length (listed args) + 1) (arity code)
      then called c mode vs rest code (listed held) (listed args ++ (v ∷ []))
      else rest (Function code held (packed (listed args ++ (v ∷ []))))
  given c mode vs rest v _ = Stop [] Stuck

  -- a partial application that holds a arguments has a + 2 words
  abbrev pub partial_made : ℕ → Mode → Value → Run E Value
  partial_made node mode (Function code held args) = Done (made E s node (length (listed args) + 2) ++ leaves E s mode) (Function code held args)
  partial_made node mode _ = Stop [] Stuck

  -- a function applied to arguments, the region being closed already
  abbrev pub applied : ℕ → Call E → Mode → List Value → Value → Run E Value
  applied node c mode [] f = partial_made node mode f
  applied node c mode (v ∷ vs) f = given c mode vs (applied node c mode vs) v f

  abbrev pub apply_value : ℕ → Call E → Mode → List Value → Value → Run E Value
  apply_value node c mode vs f = after (closes E s mode) (applied node c mode vs f)

  -- what an operation gave is the result, for no operation gives a function
  abbrev pub operation_result : Mode → List Value → Value → Run E Value
  operation_result mode [] v = finish E s mode v
  operation_result mode (u ∷ us) v = Stop [] Stuck

  abbrev pub operation_applied : ℕ → Op → List (Meaning E) → Meaning E
  operation_applied node o es c mode env =
      values es c env >>= λ vs. operate E s (Some node) o (take (operation_arity o) vs) >>= operation_result mode (drop (operation_arity o) vs)

  -- the function of an application comes after its arguments
  abbrev pub function_applied : ℕ → Meaning E → List (Meaning E) → Meaning E
  function_applied node f es c mode env = values es c env >>= λ vs. f c Inner env >>= λ g. apply_value node c mode vs g

  -- an operation's name on at least as many arguments as it has is the operation, and no call
  abbrev pub application : ℕ → ExprMeaning E → List (Meaning E) → Meaning E
  application node f es = elim (f.form) [
    | Named o ↦ (if nat_le (operation_arity o) (length es) then operation_applied node o es else function_applied node f.run es)
    | _ ↦ function_applied node f.run es
  ]

  -- ---- matching

  abbrev pub matched : Option Env → (Env → Run E Value) → Run E Value
  matched None k = fail E s NoMatch
  matched (Some xs) k = k xs

  abbrev pub guarded : Option (Meaning E) → Call E → Env → Run E Value → Run E Value → Run E Value
  guarded None c env body rest = body
  guarded (Some g) c env body rest = g c Inner env >>= λ t. branch t body rest

  abbrev pub taken : ArmMeaning E → Call E → Mode → Env → Run E Value → Option Env → Run E Value
  taken a c mode env rest None = rest
  taken a c mode env rest (Some xs) = guarded a.guard c (xs ++ env) (a.body c mode (xs ++ env)) rest

  -- the first arm whose pattern fits and whose guard is true
  abbrev pub choose : List (ArmMeaning E) → Call E → Mode → Env → Value → Run E Value
  choose [] c mode env v = fail E s NoMatch
  choose (a ∷ arms) c mode env v = taken a c mode env (choose arms c mode env v) (a.fits v)

  -- ---- expressions

  abbrev pub plain : Meaning E → ExprMeaning E
  plain m = record { form = Ordinary; run = m }

  abbrev pub constant : Mode → Option ℕ → Run E Value
  constant mode place = or_stuck place >>= λ k. finish E s mode (Constant k)

  abbrev pub building : ℕ → Option ℕ → List (Meaning E) → ExprMeaning E
  building node place ms = record {
    form = Builds place ms;
    run = λ c mode env. values ms c env >>= λ vs. block node place vs >>= finish E s mode;
  }

  abbrev pub constructed : ℕ → ConName → Option (ExprMeaning E) → ExprMeaning E
  constructed node name None = plain (λ c mode env. constant mode (constructor_place s.names name node))
  constructed node name (Some a) = building node (constructor_place s.names name node) (fields_of (field_count (s.names node)) a)

  abbrev pub both_operands : ℕ → BinOp → Meaning E → Meaning E → Meaning E
  both_operands node o a b c mode env =
      b c Inner env >>= λ y. a c Inner env >>= λ x. operator E s node o x y >>= finish E s mode

  abbrev pub binary : ℕ → BinOp → Meaning E → Meaning E → Meaning E
  binary node op.BoolAnd a b c mode env = a c Inner env >>= λ t. branch t (b c mode env) (finish E s mode false_value)
  binary node op.BoolOr a b c mode env = a c Inner env >>= λ t. branch t (finish E s mode true_value) (b c mode env)
  binary node op.Append a b c mode env =
      b c Inner env >>= λ y. a c Inner env >>= λ x. or_stuck (s.top s.append) >>= λ g. apply_value node c mode (x ∷ (y ∷ [])) g
  binary node o a b c mode env = both_operands node o a b c mode env

  abbrev pub or_unit : Option (ExprMeaning E) → Meaning E
  or_unit None c mode env = finish E s mode unit_value
  or_unit (Some a) c mode env = a.run c mode env

  -- the region is closed before the operand, which is then in tail position no more
  abbrev pub exclave : Meaning E → Meaning E
  exclave a c Inner env = a c Inner env
  exclave a c (Last w) env = after (s.told event.Close) (a c Inner env >>= λ v. Done (s.told (event.Leave w)) v)

  abbrev pub overwritten : ℕ → Form (Meaning E) → Meaning E
  overwritten node (Builds place ms) c mode env =
      values ms c env >>= λ vs. or_stuck place >>= λ k.
      after (s.told (event.Over node (length vs + 1))) (finish E s mode (Block k (packed vs)))
  overwritten node _ c mode env = Stop [] Stuck

  abbrev pub step : ExprKind-F (ℕ → ExprMeaning E) (ArmMeaning E) (BindMeaning E) (ExprMeaning E) (ℕ × Meaning E) → ℕ → ExprMeaning E
  step (e.Int z) node = plain (λ c mode env. finish E s mode (Number (wrapped z)))
  step (e.Char byte) node = plain (λ c mode env. finish E s mode (Character byte))
  step (e.Text lit) node = plain (λ c mode env. finish E s mode (Bytes lit.bytes))
  step (e.Name name) node = record {
    form = operation_named (s.names node);
    run = λ c mode env. or_stuck (named E s (s.names node) env) >>= finish E s mode;
  }
  step (e.Path name part) node = record {
    form = operation_named (s.names node);
    run = λ c mode env. or_stuck (named E s (s.names node) env) >>= finish E s mode;
  }
  step (e.Con name arg) node = constructed node name arg
  step (e.Cons a b) node = building node (Some 1) (a.run ∷ (b.run ∷ []))
  step (e.Tuple es) node = record {
    form = Several (map (λ a. a.run) es);
    run = (building node (Some 0) (map (λ a. a.run) es)).run;
  }
  step (e.List es) node = plain (λ c mode env. chain node (map (λ a. a.run) es) c env >>= finish E s mode)
  step (e.Fields fs) node = plain (λ c mode env.
      values (map (λ f. f.1) fs) c env >>= λ vs. arranged fs vs >>= λ us. block node (Some 0) us >>= finish E s mode)
  step (e.Field a name) node = plain (λ c mode env. a.run c Inner env >>= λ v. projected (field_place s.names node) v >>= finish E s mode)
  step (e.Index a b) node = plain (λ c mode env. values (a.run ∷ (b.run ∷ [])) c env >>= λ vs. operate E s (Some node) operation.StringGet vs >>= finish E s mode)
  step (e.Apply f es) node = plain (application node f (map (λ a. a.run) es))
  step (e.Binary o a b) node = plain (binary node o a.run b.run)
  step (e.Minus a) node = plain (λ c mode env. a.run c Inner env >>= λ v. negated E s v >>= finish E s mode)
  step (e.If a b other) node = plain (λ c mode env. a.run c Inner env >>= λ t. branch t (b.run c mode env) (or_unit other c mode env))
  step (e.Let recursive binds body) node = plain (λ c mode env.
      values (map (λ b. b.value) binds) c env >>= λ vs.
      matched (all_fit (map (λ b. b.fits) binds) vs) (λ xs. body.run c mode (xs ++ env)))
  step (e.Seq es) node = plain (sequence (map (λ a. a.run) es))
  step (e.Match a arms) node = plain (λ c mode env. a.run c Inner env >>= choose arms c mode env)
  step (e.Fun params body) node = plain (closure node)
  step (e.Function arms) node = plain (closure node)
  step (e.Paren a) node = record { form = inside a.form; run = a.run }
  step (e.Typed a ty) node = plain a.run
  step (e.Worded words a) node = plain (λ c mode env. a.run c Inner env >>= finish E s mode)
  step (e.Exclave a) node = plain (exclave a.run)
  step (e.Borrow name of body) node = plain (λ c mode env.
      or_stuck (named E s (s.names node) env) >>= λ v.
      after (s.told event.Open) (body.run c Inner ((node, v) ∷ env) >>= λ r. after (s.told event.Close) (finish E s mode r)))
  step (e.Overwrite name a) node = plain (overwritten node a.form)
