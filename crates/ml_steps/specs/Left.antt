-- What the evaluator has left to do: the meaning of its frames, of what it does next, and of a step.
use Rattle.std.specs.Borrow.{Bor}
use Rattle.std.specs.Option.{option_map}
use Rattle.std.specs.Prelude.{◌≡◌, ℕ, zero, suc, Bool, true, false, ◌+◌, List, [], ◌∷◌, ◌++◌, map, take, drop, Option, Some, None, Result, IfOk, length, nat_le, if◌then◌else◌}
use Rattle.ml_tree.specs.declared.expr.Expr.{Expr}
use Rattle.ml_tree.specs.declared.expr.ExprKind.{ExprKind, fold-ExprKind}
use Rattle.ml_tree.specs.declared.pattern.ConName.{ConName}
use Rattle.ml_tree.specs.declared.expr.BinOp.{BinOp}
use Rattle.ml_tree.specs.declared.expr.BinOp.TheVariants as binary
use Rattle.ml_meaning.specs.declared.event.Event.{Event}
use Rattle.ml_meaning.specs.declared.event.Event.TheVariants as event
use Rattle.ml_meaning.specs.Values.{Value, Values, Constant, Block, Function, Code, Source, no_values, packed, cell, false_value, true_value, unit_value}
use Rattle.ml_meaning.specs.Functions.{FunctionCode}
use Rattle.ml_meaning.specs.Names.{field_place}
use Rattle.ml_meaning.specs.Patterns as p
use Rattle.ml_meaning.specs.Patterns.{fits, all_fit}
use Rattle.ml_meaning.specs.Runs.{Run, Done, Stop, Ended, Stuck, after, ◌>>=◌}
use Rattle.ml_meaning.specs.Tellings.{Setting, Meaning, Call, Inner, or_stuck, branch, named, made, finish}
use Rattle.ml_meaning.specs.Operations.{operate, operation_arity, operator, negated}
use Rattle.ml_meaning.specs.Evaluation as m
use Rattle.ml_meaning.specs.Evaluation.{ExprMeaning, ArmMeaning, BindMeaning}
use Rattle.ml_meaning.specs.Programs.{expr_meaning, bind_names, own_name, body_run, evaluate, arm_meaning, bind_meaning, calls, arm_step, bind_step, expr_step, field_step}
use Rattle.ml_values.specs.Telling.{mode_of}
use Rattle.ml_tree.specs.declared.expr.Arm.{Arm}
use Rattle.ml_tree.specs.declared.expr.Bind.{Bind}
use Rattle.ml_tree.specs.declared.expr.FieldExpr.{FieldExpr}
use Rattle.ml_tree.specs.declared.reference.Op.{Op}
use Rattle.ml_values.specs.declared.value.Env.{Env}
use Rattle.ml_values.specs.declared.told.Mode.{Mode}
use Rattle.ml_values.specs.declared.told.Mode.TheVariants as mode
use Rattle.ml_steps.specs.declared.frame.Here.{Here}
use Rattle.ml_steps.specs.declared.frame.Parts.{Parts}
use Rattle.ml_steps.specs.declared.frame.Parts.TheVariants as parts
use Rattle.ml_steps.specs.declared.frame.Part.{Part}
use Rattle.ml_steps.specs.declared.frame.Part.TheVariants as part
use Rattle.ml_steps.specs.declared.frame.Finish.{Finish}
use Rattle.ml_steps.specs.declared.frame.Finish.TheVariants as last
use Rattle.ml_steps.specs.declared.frame.Then.{Then}
use Rattle.ml_steps.specs.declared.frame.Then.TheVariants as then
use Rattle.ml_steps.specs.declared.frame.Frame.{Frame}
use Rattle.ml_steps.specs.declared.frame.Next.{Next}
use Rattle.ml_steps.specs.declared.frame.Next.TheVariants as next
use Rattle.ml_steps.specs.declared.frame.Step.{Step}
use Rattle.ml_values.specs.Shown.{value, values_list, names}

-- one run and then, with its value, another
abbrev pub followed : {A B : Type 0} → Run Event A → (A → Run Event B) → Run Event B
followed run rest = run >>= rest

-- how a call begins: it enters, or in tail position takes the place of the call that it ends
abbrev pub entered : Mode → ℕ → List Event
entered mode.Inner weight = event.Enter weight ∷ (event.Open ∷ [])
entered (mode.Last old) weight = event.Tail old weight ∷ (event.Open ∷ [])

-- a truth value
abbrev pub truth_of : Value → Option Bool
truth_of (Constant zero) = Some false
truth_of (Constant (suc zero)) = Some true
truth_of _ = None

-- the parts of a tuple, under parentheses too
abbrev pub several : ExprMeaning Event → Option (List (Meaning Event))
several e = elim (e.form) [ m.Several ms ↦ Some ms | _ ↦ None ]

-- the operation whose bare name an expression is
abbrev pub operation_form : ExprMeaning Event → Option Op
operation_form e = elim (e.form) [ m.Named o ↦ Some o | _ ↦ None ]

module _ (s : Setting Event) where
  -- the value of the run is that of an expression that stands so
  abbrev pub finished : Mode → Run Event Value → Run Event Value
  finished mode run = run >>= finish Event s (mode_of mode)

  -- the calls of this place
  abbrev pub calls_of : Here → Call Event
  calls_of here = calls Event s here.fuel

  abbrev pub evaluated : Expr → Here → Run Event Value
  evaluated e here = evaluate Event s e (calls_of here) (mode_of here.mode) (names here.env)

  -- not in tail position
  abbrev pub inner_run : Expr → Here → Run Event Value
  inner_run e here = evaluate Event s e (calls_of here) Inner (names here.env)

  -- any meaning at this place
  abbrev pub at_place : Meaning Event → Here → Run Event Value
  at_place meaning here = meaning (calls_of here) (mode_of here.mode) (names here.env)

  abbrev pub kind_meaning : ExprKind → ℕ → ExprMeaning Event
  kind_meaning k node = fold-ExprKind (ℕ → ExprMeaning Event) (ArmMeaning Event) (BindMeaning Event) (ExprMeaning Event) (ℕ × Meaning Event) (m.step Event s) (arm_step Event s) (bind_step Event s) (expr_step Event s) (field_step Event s) k node

  -- ---- functions

  abbrev pub closure_run : ℕ → Here → Run Event Value
  closure_run node here = at_place (m.closure Event s node) here

  -- a function with these captures is made
  abbrev pub closing_run : ℕ → List ℕ → Here → Run Event Value
  closing_run node captures here =
      or_stuck (m.captured Event s captures (names here.env)) >>= λ vs.
      after (m.function_made Event s node captures) (finish Event s (mode_of here.mode) (Function (Source node) (packed vs) no_values))

  -- a partial application that holds these arguments
  abbrev pub partial_run : ℕ → Here → Code → Values → Values → Run Event Value
  partial_run node here code captured held = m.partial_made Event s node (mode_of here.mode) (Function code captured held)

  -- a function applied to arguments, the region being closed already
  abbrev pub applied_run : ℕ → Here → List Value → Value → Run Event Value
  applied_run node here args f = m.applied Event s node (calls_of here) (mode_of here.mode) args f

  -- a call on as many arguments as the function takes, and what it gives applied to the rest
  abbrev pub called_run : ℕ → Here → List Value → Code → List Value → List Value → Run Event Value
  called_run node here rest code captured all = m.called Event s (calls_of here) (mode_of here.mode) rest (applied_run node here rest) code captured all

  -- a function applied to arguments, the region being closed before the call in tail position
  abbrev pub apply_run : ℕ → Here → List Value → Value → Run Event Value
  apply_run node here args f = m.apply_value Event s node (calls_of here) (mode_of here.mode) args f

  -- the arms of a match from some place on
  abbrev pub choose_run : List Arm → Here → Value → Run Event Value
  choose_run arms here v = m.choose Event s (map (arm_meaning Event s) arms) (calls_of here) (mode_of here.mode) (names here.env) v

  -- an arm whose pattern fits, with these names, and what comes where its guard is not true
  abbrev pub taken_run : Arm → Here → Env → Run Event Value → Run Event Value
  taken_run arm here env rest =
      m.guarded Event s (arm_meaning Event s arm).guard (calls_of here) (names env)
      ((arm_meaning Event s arm).body (calls_of here) (mode_of here.mode) (names env)) rest

  -- what a function's own name stands for
  abbrev pub own_name_of : ℕ → Option ℕ → Values → p.Env
  own_name_of node own captured = own_name Event s own (Function (Source node) captured no_values)

  -- the names that a function's own name and its captures stand for
  abbrev pub closed_env : ℕ → Option ℕ → List ℕ → List Value → p.Env
  closed_env node own captures held = bind_names Event s captures held (own_name Event s own (Function (Source node) (packed held) no_values))

  -- the body of a function on its arguments
  abbrev pub body_of_call : FunctionCode → ℕ → p.Env → List Value → Run Event Value
  body_of_call f fuel env args = body_run Event s f (calls Event s fuel) env f.body args

  -- a call that an expression in this mode makes
  abbrev pub call_of : ℕ → Mode → Code → List Value → List Value → Run Event Value
  call_of fuel mode code held args = calls Event s fuel (m.entry Event s (mode_of mode) code) code held args

  -- ---- parts

  abbrev pub field_part : FieldExpr → ℕ × Meaning Event
  field_part f = (f.id, evaluate Event s f.expr)

  abbrev pub bind_value : Bind → Meaning Event
  bind_value b = (bind_meaning Event s b).value

  -- what is evaluated for a part
  abbrev pub part_run : Part → Meaning Event
  part_run (part.Evaluate e) = evaluate Event s e.now
  part_run (part.Close node) = m.closure Event s node

  abbrev pub parts_runs : Parts → List (Meaning Event)
  parts_runs (parts.One e) = evaluate Event s e.now ∷ []
  parts_runs (parts.Two a b) = evaluate Event s a.now ∷ (evaluate Event s b.now ∷ [])
  parts_runs (parts.Many es) = map (evaluate Event s) es.now
  parts_runs (parts.Fields fs) = map (λ f. evaluate Event s f.expr) fs.now
  parts_runs (parts.Binds bs) = map bind_value bs.now

  -- a block made of its parts
  abbrev pub built : ℕ → Option ℕ → Here → List Value → Run Event Value
  built node place here vs = m.block Event s node place vs >>= finish Event s (mode_of here.mode)

  abbrev pub operated : ℕ → Op → Here → List Value → Run Event Value
  operated node o here vs = operate Event s (Some node) o (take (operation_arity o) vs) >>= m.operation_result Event s (mode_of here.mode) (drop (operation_arity o) vs)

  -- what an operation gave, where more arguments are left
  abbrev pub over_applied_run : Run Event Value → Run Event Value
  over_applied_run run = run >>= λ v. Stop [] Stuck

  abbrev pub overwritten_run : ℕ → ℕ → Here → List Value → Run Event Value
  overwritten_run node place here vs = after (s.told (event.Over node (length vs + 1))) (finish Event s (mode_of here.mode) (Block place (packed vs)))

  abbrev pub bound_run : List Bind → Expr → Here → List Value → Run Event Value
  bound_run bs body here vs =
      m.matched Event s (all_fit (map (λ b. fits s.names b.pat) bs) vs) (λ xs. evaluate Event s body (calls_of here) (mode_of here.mode) (xs ++ names here.env))

  -- the values of the fields in the order of the declaration, where there is one for each
  abbrev pub arranged_parts : List FieldExpr → List Value → Option (List Value)
  arranged_parts fs vs = m.placed Event s (m.paired Event s (map (λ f. field_place s.names f.id) fs) vs)

  -- a record, its parts in the order of the declaration
  abbrev pub record_run : ℕ → List FieldExpr → Here → List Value → Run Event Value
  record_run node fs here vs = m.arranged Event s (map field_part fs) vs >>= λ us. built node (Some 0) here us

  -- what is done with the values of all parts
  abbrev pub finish_run : Finish → Here → List Value → Run Event Value
  finish_run (last.Build node place) here vs = built node (Some place) here vs
  finish_run (last.Record node fs) here vs = record_run node fs.now here vs
  finish_run (last.Operate node o) here vs = operated node o here vs
  finish_run (last.Apply node f) here vs = inner_run f.now here >>= λ g. apply_run node here vs g
  finish_run (last.Bind bs body) here vs = bound_run bs.now body.now here vs
  finish_run (last.Overwrite node place) here vs = overwritten_run node place here vs

  -- the first parts up to this place, the values behind them being there
  abbrev pub parts_run : Parts → ℕ → List Value → Finish → Here → Run Event Value
  parts_run ps left done last here = m.values Event s (take left (parts_runs ps)) (calls_of here) (names here.env) >>= λ us. finish_run last here (us ++ done)

  -- all parts, and then what is done with them
  abbrev pub all_parts_run : Parts → Finish → Here → Run Event Value
  all_parts_run ps last here = m.values Event s (parts_runs ps) (calls_of here) (names here.env) >>= finish_run last here

  -- ---- the beginning of an expression

  abbrev pub kind_run : ExprKind → ℕ → Here → Run Event Value
  kind_run k node here = at_place (kind_meaning k node).run here

  abbrev pub name_run : ℕ → Here → Run Event Value
  name_run node here = or_stuck (named Event s (s.names node) (names here.env)) >>= finish Event s (mode_of here.mode)

  abbrev pub con_run : ℕ → ConName → Option (Bor Expr) → Here → Run Event Value
  con_run node name arg here = at_place (m.constructed Event s node name (option_map (λ a. expr_meaning Event s a.now) arg)).run here

  abbrev pub application_run : ℕ → Expr → List Expr → Here → Run Event Value
  application_run node f es here = at_place (m.application Event s node (expr_meaning Event s f) (map (evaluate Event s) es)) here

  -- an operation on its arguments, or as a function where there are too few
  abbrev pub operation_or_run : ℕ → Op → Expr → ℕ → Here → List Value → Run Event Value
  operation_or_run node o f args here vs =
      if nat_le (operation_arity o) args then operated node o here vs else (inner_run f here >>= λ g. apply_run node here vs g)

  abbrev pub borrow_run : ℕ → Expr → Here → Run Event Value
  borrow_run node body here =
      or_stuck (named Event s (s.names node) (names here.env)) >>= λ v.
      after (s.told event.Open) (evaluate Event s body (calls_of here) Inner ((node, v) ∷ names here.env) >>= λ r. after (s.told event.Close) (finish Event s (mode_of here.mode) r))

  -- ---- what is left to do with a value

  -- the elements of a list literal before a tail, the last first
  abbrev pub chain_onto : ℕ → List (Meaning Event) → Here → Value → Run Event Value
  chain_onto node [] here tail = Done [] tail
  chain_onto node (e ∷ es) here tail =
      chain_onto node es here tail >>= λ more. e (calls_of here) Inner (names here.env) >>= λ head. Done (made Event s node 3) (cell head more)

  -- the elements up to this place
  abbrev pub chain_run : ℕ → List Expr → ℕ → Value → Here → Run Event Value
  chain_run node items left tail here = chain_onto node (take left (map (evaluate Event s) items)) here tail >>= finish Event s (mode_of here.mode)

  -- the expressions from this place on
  abbrev pub sequence_run : List Expr → ℕ → Here → Run Event Value
  sequence_run items from here = at_place (m.sequence Event s (map (evaluate Event s) (drop from items))) here

  abbrev pub operands_run : ℕ → BinOp → Here → Value → Value → Run Event Value
  operands_run node binary.Append here x y =
      or_stuck (s.top s.append) >>= λ g. apply_run node here (x ∷ (y ∷ [])) g
  operands_run node o here x y = operator Event s node o x y >>= finish Event s (mode_of here.mode)

  abbrev pub or_unit_run : Option Expr → Here → Run Event Value
  or_unit_run None here = finish Event s (mode_of here.mode) unit_value
  or_unit_run (Some e) here = evaluated e here

  -- the body of an arm whose pattern fits, by its guard
  abbrev pub guard_run : Expr → Env → List Arm → Value → Here → Value → Run Event Value
  guard_run body env arms scrutinee here v =
      branch v (evaluate Event s body (calls_of here) (mode_of here.mode) (names env)) (choose_run arms here scrutinee)

  -- one branch or the other by a truth value
  abbrev pub branch_run : Expr → Option (Bor Expr) → Here → Value → Run Event Value
  branch_run first second here v = branch v (evaluated first here) (or_unit_run (option_map (λ e. e.now) second) here)

  -- the right operand of `&&` or `||`, where the left one is `on`
  abbrev pub decided_run : Bool → Expr → Here → Value → Run Event Value
  decided_run true right here v = branch v (evaluated right here) (finish Event s (mode_of here.mode) false_value)
  decided_run false right here v = branch v (finish Event s (mode_of here.mode) true_value) (evaluated right here)

  -- an element of a list literal and its tail become a cell, and the elements before it follow
  abbrev pub link_run : ℕ → List Expr → ℕ → Value → Value → Here → Run Event Value
  link_run node items left head tail here = after (made Event s node 3) (chain_run node items left (cell head tail) here)

  abbrev pub then_run : Then → Here → Value → Run Event Value
  then_run (then.Parts ps left done last) here v = parts_run ps left (v ∷ values_list done) last here
  then_run (then.Chain node items left tail) here v = link_run node items.now left v (value tail) here
  then_run (then.Sequence items from) here v = sequence_run items.now from here
  then_run (then.Left node o one) here v = inner_run one.now here >>= λ x. operands_run node o here x v
  then_run (then.Operator node o other) here v = operands_run node o here v (value other)
  then_run (then.Callee node args) here v = apply_run node here (values_list args) v
  then_run (then.Rest node args) here v = applied_run node here (values_list args) v
  then_run (then.Project place) here v = m.projected Event s place v >>= finish Event s (mode_of here.mode)
  then_run then.Negate here v = negated Event s v >>= finish Event s (mode_of here.mode)
  then_run (then.Branch first second) here v = branch_run first.now second here v
  then_run (then.BoolAnd right) here v = decided_run true right.now here v
  then_run (then.BoolOr right) here v = decided_run false right.now here v
  then_run (then.Choose arms) here v = choose_run arms.now here v
  then_run (then.Guard body env arms from word) here v = guard_run body.now env (drop from arms.now) (value word) here v
  then_run then.Finish here v = finish Event s (mode_of here.mode) v
  then_run (then.Exclave weight) here v = Done (s.told (event.Leave weight)) v
  then_run then.Borrow here v = after (s.told event.Close) (finish Event s (mode_of here.mode) v)

  -- ---- steps

  -- what is done next
  abbrev pub next_run : Next → Run Event Value
  next_run (next.Visit e here) = evaluated e.now here
  next_run (next.Close node here) = closure_run node here
  next_run (next.Choose arms word here) = choose_run arms.now here (value word)
  next_run (next.Give word) = Done [] (value word)
  next_run (next.Stop ending) = Stop [] (Ended ending)

  abbrev pub frame_run : Option Frame → Value → Run Event Value
  frame_run None v = Done [] v
  frame_run (Some frame) v = then_run frame.then frame.here v

  -- what comes of a step
  abbrev pub step_run : Step → Run Event Value
  step_run step = next_run step.next >>= frame_run step.frame

  -- The run, with what was told before it, is what comes of what is done next, or of the step, with what is
  -- told now. Only want of memory says nothing.
  abbrev pub Nexts : {F : Type 0} → List Event → List Event → Result Next F → Run Event Value → Type 0
  Nexts before now result run = IfOk result (λ next. after before run ≡ after now (next_run next))

  abbrev pub Steps : {F : Type 0} → List Event → List Event → Result Step F → Run Event Value → Type 0
  Steps before now result run = IfOk result (λ step. after before run ≡ after now (step_run step))
