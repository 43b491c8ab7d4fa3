-- A meaning is steady where calls that go on with more fuel make it go on. Every part of an
-- evaluation keeps that.
use Rattle.std.proofs.Common.{◌≡◌, ℕ, zero, suc, ◌+◌, Bool, true, false, List, [], ◌∷◌, ◌++◌, length, Option, Some, None, refl, subst, if◌then◌else◌, nat_eq, nat_le}
use Rattle.ml_tree.specs.declared.reference.Op.{Op}
use Rattle.ml_tree.specs.declared.expr.BinOp.{BinOp}
use Rattle.ml_tree.specs.declared.expr.BinOp.TheVariants as op
use Rattle.ml_meaning.specs.declared.event.Event.{Event}
use Rattle.ml_meaning.specs.declared.event.Event.TheVariants as event
use Rattle.ml_meaning.specs.Values.{Value, Number, Character, Bytes, Constant, Block, Function, Code, packed, listed, true_value, false_value}
use Rattle.ml_meaning.specs.Patterns.{Env}
use Rattle.ml_meaning.specs.Runs.{Run, after, ◌>>=◌}
use Rattle.ml_meaning.specs.Growth.{GoesOn}
use Rattle.ml_meaning.specs.Tellings.{Setting, Mode, Inner, Last, Call, Meaning, or_stuck, branch, closes, finish}
use Rattle.ml_meaning.specs.Operations.{operation_arity}
use Rattle.ml_meaning.specs.Evaluation.{Form, Ordinary, Named, Several, Builds, ExprMeaning, ArmMeaning, values, chain, sequence, fields_of, called, given, applied, apply_value, arity, entry, operation_applied, function_applied, application, matched, guarded, taken, choose, building, binary, both_operands, exclave, overwritten, closure, partial_made}
use Rattle.ml_meaning.proofs.Rising.{goes_same, goes_after, goes_bind}

abbrev pub CallGoes : (E : Type 0) → Call E → Call E → Type 0
CallGoes E c d = (first : Event) (code : Code) (held args : List Value) → GoesOn (c first code held args) (d first code held args)

pub record Goes (E : Type 0) (m : Meaning E) : Type 0 where
  pub by : (c d : Call E) → CallGoes E c d → (mode : Mode) (env : Env) → GoesOn (m c mode env) (m d mode env)

abbrev pub AllGo : (E : Type 0) → List (Meaning E) → Type 0
AllGo E [] = Unit {0}
AllGo E (m ∷ ms) = Goes E m × AllGo E ms

abbrev pub OptionGoes : (E : Type 0) → Option (Meaning E) → Type 0
OptionGoes E None = Unit {0}
OptionGoes E (Some m) = Goes E m

abbrev pub FormGoes : (E : Type 0) → Form (Meaning E) → Type 0
FormGoes E Ordinary = Unit {0}
FormGoes E (Named o) = Unit {0}
FormGoes E (Several ms) = AllGo E ms
FormGoes E (Builds place ms) = AllGo E ms

pub record ExprGoes (E : Type 0) (m : ExprMeaning E) : Type 0 where
  pub form : FormGoes E m.form
  pub run : Goes E m.run

pub record ArmGoes (E : Type 0) (m : ArmMeaning E) : Type 0 where
  pub guard : OptionGoes E m.guard
  pub body : Goes E m.body

abbrev pub AllArmsGo : (E : Type 0) → List (ArmMeaning E) → Type 0
AllArmsGo E [] = Unit {0}
AllArmsGo E (a ∷ arms) = ArmGoes E a × AllArmsGo E arms

pub goes_if : {E A : Type 0} (b : Bool) (r q p o : Run E A) → GoesOn r q → GoesOn p o → GoesOn (if b then r else p) (if b then q else o)
goes_if true r q p o g h = g
goes_if false r q p o g h = h

pub goes_branch : {E A : Type 0} (v : Value) (r q p o : Run E A) → GoesOn r q → GoesOn p o → GoesOn (branch v r p) (branch v q o)
goes_branch (Constant zero) r q p o g h = h
goes_branch (Constant (suc zero)) r q p o g h = g
goes_branch (Constant (suc (suc n))) r q p o g h = refl
goes_branch (Number z) r q p o g h = refl
goes_branch (Character b) r q p o g h = refl
goes_branch (Bytes b) r q p o g h = refl
goes_branch (Block k vs) r q p o g h = refl
goes_branch (Function code held args) r q p o g h = refl

module _ (E : Type 0) (s : Setting E) where
  pub goes_values : (ms : List (Meaning E)) → AllGo E ms → (c d : Call E) → CallGoes E c d → (env : Env) → GoesOn (values E s ms c env) (values E s ms d env)
  goes_values [] all c d h env = refl
  goes_values (m ∷ ms) all c d h env =
      goes_bind (values E s ms c env) (values E s ms d env) _ _ (goes_values ms all.1 c d h env)
      (λ vs. goes_bind (m c Inner env) (m d Inner env) _ _ (all.0.by c d h Inner env) (λ v. refl))

  pub goes_chain : (node : ℕ) (ms : List (Meaning E)) → AllGo E ms → (c d : Call E) → CallGoes E c d → (env : Env) → GoesOn (chain E s node ms c env) (chain E s node ms d env)
  goes_chain node [] all c d h env = refl
  goes_chain node (m ∷ ms) all c d h env =
      goes_bind (chain E s node ms c env) (chain E s node ms d env) _ _ (goes_chain node ms all.1 c d h env)
      (λ vs. goes_bind (m c Inner env) (m d Inner env) _ _ (all.0.by c d h Inner env) (λ v. refl))

  pub goes_sequence : (ms : List (Meaning E)) → AllGo E ms → Goes E (sequence E s ms)
  goes_sequence [] all = record { by = λ c d h mode env. refl }
  goes_sequence (m ∷ []) all = record { by = λ c d h mode env. all.0.by c d h mode env }
  goes_sequence (m ∷ (n ∷ ms)) all = record {
    by = λ c d h mode env.
        goes_bind (m c Inner env) (m d Inner env) _ _ (all.0.by c d h Inner env)
        (λ v. (goes_sequence (n ∷ ms) all.1).by c d h mode env);
  }

  pub goes_called : (c d : Call E) → CallGoes E c d → (mode : Mode) (vs : List Value) (r q : Value → Run E Value) → ((v : Value) → GoesOn (r v) (q v)) → (code : Code) (held args : List Value) → GoesOn (called E s c mode vs r code held args) (called E s d mode vs q code held args)
  goes_called c d h mode [] r q g code held args = h (entry E s mode code) code held args
  goes_called c d h mode (u ∷ us) r q g code held args =
      goes_bind (c (entry E s Inner code) code held args) (d (entry E s Inner code) code held args) r q (h (entry E s Inner code) code held args) g

  pub goes_given : (c d : Call E) → CallGoes E c d → (mode : Mode) (vs : List Value) (r q : Value → Run E Value) → ((v : Value) → GoesOn (r v) (q v)) → (v f : Value) → GoesOn (given E s c mode vs r v f) (given E s d mode vs q v f)
  goes_given c d h mode vs r q g v (Function code held args) =
      goes_if (nat_eq (length (listed args) + 1) (arity E s code)) _ _ _ _
      (goes_called c d h mode vs r q g code (listed held) (listed args ++ (v ∷ [])))
      (g (Function code held (packed (listed args ++ (v ∷ [])))))
  goes_given c d h mode vs r q g v (Number z) = refl
  goes_given c d h mode vs r q g v (Character b) = refl
  goes_given c d h mode vs r q g v (Bytes b) = refl
  goes_given c d h mode vs r q g v (Constant k) = refl
  goes_given c d h mode vs r q g v (Block k parts) = refl

  pub goes_applied : (node : ℕ) (c d : Call E) → CallGoes E c d → (mode : Mode) (vs : List Value) (f : Value) → GoesOn (applied E s node c mode vs f) (applied E s node d mode vs f)
  goes_applied node c d h mode [] f = goes_same (partial_made E s node mode f)
  goes_applied node c d h mode (v ∷ vs) f =
      goes_given c d h mode vs (applied E s node c mode vs) (applied E s node d mode vs) (goes_applied node c d h mode vs) v f

  pub goes_apply_value : (node : ℕ) (c d : Call E) → CallGoes E c d → (mode : Mode) (vs : List Value) (f : Value) → GoesOn (apply_value E s node c mode vs f) (apply_value E s node d mode vs f)
  goes_apply_value node c d h mode vs f =
      goes_after (closes E s mode) (applied E s node c mode vs f) (applied E s node d mode vs f) (goes_applied node c d h mode vs f)

  pub goes_operation : (node : ℕ) (o : Op) (es : List (Meaning E)) → AllGo E es → Goes E (operation_applied E s node o es)
  goes_operation node o es all = record {
    by = λ c d h mode env.
        goes_bind (values E s es c env) (values E s es d env) _ _ (goes_values es all c d h env) (λ vs. goes_same _);
  }

  pub goes_function : (node : ℕ) (f : Meaning E) (es : List (Meaning E)) → Goes E f → AllGo E es → Goes E (function_applied E s node f es)
  goes_function node f es g all = record {
    by = λ c d h mode env.
        goes_bind (values E s es c env) (values E s es d env) _ _ (goes_values es all c d h env)
        (λ vs. goes_bind (f c Inner env) (f d Inner env) _ _ (g.by c d h Inner env) (λ v. goes_apply_value node c d h mode vs v));
  }

  pub goes_either : (b : Bool) (m n : Meaning E) → Goes E m → Goes E n → Goes E (if b then m else n)
  goes_either true m n g h = g
  goes_either false m n g h = h

  pub goes_application : (node : ℕ) (form : Form (Meaning E)) (f : Meaning E) (es : List (Meaning E)) → Goes E f → AllGo E es → Goes E (application E s node (record { form = form; run = f }) es)
  goes_application node Ordinary f es g all = goes_function node f es g all
  goes_application node (Named o) f es g all =
      goes_either (nat_le (operation_arity o) (length es)) _ _ (goes_operation node o es all) (goes_function node f es g all)
  goes_application node (Several ms) f es g all = goes_function node f es g all
  goes_application node (Builds place ms) f es g all = goes_function node f es g all

  pub goes_matched : (o : Option Env) (k l : Env → Run E Value) → ((xs : Env) → GoesOn (k xs) (l xs)) → GoesOn (matched E s o k) (matched E s o l)
  goes_matched None k l g = refl
  goes_matched (Some xs) k l g = g xs

  pub goes_guarded : (o : Option (Meaning E)) → OptionGoes E o → (c d : Call E) → CallGoes E c d → (env : Env) (r q p w : Run E Value) → GoesOn r q → GoesOn p w → GoesOn (guarded E s o c env r p) (guarded E s o d env q w)
  goes_guarded None g c d h env r q p w body rest = body
  goes_guarded (Some m) g c d h env r q p w body rest =
      goes_bind (m c Inner env) (m d Inner env) _ _ (g.by c d h Inner env) (λ t. goes_branch t r q p w body rest)

  pub goes_taken : (a : ArmMeaning E) → ArmGoes E a → (c d : Call E) → CallGoes E c d → (mode : Mode) (env : Env) (r q : Run E Value) → GoesOn r q → (o : Option Env) → GoesOn (taken E s a c mode env r o) (taken E s a d mode env q o)
  goes_taken a g c d h mode env r q rest None = rest
  goes_taken a g c d h mode env r q rest (Some xs) =
      goes_guarded a.guard g.guard c d h (xs ++ env) _ _ _ _ (g.body.by c d h mode (xs ++ env)) rest

  pub goes_choose : (arms : List (ArmMeaning E)) → AllArmsGo E arms → (c d : Call E) → CallGoes E c d → (mode : Mode) (env : Env) (v : Value) → GoesOn (choose E s arms c mode env v) (choose E s arms d mode env v)
  goes_choose [] g c d h mode env v = refl
  goes_choose (a ∷ arms) g c d h mode env v =
      goes_taken a g.0 c d h mode env _ _ (goes_choose arms g.1 c d h mode env v) (a.fits v)

  pub goes_building : (node : ℕ) (place : Option ℕ) (ms : List (Meaning E)) → AllGo E ms → ExprGoes E (building E s node place ms)
  goes_building node place ms all = record {
    form = all;
    run = record {
      by = λ c d h mode env.
          goes_bind (values E s ms c env) (values E s ms d env) _ _ (goes_values ms all c d h env) (λ vs. goes_same _);
    };
  }

  pub goes_fields : (n : ℕ) (form : Form (Meaning E)) (m : Meaning E) → FormGoes E form → Goes E m → AllGo E (fields_of E s n (record { form = form; run = m }))
  goes_fields (suc zero) form m f g = (g, tt)
  goes_fields zero Ordinary m f g = (g, tt)
  goes_fields zero (Named o) m f g = (g, tt)
  goes_fields zero (Several ms) m f g = f
  goes_fields zero (Builds place ms) m f g = (g, tt)
  goes_fields (suc (suc n)) Ordinary m f g = (g, tt)
  goes_fields (suc (suc n)) (Named o) m f g = (g, tt)
  goes_fields (suc (suc n)) (Several ms) m f g = f
  goes_fields (suc (suc n)) (Builds place ms) m f g = (g, tt)

  pub goes_operands : (node : ℕ) (o : BinOp) (a b : Meaning E) → Goes E a → Goes E b → Goes E (both_operands E s node o a b)
  goes_operands node o a b g k = record {
    by = λ c d h mode env.
        goes_bind (b c Inner env) (b d Inner env) _ _ (k.by c d h Inner env)
        (λ y. goes_bind (a c Inner env) (a d Inner env) _ _ (g.by c d h Inner env) (λ x. goes_same _));
  }

  pub goes_binary : (node : ℕ) (o : BinOp) (a b : Meaning E) → Goes E a → Goes E b → Goes E (binary E s node o a b)
  goes_binary node op.BoolAnd a b g k = record {
    by = λ c d h mode env.
        goes_bind (a c Inner env) (a d Inner env) _ _ (g.by c d h Inner env)
        (λ t. goes_branch t (b c mode env) (b d mode env) _ _ (k.by c d h mode env) (goes_same (finish E s mode false_value)));
  }
  goes_binary node op.BoolOr a b g k = record {
    by = λ c d h mode env.
        goes_bind (a c Inner env) (a d Inner env) _ _ (g.by c d h Inner env)
        (λ t. goes_branch t _ _ (b c mode env) (b d mode env) (goes_same (finish E s mode true_value)) (k.by c d h mode env));
  }
  goes_binary node op.Append a b g k = record {
    by = λ c d h mode env.
        goes_bind (b c Inner env) (b d Inner env) _ _ (k.by c d h Inner env)
        (λ y. goes_bind (a c Inner env) (a d Inner env) _ _ (g.by c d h Inner env)
        (λ x. goes_bind (or_stuck (s.top s.append)) (or_stuck (s.top s.append)) _ _ (goes_same (or_stuck (s.top s.append)))
        (λ f. goes_apply_value node c d h mode (x ∷ (y ∷ [])) f)));
  }
  goes_binary node op.Add a b g k = goes_operands node op.Add a b g k
  goes_binary node op.Sub a b g k = goes_operands node op.Sub a b g k
  goes_binary node op.Mul a b g k = goes_operands node op.Mul a b g k
  goes_binary node op.Div a b g k = goes_operands node op.Div a b g k
  goes_binary node op.Mod a b g k = goes_operands node op.Mod a b g k
  goes_binary node op.And a b g k = goes_operands node op.And a b g k
  goes_binary node op.Or a b g k = goes_operands node op.Or a b g k
  goes_binary node op.Xor a b g k = goes_operands node op.Xor a b g k
  goes_binary node op.Lsl a b g k = goes_operands node op.Lsl a b g k
  goes_binary node op.Lsr a b g k = goes_operands node op.Lsr a b g k
  goes_binary node op.Asr a b g k = goes_operands node op.Asr a b g k
  goes_binary node op.Eq a b g k = goes_operands node op.Eq a b g k
  goes_binary node op.Ne a b g k = goes_operands node op.Ne a b g k
  goes_binary node op.Lt a b g k = goes_operands node op.Lt a b g k
  goes_binary node op.Gt a b g k = goes_operands node op.Gt a b g k
  goes_binary node op.Le a b g k = goes_operands node op.Le a b g k
  goes_binary node op.Ge a b g k = goes_operands node op.Ge a b g k
  goes_binary node op.Join a b g k = goes_operands node op.Join a b g k

  pub goes_exclave : (a : Meaning E) → Goes E a → Goes E (exclave E s a)
  goes_exclave a g = record { by = goes }
    where
      goes : (c d : Call E) → CallGoes E c d → (mode : Mode) (env : Env) → GoesOn (exclave E s a c mode env) (exclave E s a d mode env)
      goes c d h Inner env = g.by c d h Inner env
      goes c d h (Last w) env =
          goes_after (s.told event.Close) _ _ (goes_bind (a c Inner env) (a d Inner env) _ _ (g.by c d h Inner env) (λ v. refl))

  pub goes_overwritten : (node : ℕ) (form : Form (Meaning E)) → FormGoes E form → Goes E (overwritten E s node form)
  goes_overwritten node (Builds place ms) all = record {
    by = λ c d h mode env.
        goes_bind (values E s ms c env) (values E s ms d env) _ _ (goes_values ms all c d h env) (λ vs. goes_same _);
  }
  goes_overwritten node Ordinary all = record { by = λ c d h mode env. refl }
  goes_overwritten node (Named o) all = record { by = λ c d h mode env. refl }
  goes_overwritten node (Several ms) all = record { by = λ c d h mode env. refl }

  -- what asks for no call
  pub goes_still : (m : Meaning E) → ((c d : Call E) (mode : Mode) (env : Env) → m c mode env ≡ m d mode env) → Goes E m
  goes_still m same = record { by = λ c d h mode env. subst (λ r. GoesOn (m c mode env) r) (same c d mode env) (goes_same (m c mode env)) }

  -- one part, and then what asks for no call
  pub goes_then : (a : Meaning E) (k : Mode → Env → Value → Run E Value) → Goes E a → Goes E (λ c mode env. a c Inner env >>= k mode env)
  goes_then a k g = record {
    by = λ c d h mode env.
        goes_bind (a c Inner env) (a d Inner env) _ _ (g.by c d h Inner env) (λ v. goes_same (k mode env v));
  }

  pub goes_closure : (node : ℕ) → Goes E (closure E s node)
  goes_closure node = record { by = λ c d h mode env. goes_same (closure E s node c mode env) }

  -- parts, and then what asks for no call
  pub goes_values_then : (ms : List (Meaning E)) (k : Mode → Env → List Value → Run E Value) → AllGo E ms → Goes E (λ c mode env. values E s ms c env >>= k mode env)
  goes_values_then ms k all = record {
    by = λ c d h mode env.
        goes_bind (values E s ms c env) (values E s ms d env) _ _ (goes_values ms all c d h env) (λ vs. goes_same (k mode env vs));
  }

  pub goes_chain_then : (node : ℕ) (ms : List (Meaning E)) (k : Mode → Env → Value → Run E Value) → AllGo E ms → Goes E (λ c mode env. chain E s node ms c env >>= k mode env)
  goes_chain_then node ms k all = record {
    by = λ c d h mode env.
        goes_bind (chain E s node ms c env) (chain E s node ms d env) _ _ (goes_chain node ms all c d h env) (λ v. goes_same (k mode env v));
  }

  pub goes_let : (ms : List (Meaning E)) (o : List Value → Option Env) (m : Meaning E) → AllGo E ms → Goes E m → Goes E (λ c mode env. values E s ms c env >>= λ vs. matched E s (o vs) (λ xs. m c mode (xs ++ env)))
  goes_let ms o m all g = record {
    by = λ c d h mode env.
        goes_bind (values E s ms c env) (values E s ms d env) _ _ (goes_values ms all c d h env)
        (λ vs. goes_matched (o vs) _ _ (λ xs. g.by c d h mode (xs ++ env)));
  }

  pub goes_borrow : (o : Env → Option Value) (node : ℕ) (m : Meaning E) → Goes E m → Goes E (λ c mode env. or_stuck (o env) >>= λ v. after (s.told event.Open) (m c Inner ((node, v) ∷ env) >>= λ r. after (s.told event.Close) (finish E s mode r)))
  goes_borrow o node m g = record {
    by = λ c d h mode env.
        goes_bind (or_stuck (o env)) (or_stuck (o env)) _ _ (goes_same (or_stuck (o env)))
        (λ v. goes_after (s.told event.Open) _ _ (goes_bind (m c Inner ((node, v) ∷ env)) (m d Inner ((node, v) ∷ env)) _ _ (g.by c d h Inner ((node, v) ∷ env))
        (λ r. goes_same (after (s.told event.Close) (finish E s mode r)))));
  }
