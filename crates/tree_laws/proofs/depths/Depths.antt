-- The depth of a reading is that of its tree.
use Rattle.std.proofs.Common.{◌≡◌, ℕ, Bool, List, Option, refl, sym, ◌∙◌, arith}
use Rattle.std.specs.Prelude.{max, map}
use Rattle.ml_lexer.specs.declared.token.Token.{Token}
use Rattle.ml_cursor.specs.declared.front.Front.{Front}
use Rattle.ml_cursor.specs.Places.{first_span}
use Rattle.ml_tree.specs.declared.pattern.Pat.{Pat}
use Rattle.ml_tree.specs.declared.pattern.Param.{Param}
use Rattle.ml_tree.specs.declared.pattern.ConName.TheVariants.{Named}
use Rattle.ml_tree.specs.declared.expr.Expr.{Expr}
use Rattle.ml_tree.specs.Depth.{greatest, pattern_depth, param_depth, expr_depth, arm_depth, bind_depth, field_depth}
use Rattle.ml_grammar.specs.declared.looks.AtomLead.{AtomLead}
use Rattle.ml_grammar.specs.declared.looks.Suffix.{Suffix}
use Rattle.ml_grammar.specs.declared.looks.Lead.{Lead}
use Rattle.ml_grammar.specs.declared.looks.Joint.{Joint}
use Rattle.ml_grammar.specs.declared.looks.Joint.TheVariants.{Pair}
use Rattle.ml_grammar.specs.declared.looks.ListKind.{ListKind}
use Rattle.ml_grammar.specs.Looks.{second, is_rec}
use Rattle.ml_grammar.specs.Trees.{start_of, end_of, end_behind, end_of_arm, end_of_branches, joined}
use Rattle.ml_grammar.specs.Grammar.{Part, Kind, ItemOf, exprs, fields, arms, binds, TargetBy, function_target, pattern_target, Reads, AtomBy, SuffixBy, ListedBy, LevelBy, OperandBy, ConBy, ElseBy, GuardBy, Lists, ItemBy, an_atom, a_simple, an_operand, a_level, a_list_of, a_leaf, a_text, a_paren, a_typed, a_begin, a_list, a_record, no_suffix, a_field, an_index, alone, several, no_operator, to_left, to_right, an_apply, a_constructor, a_minus, a_word, an_overwrite, a_let, a_borrow, a_match, a_function, a_fun, an_if, an_exclave, a_block, a_cell, no_else, an_else, no_guard, a_guard, the_last, one_more, an_expression, a_set_field, a_pun, an_arm, a_bind}
use Rattle.tree_laws.proofs.depths.PatternDepths.{pattern_depth_is, params_depth_is, of_name_pattern}
use Rattle.tree_laws.proofs.depths.DepthForms.{maybe_depth, of_text, of_leaf, of_block, of_paren, of_typed, of_list, of_fields, of_access, of_index, of_gathered, of_joined, of_minus, of_worded, of_overwrite, of_let, of_borrow, of_match, of_function, of_fun, of_if, of_exclave, of_arm, of_bind, of_field, of_pun}

-- the depth of one of a list
abbrev pub depth_of : (k : Kind) → ItemOf k → ℕ
depth_of (exprs q) x = expr_depth x
depth_of fields x = field_depth x
depth_of arms x = arm_depth x
depth_of binds x = bind_depth x

target_depth_is : {text : List ℕ} {b : Bool} {ts r : List Token} {p : Pat} {ps : List Param} {d c : ℕ} → TargetBy text b ts p d ps c r → max d c ≡ max (pattern_depth p) (greatest (map param_depth ps))
target_depth_is (function_target {ts = ts} x) = let i = params_depth_is x in let n = of_name_pattern (first_span ts) in omega arith
target_depth_is (pattern_target x) = let i = pattern_depth_is x in omega arith

mutual
  pub depth_is : {text : List ℕ} {p : Part} {ts r : List Token} {e : Expr} {d : ℕ} → Reads text p ts e d r → d ≡ expr_depth e
  depth_is (an_atom x) = atom_depth_is x
  depth_is (a_simple x g) = suffix_depth_is g (depth_is x)
  depth_is (an_operand x) = operand_depth_is x
  depth_is (a_level x g) = level_depth_is g (depth_is x)
  depth_is (a_list_of x g) = listed_depth_is g (depth_is x)

  atom_depth_is : {text : List ℕ} {l : AtomLead} {ts r : List Token} {e : Expr} {d : ℕ} → AtomBy text l ts e d r → d ≡ expr_depth e
  atom_depth_is (a_leaf {l = l} {ts = ts}) = sym (of_leaf l ts)
  atom_depth_is (a_text {t = t} {bytes = bytes} p x) = sym (of_text t.span.start t.span.end bytes)
  atom_depth_is (a_paren {ts = ts} {e = e} {s = s} x p) = let n = of_paren (first_span ts).start s.end e in let i = depth_is x in omega arith
  atom_depth_is (a_typed {ts = ts} {e = e} {t = t} {s = s} x p u q) = let n = of_typed (first_span ts).start s.end e t in let i = depth_is x in omega arith
  atom_depth_is (a_begin {ts = ts} {e = e} {s = s} x p) = let n = of_paren (first_span ts).start s.end e in let i = depth_is x in omega arith
  atom_depth_is (a_list {ts = ts} {es = es} {d = d} {s = s} x p) = let n = of_list (first_span ts).start s.end es in let i : d ≡ greatest (map expr_depth es) = list_depth_is x in omega arith
  atom_depth_is (a_record {ts = ts} {fs = fs} {d = d} {s = s} x p) = let n = of_fields (first_span ts).start s.end fs in let i : d ≡ greatest (map field_depth fs) = list_depth_is x in omega arith

  suffix_depth_is : {text : List ℕ} {l : Suffix} {ts r : List Token} {a e : Expr} {da d : ℕ} → SuffixBy text l ts a da e d r → da ≡ expr_depth a → d ≡ expr_depth e
  suffix_depth_is no_suffix h = h
  suffix_depth_is (a_field {a = a} {name = name} p q x) h = let n = of_access (start_of a) name.end a name in suffix_depth_is x (omega arith)
  suffix_depth_is (an_index {a = a} {i = b} {s = s} x p y) h = let n = of_index (start_of a) s.end a b in let i = depth_is x in suffix_depth_is y (omega arith)

  listed_depth_is : {text : List ℕ} {q : ListKind} {b : Bool} {ts r : List Token} {a e : Expr} {da d : ℕ} → ListedBy text q b ts a da e d r → da ≡ expr_depth a → d ≡ expr_depth e
  listed_depth_is alone h = h
  listed_depth_is (several {q = q} {a = a} {d = d} {es = es} x) h = let n = of_gathered q a es in let i : d ≡ greatest (map expr_depth es) = list_depth_is x in omega arith

  level_depth_is : {text : List ℕ} {k : ℕ} {b : Bool} {o : Option Joint} {ts r : List Token} {a e : Expr} {da d : ℕ} → LevelBy text k b o ts a da e d r → da ≡ expr_depth a → d ≡ expr_depth e
  level_depth_is no_operator h = h
  level_depth_is (to_left {o = o} {a = a} {b = b} x y) h = let n = of_joined o a b in let i = depth_is x in level_depth_is y (omega arith)
  level_depth_is (to_right {o = o} {a = a} {b = b} x) h = let n = of_joined o a b in let i = depth_is x in omega arith

  operand_depth_is : {text : List ℕ} {l : Lead} {ts r : List Token} {e : Expr} {d : ℕ} → OperandBy text l ts e d r → d ≡ expr_depth e
  operand_depth_is (an_apply x) = depth_is x
  operand_depth_is (a_constructor x) = con_depth_is x
  operand_depth_is (a_minus {ts = ts} {a = a} x) = let n = of_minus (first_span ts).start (end_of a) a in let i = depth_is x in omega arith
  operand_depth_is (a_word {w = w} {ts = ts} {a = a} x) = let n = of_worded (first_span ts).start (end_of a) w a in let i = depth_is x in omega arith
  operand_depth_is (an_overwrite {ts = ts} {e = e} {name = name} p q x) = let n = of_overwrite (first_span ts).start (end_of e) name e in let i = con_depth_is x in omega arith
  operand_depth_is (a_let {ts = ts} {bs = bs} {b = b} {dbs = dbs} x p z) =
      let n = of_let (first_span ts).start (end_of b) (is_rec (second ts)) bs b in
      let i : dbs ≡ greatest (map bind_depth bs) = list_depth_is x in let j = depth_is z in omega arith
  operand_depth_is (a_borrow {ts = ts} {y = y} {x = o} {b = b} q p x) = let n = of_borrow (first_span ts).start (end_of b) y o b in let i = depth_is x in omega arith
  operand_depth_is (a_match {ts = ts} {a = a} {cases = cases} {d = d} x p z) =
      let n = of_match (first_span ts).start (end_behind end_of_arm 0 cases) a cases in
      let i = depth_is x in let j : d ≡ greatest (map arm_depth cases) = list_depth_is z in omega arith
  operand_depth_is (a_function {ts = ts} {cases = cases} {d = d} x) =
      let n = of_function (first_span ts).start (end_behind end_of_arm 0 cases) cases in
      let i : d ≡ greatest (map arm_depth cases) = list_depth_is x in omega arith
  operand_depth_is (a_fun {ts = ts} {ps = ps} {b = b} x p z) = let n = of_fun (first_span ts).start (end_of b) ps b in let i = params_depth_is x in let j = depth_is z in omega arith
  operand_depth_is (an_if {ts = ts} {c = c} {a = a} {o = o} x p z f) =
      let n = of_if (first_span ts).start (end_of_branches a o) c a o in
      let i = depth_is x in let j = depth_is z in let k = else_depth_is f in omega arith
  operand_depth_is (an_exclave {ts = ts} {b = b} x) = let n = of_exclave (first_span ts).start (end_of b) b in let i = depth_is x in omega arith

  con_depth_is : {text : List ℕ} {f : Front} {ts r : List Token} {e : Expr} {d : ℕ} → ConBy text f ts e d r → d ≡ expr_depth e
  con_depth_is (a_block {ts = ts} {a = a} x) = let n = of_block (first_span ts).start (end_of a) (Named (first_span ts)) a in let i = depth_is x in omega arith
  con_depth_is (a_cell {ts = ts} {a = a} {b = b} {s = s} x p y q) =
      let n = of_paren (first_span ts).start s.end (joined Pair a b) in let o = of_joined Pair a b in
      let i = depth_is x in let j = depth_is y in omega arith

  else_depth_is : {text : List ℕ} {b : Bool} {ts r : List Token} {o : Option Expr} {d : ℕ} → ElseBy text b ts o d r → d ≡ maybe_depth o
  else_depth_is no_else = refl
  else_depth_is (an_else x) = depth_is x

  guard_depth_is : {text : List ℕ} {f : Front} {ts r : List Token} {o : Option Expr} {d : ℕ} → GuardBy text f ts o d r → d ≡ maybe_depth o
  guard_depth_is no_guard = refl
  guard_depth_is (a_guard x p) = depth_is x

  pub list_depth_is : {text : List ℕ} {k : Kind} {ts r : List Token} {xs : List (ItemOf k)} {d : ℕ} → Lists text k ts xs d r → d ≡ greatest (map (depth_of k) xs)
  list_depth_is (the_last x m) = let i = item_depth_is x in omega arith
  list_depth_is (one_more x m z) = let i = item_depth_is x in let j = list_depth_is z in omega arith

  item_depth_is : {text : List ℕ} {k : Kind} {ts r : List Token} {x : ItemOf k} {d : ℕ} → ItemBy text k ts x d r → d ≡ depth_of k x
  item_depth_is (an_expression x) = depth_is x
  item_depth_is (a_set_field {ts = ts} {e = e} p q x) = depth_is x ∙ sym (of_field (first_span ts) e)
  item_depth_is (a_pun {ts = ts} p q) = sym (of_pun (first_span ts))
  item_depth_is (an_arm {p = p} {g = g} {b = b} x f z) = let n = of_arm p g b in let i = pattern_depth_is x in let j = guard_depth_is f in let k = depth_is z in omega arith
  item_depth_is (a_bind {p = p} {ps = ps} {t = t} {b = b} x f q z) = let n = of_bind p ps t b in let i = target_depth_is x in let k = depth_is z in omega arith
