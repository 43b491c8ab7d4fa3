-- Twice the operators are less than the tokens read.
use Rattle.std.proofs.Common.{◌+◌, ◌*◌, ℕ, ◌<◌, ◌≤◌, Bool, List, [], drop, length, Option, arith}
use Rattle.std.specs.Prelude.{sum, map}
use Rattle.ml_lexer.specs.declared.token.Token.{Token}
use Rattle.ml_cursor.specs.declared.front.Front.{Front}
use Rattle.ml_cursor.specs.Places.{first_span}
use Rattle.ml_tree.specs.declared.pattern.Pat.{Pat}
use Rattle.ml_tree.specs.declared.pattern.Param.{Param}
use Rattle.ml_tree.specs.declared.pattern.ConName.TheVariants.{Named}
use Rattle.ml_tree.specs.declared.expr.Expr.{Expr}
use Rattle.tree_laws.specs.Operators.{operators, arm_operators, bind_operators, field_operators}
use Rattle.ml_parse_types.proofs.Shorter.{length-drop, type_rest}
use Rattle.ml_parse_patterns.proofs.Shorter.{shorter as pattern_shorter, params_shorter}
use Rattle.ml_grammar.specs.declared.looks.AtomLead.{AtomLead}
use Rattle.ml_grammar.specs.declared.looks.Suffix.{Suffix}
use Rattle.ml_grammar.specs.declared.looks.Lead.{Lead}
use Rattle.ml_grammar.specs.declared.looks.Joint.{Joint}
use Rattle.ml_grammar.specs.declared.looks.Joint.TheVariants.{Pair}
use Rattle.ml_grammar.specs.declared.looks.ListKind.{ListKind}
use Rattle.ml_grammar.specs.Looks.{second, is_rec, next, behind_bar, behind_rec}
use Rattle.ml_grammar.specs.Trees.{start_of, end_of, end_behind, end_of_arm, end_of_branches, joined}
use Rattle.ml_grammar.proofs.Shorter.{shorter, list_shorter, bar_rest, rec_rest, to_next_rest}
use Rattle.ml_grammar.specs.Grammar.{Part, Kind, ItemOf, exprs, fields, arms, binds, TargetBy, function_target, pattern_target, Reads, AtomBy, SuffixBy, ListedBy, LevelBy, OperandBy, ConBy, ElseBy, GuardBy, Lists, ItemBy, an_atom, a_simple, an_operand, a_level, a_list_of, a_leaf, a_text, a_paren, a_typed, a_begin, a_list, a_record, no_suffix, a_field, an_index, alone, several, no_operator, to_left, to_right, an_apply, a_constructor, a_minus, a_word, an_overwrite, a_let, a_borrow, a_match, a_function, a_fun, an_if, an_exclave, a_block, a_cell, no_else, an_else, no_guard, a_guard, the_last, one_more, an_expression, a_set_field, a_pun, an_arm, a_bind}
use Rattle.tree_laws.proofs.Rests.{tail, taken, dot_taken, lower_left, lower_first, next_rest, behind_rest, past_rest, result_rest, borrows_rest}
use Rattle.tree_laws.proofs.NodeForms.{sum_more}
use Rattle.tree_laws.proofs.OperatorForms.{maybe_operators, of_text, of_leaf, of_block, of_paren, of_typed, of_list, of_fields, of_access, of_index, of_gathered, of_joined, of_minus, of_worded, of_overwrite, of_let, of_borrow, of_match, of_function, of_fun, of_if, of_exclave, of_arm, of_bind, of_field, of_pun}

-- the operators of one of a list
abbrev pub operators_of : (k : Kind) → ItemOf k → ℕ
operators_of (exprs q) x = operators x
operators_of fields x = field_operators x
operators_of arms x = arm_operators x
operators_of binds x = bind_operators x

target_rest : {text : List ℕ} {b : Bool} {ts r : List Token} {p : Pat} {ps : List Param} {d c : ℕ} → TargetBy text b ts p d ps c r → length r < length ts
target_rest {ts = ts} (function_target x) = let i = params_shorter x in let l = length-drop 1 ts in omega arith
target_rest (pattern_target x) = pattern_shorter x

mutual
  pub bound : {text : List ℕ} {p : Part} {ts r : List Token} {e : Expr} {d : ℕ} → Reads text p ts e d r → 2 * operators e + 1 + length r ≤ length ts
  bound (an_atom x) = atom_bound x (shorter (an_atom x))
  bound (a_simple x g) = let i = bound x in let j = suffix_bound g in omega arith
  bound (an_operand x) = operand_bound x
  bound (a_level x g) = let i = bound x in let j = level_bound g in omega arith
  bound (a_list_of x g) = let i = bound x in let j = listed_bound g in omega arith

  atom_bound : {text : List ℕ} {l : AtomLead} {ts r : List Token} {e : Expr} {d : ℕ} → AtomBy text l ts e d r → length r < length ts → 2 * operators e + 1 + length r ≤ length ts
  atom_bound (a_leaf {l = l} {ts = ts}) h = let n = of_leaf l ts in omega arith
  atom_bound (a_text {t = t} {bytes = bytes} p x) h = let n = of_text t.span.start t.span.end bytes in omega arith
  atom_bound (a_paren {ts = ts} {e = e} {s = s} x p) h = let n = of_paren (first_span ts).start s.end e in let i = bound x in let j = taken p in let l = tail ts (shorter x) in omega arith
  atom_bound (a_typed {ts = ts} {e = e} {t = t} {s = s} x p u q) h =
      let n = of_typed (first_span ts).start s.end e t in let i = bound x in let j = taken p in let k = type_rest u in let m = taken q in let l = tail ts (shorter x) in omega arith
  atom_bound (a_begin {ts = ts} {e = e} {s = s} x p) h = let n = of_paren (first_span ts).start s.end e in let i = bound x in let j = taken p in let l = tail ts (shorter x) in omega arith
  atom_bound (a_list {ts = ts} {us = us} {es = es} {s = s} x p) h =
      let n = of_list (first_span ts).start s.end es in
      let i : 2 * sum (map operators es) + 1 + length us ≤ length (drop 1 ts) = list_bound x in
      let j = taken p in let l = tail ts (list_shorter x) in omega arith
  atom_bound (a_record {ts = ts} {us = us} {fs = fs} {s = s} x p) h =
      let n = of_fields (first_span ts).start s.end fs in
      let i : 2 * sum (map field_operators fs) + 1 + length us ≤ length (drop 1 ts) = list_bound x in
      let j = taken p in let l = tail ts (list_shorter x) in omega arith

  suffix_bound : {text : List ℕ} {l : Suffix} {ts r : List Token} {a e : Expr} {da d : ℕ} → SuffixBy text l ts a da e d r → 2 * operators e + length r ≤ 2 * operators a + length ts
  suffix_bound no_suffix = omega arith
  suffix_bound (a_field {a = a} {name = name} p q x) = let n = of_access (start_of a) name.end a name in let i = dot_taken p in let j = taken q in let k = suffix_bound x in omega arith
  suffix_bound (an_index {us = us} {a = a} {i = b} {s = s} x p y) =
      let n = of_index (start_of a) s.end a b in
      let i = bound x in let j = taken p in let k = suffix_bound y in let l = length-drop 1 us in let m = length-drop 1 (drop 1 us) in omega arith

  listed_bound : {text : List ℕ} {q : ListKind} {b : Bool} {ts r : List Token} {a e : Expr} {da d : ℕ} → ListedBy text q b ts a da e d r → 2 * operators e + length r ≤ 2 * operators a + length ts
  listed_bound (alone {q = q} {us = us}) = let l = behind_rest q us in omega arith
  listed_bound (several {q = q} {us = us} {rest = rest} {a = a} {es = es} x) =
      let n = of_gathered q a es in
      let i : 2 * sum (map operators es) + 1 + length rest ≤ length (next q us) = list_bound x in
      let l = next_rest q us in omega arith

  level_bound : {text : List ℕ} {k : ℕ} {b : Bool} {o : Option Joint} {ts r : List Token} {a e : Expr} {da d : ℕ} → LevelBy text k b o ts a da e d r → 2 * operators e + length r ≤ 2 * operators a + length ts
  level_bound no_operator = omega arith
  level_bound (to_left {o = o} {us = us} {a = a} {b = b} x y) = let n = of_joined o a b in let i = bound x in let j = level_bound y in let l = tail us (shorter x) in omega arith
  level_bound (to_right {o = o} {us = us} {a = a} {b = b} x) = let n = of_joined o a b in let i = bound x in let l = tail us (shorter x) in omega arith

  operand_bound : {text : List ℕ} {l : Lead} {ts r : List Token} {e : Expr} {d : ℕ} → OperandBy text l ts e d r → 2 * operators e + 1 + length r ≤ length ts
  operand_bound (an_apply x) = bound x
  operand_bound (a_constructor x) = con_bound x
  operand_bound (a_minus {ts = ts} {a = a} x) = let n = of_minus (first_span ts).start (end_of a) a in let i = bound x in let l = tail ts (shorter x) in omega arith
  operand_bound (a_word {w = w} {ts = ts} {a = a} x) = let n = of_worded (first_span ts).start (end_of a) w a in let i = bound x in let l = tail ts (shorter x) in omega arith
  operand_bound (an_overwrite {ts = ts} {e = e} {name = name} p q x) =
      let n = of_overwrite (first_span ts).start (end_of e) name e in
      let i = con_bound x in let j = lower_left p in let k = taken p in let m = taken q in let l = tail ts j in omega arith
  operand_bound (a_let {ts = ts} {us = us} {bs = bs} {b = b} x p z) =
      let n = of_let (first_span ts).start (end_of b) (is_rec (second ts)) bs b in
      let i : 2 * sum (map bind_operators bs) + 1 + length us ≤ length (behind_rec (drop 1 ts)) = list_bound x in
      let j = bound z in let k = rec_rest (drop 1 ts) in let l = length-drop 1 us in let m = length-drop 1 ts in omega arith
  operand_bound (a_borrow {ts = ts} {us = us} {y = y} {x = o} {b = b} q p x) =
      let n = of_borrow (first_span ts).start (end_of b) y o b in
      let i = borrows_rest q in let j = bound x in let l = tail us (shorter x) in let m = length-drop 1 ts in omega arith
  operand_bound (a_match {ts = ts} {us = us} {rest = rest} {a = a} {cases = cases} x p z) =
      let n = of_match (first_span ts).start (end_behind end_of_arm 0 cases) a cases in
      let i = bound x in
      let j : 2 * sum (map arm_operators cases) + 1 + length rest ≤ length (behind_bar (drop 1 us)) = list_bound z in
      let k = bar_rest (drop 1 us) in let l = length-drop 1 us in let m = length-drop 1 ts in omega arith
  operand_bound (a_function {ts = ts} {rest = rest} {cases = cases} x) =
      let n = of_function (first_span ts).start (end_behind end_of_arm 0 cases) cases in
      let i : 2 * sum (map arm_operators cases) + 1 + length rest ≤ length (behind_bar (drop 1 ts)) = list_bound x in
      let k = bar_rest (drop 1 ts) in let l = tail ts (let h : 0 < length (drop 1 ts) = omega arith in h) in omega arith
  operand_bound (a_fun {ts = ts} {us = us} {ps = ps} {b = b} x p z) =
      let n = of_fun (first_span ts).start (end_of b) ps b in
      let i = params_shorter x in let j = bound z in let l = length-drop 1 us in let m = length-drop 1 ts in omega arith
  operand_bound (an_if {ts = ts} {us = us} {c = c} {a = a} {o = o} x p z f) =
      let n = of_if (first_span ts).start (end_of_branches a o) c a o in
      let i = bound x in let j = bound z in let k = else_bound f in let l = length-drop 1 us in let m = length-drop 1 ts in omega arith
  operand_bound (an_exclave {ts = ts} {b = b} x) = let n = of_exclave (first_span ts).start (end_of b) b in let i = bound x in let l = tail ts (shorter x) in omega arith

  con_bound : {text : List ℕ} {f : Front} {ts r : List Token} {e : Expr} {d : ℕ} → ConBy text f ts e d r → 2 * operators e + 1 + length r ≤ length ts
  con_bound (a_block {ts = ts} {a = a} x) = let n = of_block (first_span ts).start (end_of a) (Named (first_span ts)) a in let i = bound x in let l = tail ts (shorter x) in omega arith
  con_bound (a_cell {ts = ts} {us = us} {a = a} {b = b} {s = s} x p y q) =
      let n = of_paren (first_span ts).start s.end (joined Pair a b) in let o = of_joined Pair a b in
      let i = bound x in let j = bound y in let k = taken q in let l = tail ts (shorter x) in let m = length-drop 1 us in omega arith

  else_bound : {text : List ℕ} {b : Bool} {ts r : List Token} {o : Option Expr} {d : ℕ} → ElseBy text b ts o d r → 2 * maybe_operators o + length r ≤ length ts
  else_bound no_else = omega arith
  else_bound (an_else {ts = ts} x) = let i = bound x in let l = length-drop 1 ts in omega arith

  guard_bound : {text : List ℕ} {f : Front} {ts r : List Token} {o : Option Expr} {d : ℕ} → GuardBy text f ts o d r → 2 * maybe_operators o + length r ≤ length ts
  guard_bound (no_guard {ts = ts}) = let l = length-drop 1 ts in omega arith
  guard_bound (a_guard {ts = ts} {us = us} x p) = let i = bound x in let l = length-drop 1 ts in let m = length-drop 1 us in omega arith

  pub list_bound : {text : List ℕ} {k : Kind} {ts r : List Token} {xs : List (ItemOf k)} {d : ℕ} → Lists text k ts xs d r → 2 * sum (map (operators_of k) xs) + 1 + length r ≤ length ts
  list_bound (the_last {k = k} {us = us} {x = y} x m) = let n = sum_more (operators_of k y) [] in let i = item_bound x in let l = past_rest k us in omega arith
  list_bound (one_more {k = k} {us = us} {x = y} {xs = xs} x m z) =
      let n = sum_more (operators_of k y) (map (operators_of k) xs) in
      let i = item_bound x in let j = list_bound z in let l = to_next_rest k us in omega arith

  item_bound : {text : List ℕ} {k : Kind} {ts r : List Token} {x : ItemOf k} {d : ℕ} → ItemBy text k ts x d r → 2 * operators_of k x + 1 + length r ≤ length ts
  item_bound (an_expression x) = bound x
  item_bound (a_set_field {ts = ts} {e = e} p q x) = let n = of_field (first_span ts) e in let i = bound x in let l = length-drop 1 ts in let m = length-drop 1 (drop 1 ts) in omega arith
  item_bound (a_pun {ts = ts} p q) = let n = of_pun (first_span ts) in let l = lower_first ts p in omega arith
  item_bound (an_arm {p = p} {g = g} {b = b} x f z) = let n = of_arm p g b in let i = pattern_shorter x in let j = guard_bound f in let k = bound z in omega arith
  item_bound (a_bind {vs = vs} {p = p} {ps = ps} {t = t} {b = b} x f q z) =
      let n = of_bind p ps t b in let i = target_rest x in let j = result_rest f in let k = bound z in let l = length-drop 1 vs in omega arith
