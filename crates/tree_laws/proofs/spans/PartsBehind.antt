-- What is left behind the parts of an expression stands behind what they were read from.
use Rattle.std.proofs.Common.{ℕ, Bool, List, ◌∷◌, drop, Option}
use Rattle.oxml_base.specs.declared.span.Span.{Span}
use Rattle.ml_lexer.specs.declared.token.Token.{Token}
use Rattle.ml_cursor.specs.declared.front.Front.{Front}
use Rattle.ml_tree.specs.declared.pattern.Pat.{Pat}
use Rattle.ml_tree.specs.declared.pattern.Param.{Param}
use Rattle.ml_tree.specs.declared.types.TyExpr.{TyExpr}
use Rattle.ml_tree.specs.declared.expr.Expr.{Expr}
use Rattle.ml_grammar.specs.declared.looks.AtomLead.{AtomLead}
use Rattle.ml_grammar.specs.declared.looks.Suffix.{Suffix}
use Rattle.ml_grammar.specs.declared.looks.Lead.{Lead}
use Rattle.ml_grammar.specs.declared.looks.Joint.{Joint}
use Rattle.ml_grammar.specs.declared.looks.ListKind.{ListKind}
use Rattle.ml_grammar.specs.Trees.{width}
use Rattle.ml_grammar.specs.Grammar.{Part, Kind, ItemOf, TargetBy, function_target, pattern_target, ResultBy, no_result, result, Borrows, borrows, Reads, AtomBy, SuffixBy, ListedBy, LevelBy, OperandBy, ConBy, ElseBy, GuardBy, Lists, ItemBy, an_atom, a_simple, an_operand, a_level, a_list_of, a_leaf, a_text, a_paren, a_typed, a_begin, a_list, a_record, no_suffix, a_field, an_index, alone, several, no_operator, to_left, to_right, an_apply, a_constructor, a_minus, a_word, an_overwrite, a_let, a_borrow, a_match, a_function, a_fun, an_if, an_exclave, a_block, a_cell, no_else, an_else, no_guard, a_guard, the_last, one_more, an_expression, a_set_field, a_pun, an_arm, a_bind}
use Rattle.tree_laws.proofs.spans.Behind.{Behind, same, dropped, one, then, token, bar, rec_word, next_one, last_one, next_of, past_of}
use Rattle.tree_laws.proofs.spans.TypesBehind.{type_behind}
use Rattle.tree_laws.proofs.spans.PatternsBehind.{pattern_behind, params_behind}

pub result_behind : {b : Bool} {ts r : List Token} {t : Option TyExpr} → ResultBy b ts t r → Behind ts r
result_behind no_result = same
result_behind (result x) = then one (type_behind x)

pub target_behind : {text : List ℕ} {b : Bool} {ts r : List Token} {p : Pat} {ps : List Param} {d c : ℕ} → TargetBy text b ts p d ps c r → Behind ts r
target_behind (function_target x) = then one (params_behind x)
target_behind (pattern_target x) = pattern_behind x

pub borrows_behind : {ts r : List Token} {y x : Span} → Borrows ts y x r → Behind ts r
borrows_behind (borrows a b c d) = then (token a) (then (token b) (then (token c) (token d)))

mutual
  pub part_behind : {text : List ℕ} {p : Part} {ts r : List Token} {e : Expr} {d : ℕ} → Reads text p ts e d r → Behind ts r
  part_behind (an_atom x) = atom_behind x
  part_behind (a_simple x g) = then (part_behind x) (suffix_behind g)
  part_behind (an_operand x) = operand_behind x
  part_behind (a_level x g) = then (part_behind x) (level_behind g)
  part_behind (a_list_of x g) = then (part_behind x) (listed_behind g)

  pub atom_behind : {text : List ℕ} {l : AtomLead} {ts r : List Token} {e : Expr} {d : ℕ} → AtomBy text l ts e d r → Behind ts r
  atom_behind (a_leaf {l = l} {ts = ts}) = dropped (width l) ts
  atom_behind (a_text {t = t} {rest = rest} p x) = dropped 1 (t ∷ rest)
  atom_behind (a_paren x p) = then one (then (part_behind x) (token p))
  atom_behind (a_typed x p u q) = then one (then (part_behind x) (then (token p) (then (type_behind u) (token q))))
  atom_behind (a_begin x p) = then one (then (part_behind x) (token p))
  atom_behind (a_list x p) = then one (then (list_behind x) (token p))
  atom_behind (a_record x p) = then one (then (list_behind x) (token p))

  pub suffix_behind : {text : List ℕ} {l : Suffix} {ts r : List Token} {a e : Expr} {da d : ℕ} → SuffixBy text l ts a da e d r → Behind ts r
  suffix_behind no_suffix = same
  suffix_behind (a_field p q x) = then (token p) (then (token q) (suffix_behind x))
  suffix_behind (an_index x p y) = then one (then one (then (part_behind x) (then (token p) (suffix_behind y))))

  pub listed_behind : {text : List ℕ} {q : ListKind} {b : Bool} {ts r : List Token} {a e : Expr} {da d : ℕ} → ListedBy text q b ts a da e d r → Behind ts r
  listed_behind (alone {q = q} {us = us}) = last_one q us
  listed_behind (several {q = q} {us = us} x) = then (next_one q us) (list_behind x)

  pub level_behind : {text : List ℕ} {k : ℕ} {b : Bool} {o : Option Joint} {ts r : List Token} {a e : Expr} {da d : ℕ} → LevelBy text k b o ts a da e d r → Behind ts r
  level_behind no_operator = same
  level_behind (to_left x y) = then one (then (part_behind x) (level_behind y))
  level_behind (to_right x) = then one (part_behind x)

  pub operand_behind : {text : List ℕ} {l : Lead} {ts r : List Token} {e : Expr} {d : ℕ} → OperandBy text l ts e d r → Behind ts r
  operand_behind (an_apply x) = part_behind x
  operand_behind (a_constructor x) = con_behind x
  operand_behind (a_minus x) = then one (part_behind x)
  operand_behind (a_word x) = then one (part_behind x)
  operand_behind (an_overwrite p q x) = then one (then (token p) (then (token q) (con_behind x)))
  operand_behind (a_let {ts = ts} x p z) = then one (then (rec_word (drop 1 ts)) (then (list_behind x) (then one (part_behind z))))
  operand_behind (a_borrow q p x) = then one (then (borrows_behind q) (then one (part_behind x)))
  operand_behind (a_match {us = us} x p z) = then one (then (part_behind x) (then one (then (bar (drop 1 us)) (list_behind z))))
  operand_behind (a_function {ts = ts} x) = then one (then (bar (drop 1 ts)) (list_behind x))
  operand_behind (a_fun x p z) = then one (then (params_behind x) (then one (part_behind z)))
  operand_behind (an_if x p z f) = then one (then (part_behind x) (then one (then (part_behind z) (else_behind f))))
  operand_behind (an_exclave x) = then one (part_behind x)

  pub con_behind : {text : List ℕ} {f : Front} {ts r : List Token} {e : Expr} {d : ℕ} → ConBy text f ts e d r → Behind ts r
  con_behind (a_block x) = then one (part_behind x)
  con_behind (a_cell x p y q) = then one (then (part_behind x) (then one (then (part_behind y) (token q))))

  pub else_behind : {text : List ℕ} {b : Bool} {ts r : List Token} {o : Option Expr} {d : ℕ} → ElseBy text b ts o d r → Behind ts r
  else_behind no_else = same
  else_behind (an_else x) = then one (part_behind x)

  pub guard_behind : {text : List ℕ} {f : Front} {ts r : List Token} {o : Option Expr} {d : ℕ} → GuardBy text f ts o d r → Behind ts r
  guard_behind no_guard = one
  guard_behind (a_guard x p) = then one (then (part_behind x) one)

  pub list_behind : {text : List ℕ} {k : Kind} {ts r : List Token} {xs : List (ItemOf k)} {d : ℕ} → Lists text k ts xs d r → Behind ts r
  list_behind (the_last {k = k} {us = us} x m) = then (item_behind x) (past_of k us)
  list_behind (one_more {k = k} {us = us} x m z) = then (item_behind x) (then (next_of k us) (list_behind z))

  pub item_behind : {text : List ℕ} {k : Kind} {ts r : List Token} {x : ItemOf k} {d : ℕ} → ItemBy text k ts x d r → Behind ts r
  item_behind (an_expression x) = part_behind x
  item_behind (a_set_field p q x) = then one (then one (part_behind x))
  item_behind (a_pun p q) = one
  item_behind (an_arm x f z) = then (pattern_behind x) (then (guard_behind f) (part_behind z))
  item_behind (a_bind x f q z) = then (target_behind x) (then (result_behind f) (then one (part_behind z)))
