-- Each expression has a depth of one at least, and what goes on behind one makes it no less deep.
use Rattle.std.proofs.Common.{ℕ, ◌<◌, ◌≤◌, Bool, List, Option, arith}
use Rattle.ml_lexer.specs.declared.token.Token.{Token}
use Rattle.ml_cursor.specs.declared.front.Front.{Front}
use Rattle.ml_tree.specs.declared.expr.Expr.{Expr}
use Rattle.ml_grammar.specs.declared.looks.AtomLead.{AtomLead}
use Rattle.ml_grammar.specs.declared.looks.Suffix.{Suffix}
use Rattle.ml_grammar.specs.declared.looks.Lead.{Lead}
use Rattle.ml_grammar.specs.declared.looks.Joint.{Joint}
use Rattle.ml_grammar.specs.declared.looks.ListKind.{ListKind}
use Rattle.ml_grammar.specs.Grammar.{Part, Reads, AtomBy, SuffixBy, ListedBy, LevelBy, OperandBy, ConBy, an_atom, a_simple, an_operand, a_level, a_list_of, a_leaf, a_text, a_paren, a_typed, a_begin, a_list, a_record, no_suffix, a_field, an_index, alone, several, no_operator, to_left, to_right, an_apply, a_constructor, a_minus, a_word, an_overwrite, a_let, a_borrow, a_match, a_function, a_fun, an_if, an_exclave, a_block, a_cell}

pub suffix_grows : {text : List ℕ} {l : Suffix} {ts r : List Token} {a e : Expr} {da d : ℕ} → SuffixBy text l ts a da e d r → da ≤ d
suffix_grows no_suffix = omega arith
suffix_grows (a_field p q x) = let i = suffix_grows x in omega arith
suffix_grows (an_index i p x) = let j = suffix_grows x in omega arith

pub level_grows : {text : List ℕ} {k : ℕ} {b : Bool} {o : Option Joint} {ts r : List Token} {a e : Expr} {da d : ℕ} → LevelBy text k b o ts a da e d r → da ≤ d
level_grows no_operator = omega arith
level_grows (to_left y x) = let i = level_grows x in omega arith
level_grows (to_right x) = omega arith

pub listed_grows : {text : List ℕ} {q : ListKind} {b : Bool} {ts r : List Token} {a e : Expr} {da d : ℕ} → ListedBy text q b ts a da e d r → da ≤ d
listed_grows alone = omega arith
listed_grows (several x) = omega arith

pub atom_positive : {text : List ℕ} {l : AtomLead} {ts r : List Token} {e : Expr} {d : ℕ} → AtomBy text l ts e d r → 0 < d
atom_positive a_leaf = omega arith
atom_positive (a_text p x) = omega arith
atom_positive (a_paren x p) = omega arith
atom_positive (a_typed x p t q) = omega arith
atom_positive (a_begin x p) = omega arith
atom_positive (a_list x p) = omega arith
atom_positive (a_record x p) = omega arith

pub con_positive : {text : List ℕ} {f : Front} {ts r : List Token} {e : Expr} {d : ℕ} → ConBy text f ts e d r → 0 < d
con_positive (a_block x) = omega arith
con_positive (a_cell x p y q) = omega arith

mutual
  pub positive : {text : List ℕ} {p : Part} {ts r : List Token} {e : Expr} {d : ℕ} → Reads text p ts e d r → 0 < d
  positive (an_atom x) = atom_positive x
  positive (a_simple x g) = let i = positive x in let j = suffix_grows g in omega arith
  positive (an_operand x) = operand_positive x
  positive (a_level x g) = let i = positive x in let j = level_grows g in omega arith
  positive (a_list_of x g) = let i = positive x in let j = listed_grows g in omega arith

  pub operand_positive : {text : List ℕ} {l : Lead} {ts r : List Token} {e : Expr} {d : ℕ} → OperandBy text l ts e d r → 0 < d
  operand_positive (an_apply x) = positive x
  operand_positive (a_constructor x) = con_positive x
  operand_positive (a_minus x) = omega arith
  operand_positive (a_word x) = omega arith
  operand_positive (an_overwrite p q x) = omega arith
  operand_positive (a_let x p z) = omega arith
  operand_positive (a_borrow n p x) = omega arith
  operand_positive (a_match x p z) = omega arith
  operand_positive (a_function x) = omega arith
  operand_positive (a_fun x p z) = omega arith
  operand_positive (an_if x p z n) = omega arith
  operand_positive (an_exclave x) = omega arith
