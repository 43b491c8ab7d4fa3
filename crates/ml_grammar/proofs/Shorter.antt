-- What follows a part is shorter than what it was read from.
use Rattle.std.proofs.Common.{◌≡◌, ℕ, ◌<◌, ◌≤◌, Bool, true, false, List, [], ◌∷◌, drop, length, Option, refl, subst, ap, sym, ◌∙◌, arith, cond}
use Rattle.oxml_base.specs.declared.span.Span.{Span}
use Rattle.ml_lexer.specs.declared.token.Token.{Token}
use Rattle.ml_cursor.specs.declared.front.Front.{Front}
use Rattle.ml_cursor.specs.declared.front.Front.TheVariants as F
use Rattle.ml_cursor.specs.Places.{Takes}
use Rattle.ml_tree.specs.declared.types.TyExpr.{TyExpr}
use Rattle.ml_tree.specs.declared.pattern.Pat.{Pat}
use Rattle.ml_tree.specs.declared.pattern.Param.{Param}
use Rattle.ml_tree.specs.declared.expr.Expr.{Expr}
use Rattle.ml_parse_types.proofs.Shorter.{length-drop, drop_one, type_rest}
use Rattle.ml_parse_patterns.proofs.Shorter.{shorter as pattern_shorter, params_shorter}
use Rattle.ml_grammar.specs.declared.looks.Leaf.{Leaf}
use Rattle.ml_grammar.specs.declared.looks.Leaf.TheVariants as L
use Rattle.ml_grammar.specs.declared.looks.AtomLead.{AtomLead}
use Rattle.ml_grammar.specs.declared.looks.AtomLead.TheVariants as A
use Rattle.ml_grammar.specs.declared.looks.Suffix.{Suffix}
use Rattle.ml_grammar.specs.declared.looks.Lead.{Lead}
use Rattle.ml_grammar.specs.declared.looks.Lead.TheVariants as O
use Rattle.ml_grammar.specs.declared.looks.Joint.{Joint}
use Rattle.ml_grammar.specs.declared.looks.ListKind.{ListKind}
use Rattle.ml_grammar.specs.declared.looks.ListKind.TheVariants as Q
use Rattle.ml_grammar.specs.Looks.{atom_lead, lead, next, behind, behind_statements, behind_semi, behind_bar, behind_rec}
use Rattle.ml_grammar.specs.Trees.{width}
use Rattle.ml_grammar.specs.Grammar.{Part, Kind, ItemOf, exprs, fields, arms, binds, to_next, past, ResultBy, TargetBy, Borrows, borrows, no_result, result, function_target, pattern_target, Reads, AtomBy, SuffixBy, ListedBy, LevelBy, OperandBy, ConBy, ElseBy, GuardBy, Lists, ItemBy, an_atom, a_simple, an_operand, a_level, a_list_of, a_leaf, a_text, a_paren, a_typed, a_begin, a_list, a_record, no_suffix, a_field, an_index, alone, several, no_operator, to_left, to_right, an_apply, a_constructor, a_minus, a_word, an_overwrite, a_let, a_borrow, a_match, a_function, a_fun, an_if, an_exclave, a_block, a_cell, no_else, an_else, no_guard, a_guard, the_last, one_more, an_expression, a_set_field, a_pun, an_arm, a_bind}
use Rattle.ml_grammar.specs.Readings.{Infix, infix_of, OneSuffix, one_field, one_index}

takes_rest : {w : Front} {ts r : List Token} {s : Span} → Takes w ts r s → length r ≤ length ts
takes_rest {ts = ts} t = let e = ap length t.rest_is in let l = length-drop 1 ts in omega arith

or_drop : (b : Bool) (ts : List Token) → length (cond b (drop 1 ts) ts) ≤ length ts
or_drop true ts = length-drop 1 ts
or_drop false ts = omega arith

statements_rest : (ts : List Token) → length (behind_statements ts) ≤ length ts
unfolding behind_statements
statements_rest ts = or_drop _ ts

semi_rest : (ts : List Token) → length (behind_semi ts) ≤ length ts
unfolding behind_semi
semi_rest ts = or_drop _ ts

pub bar_rest : (ts : List Token) → length (behind_bar ts) ≤ length ts
unfolding behind_bar
bar_rest ts = or_drop _ ts

pub rec_rest : (ts : List Token) → length (behind_rec ts) ≤ length ts
unfolding behind_rec
rec_rest ts = or_drop _ ts

next_rest : (q : ListKind) (ts : List Token) → length (next q ts) ≤ length ts
unfolding next
next_rest Q.Arguments ts = omega arith
next_rest Q.Parts ts = length-drop 1 ts
next_rest Q.Statements ts = length-drop 1 ts
next_rest Q.Elements ts = length-drop 1 ts

behind_rest : (q : ListKind) (ts : List Token) → length (behind q ts) ≤ length ts
unfolding behind
behind_rest Q.Arguments ts = omega arith
behind_rest Q.Parts ts = omega arith
behind_rest Q.Statements ts = statements_rest ts
behind_rest Q.Elements ts = statements_rest ts

pub to_next_rest : (k : Kind) (ts : List Token) → length (to_next k ts) ≤ length ts
to_next_rest (exprs q) ts = next_rest q ts
to_next_rest fields ts = length-drop 1 ts
to_next_rest arms ts = length-drop 1 ts
to_next_rest binds ts = length-drop 1 ts

past_rest : (k : Kind) (ts : List Token) → length (past k ts) ≤ length ts
past_rest (exprs q) ts = behind_rest q ts
past_rest fields ts = semi_rest ts
past_rest arms ts = omega arith
past_rest binds ts = omega arith

result_rest : {b : Bool} {ts r : List Token} {t : Option TyExpr} → ResultBy b ts t r → length r ≤ length ts
result_rest no_result = omega arith
result_rest {ts = ts} (result x) = let i = type_rest x in let l = length-drop 1 ts in omega arith

target_rest : {text : List ℕ} {b : Bool} {ts r : List Token} {p : Pat} {d c : ℕ} {ps : List Param} → TargetBy text b ts p d ps c r → length r < length ts
target_rest {ts = ts} (function_target x) = let i = params_shorter x in let l = length-drop 1 ts in omega arith
target_rest (pattern_target x) = pattern_shorter x

borrows_rest : {ts r : List Token} {y x : Span} → Borrows ts y x r → length r ≤ length ts
borrows_rest (borrows a b c d) = let i = takes_rest a in let j = takes_rest b in let k = takes_rest c in let l = takes_rest d in omega arith

abbrev no_tokens : List Token
no_tokens = []

leaf_rest : (l : Leaf) (ts : List Token) → length (drop (width l) ts) ≤ length (drop 1 ts)
leaf_rest l [] = nothing_left l
  where
    nothing_left : (l : Leaf) → length (drop (width l) no_tokens) ≤ 0
    nothing_left L.Path = omega arith
    nothing_left L.Unit = omega arith
    nothing_left L.Nil = omega arith
    nothing_left L.Int = omega arith
    nothing_left L.Char = omega arith
    nothing_left L.Name = omega arith
    nothing_left L.Upper = omega arith
    nothing_left L.True = omega arith
    nothing_left L.False = omega arith
leaf_rest L.Path (t ∷ ts) = length-drop 2 ts
leaf_rest L.Unit (t ∷ ts) = length-drop 1 ts
leaf_rest L.Nil (t ∷ ts) = length-drop 1 ts
leaf_rest L.Int (t ∷ ts) = omega arith
leaf_rest L.Char (t ∷ ts) = omega arith
leaf_rest L.Name (t ∷ ts) = omega arith
leaf_rest L.Upper (t ∷ ts) = omega arith
leaf_rest L.True (t ∷ ts) = omega arith
leaf_rest L.False (t ∷ ts) = omega arith

atom_of_nothing : atom_lead [] ≡ A.Nothing
unfolding atom_lead
atom_of_nothing = refl

lead_of_nothing : lead [] ≡ O.Application
unfolding lead
lead_of_nothing = refl

no_atom_of_nothing : {text : List ℕ} {ts r : List Token} {e : Expr} {d : ℕ} → AtomBy text A.Nothing ts e d r → ⊥
no_atom_of_nothing x = elim x [ ]

lower_nothing : {P : Type 0} → F.Lower ≡ F.Nothing → P
lower_nothing q = cc

dot_nothing : {P : Type 0} → F.Dot ≡ F.Nothing → P
dot_nothing q = cc

mutual
  pub shorter : {text : List ℕ} {p : Part} {ts r : List Token} {e : Expr} {d : ℕ} → Reads text p ts e d r → length r < length ts
  shorter {text = text} (an_atom {ts = []} {rest = r} {e = e} {d = d} x) = absurd (no_atom_of_nothing (subst (λ l. AtomBy text l [] e d r) atom_of_nothing x))
  shorter (an_atom {ts = t ∷ ts} x) = let i = atom_rest x in omega arith
  shorter (a_simple x g) = let i = shorter x in let j = suffix_rest g in omega arith
  shorter (an_operand {ts = []} x) = operand_of_nothing x lead_of_nothing
  shorter (an_operand {ts = t ∷ ts} x) = operand_rest x
  shorter (a_level x g) = let i = shorter x in let j = level_rest g in omega arith
  shorter (a_list_of x g) = let i = shorter x in let j = listed_rest g in omega arith

  atom_rest : {text : List ℕ} {l : AtomLead} {ts r : List Token} {e : Expr} {d : ℕ} → AtomBy text l ts e d r → length r ≤ length (drop 1 ts)
  atom_rest (a_leaf {l = l} {ts = ts}) = leaf_rest l ts
  atom_rest (a_text p x) = omega arith
  atom_rest (a_paren x p) = let i = shorter x in let j = takes_rest p in omega arith
  atom_rest (a_typed x p t q) = let i = shorter x in let j = takes_rest p in let k = type_rest t in let l = takes_rest q in omega arith
  atom_rest (a_begin x p) = let i = shorter x in let j = takes_rest p in omega arith
  atom_rest (a_list x p) = let i = list_shorter x in let j = takes_rest p in omega arith
  atom_rest (a_record x p) = let i = list_shorter x in let j = takes_rest p in omega arith

  suffix_rest : {text : List ℕ} {l : Suffix} {ts r : List Token} {a e : Expr} {da d : ℕ} → SuffixBy text l ts a da e d r → length r ≤ length ts
  suffix_rest no_suffix = omega arith
  suffix_rest (a_field p q x) = let i = takes_rest p in let j = takes_rest q in let k = suffix_rest x in omega arith
  suffix_rest (an_index {us = us} x p y) =
      let i = shorter x in let j = takes_rest p in let k = suffix_rest y in let l = length-drop 1 us in let m = length-drop 1 (drop 1 us) in omega arith

  listed_rest : {text : List ℕ} {q : ListKind} {b : Bool} {ts r : List Token} {a e : Expr} {da d : ℕ} → ListedBy text q b ts a da e d r → length r ≤ length ts
  listed_rest (alone {q = q} {us = us}) = behind_rest q us
  listed_rest (several {q = q} {us = us} x) = let i = list_shorter x in let l = next_rest q us in omega arith

  level_rest : {text : List ℕ} {k : ℕ} {b : Bool} {o : Option Joint} {ts r : List Token} {a e : Expr} {da d : ℕ} → LevelBy text k b o ts a da e d r → length r ≤ length ts
  level_rest no_operator = omega arith
  level_rest (to_left {us = us} x y) = let i = shorter x in let j = level_rest y in let l = length-drop 1 us in omega arith
  level_rest (to_right {us = us} x) = let i = shorter x in let l = length-drop 1 us in omega arith

  operand_of_nothing : {text : List ℕ} {l : Lead} {r : List Token} {e : Expr} {d : ℕ} → OperandBy text l [] e d r → l ≡ O.Application → length r < 0
  operand_of_nothing (an_apply x) q = shorter x
  operand_of_nothing (a_constructor x) q = (cc)
  operand_of_nothing (a_minus x) q = (cc)
  operand_of_nothing (a_word x) q = (cc)
  operand_of_nothing (an_overwrite p1 p2 x) q = (cc)
  operand_of_nothing (a_let x p z) q = (cc)
  operand_of_nothing (a_borrow n p x) q = (cc)
  operand_of_nothing (a_match x p z) q = (cc)
  operand_of_nothing (a_function x) q = (cc)
  operand_of_nothing (a_fun x p z) q = (cc)
  operand_of_nothing (an_if x p z n) q = (cc)
  operand_of_nothing (an_exclave x) q = (cc)

  operand_rest : {text : List ℕ} {l : Lead} {t : Token} {ts r : List Token} {e : Expr} {d : ℕ} → OperandBy text l (t ∷ ts) e d r → length r < length (t ∷ ts)
  operand_rest (an_apply x) = shorter x
  operand_rest (a_constructor x) = let i = con_rest x in omega arith
  operand_rest (a_minus x) = let i = shorter x in omega arith
  operand_rest (a_word x) = let i = shorter x in omega arith
  operand_rest (an_overwrite {vs = vs} p1 p2 x) = let i = takes_rest p1 in let j = takes_rest p2 in let k = con_rest x in let l = length-drop 1 vs in omega arith
  operand_rest {ts = ts} (a_let {us = us} x p z) = let i = list_shorter x in let j = rec_rest ts in let k = shorter z in let l = length-drop 1 us in omega arith
  operand_rest (a_borrow {us = us} n p x) = let i = borrows_rest n in let j = shorter x in let l = length-drop 1 us in omega arith
  operand_rest (a_match {us = us} x p z) = let i = shorter x in let j = list_shorter z in let k = bar_rest (drop 1 us) in let l = length-drop 1 us in omega arith
  operand_rest {ts = ts} (a_function x) = let i = list_shorter x in let k = bar_rest ts in omega arith
  operand_rest (a_fun {us = us} x p z) = let i = params_shorter x in let j = shorter z in let l = length-drop 1 us in omega arith
  operand_rest (an_if {us = us} x p z n) = let i = shorter x in let j = shorter z in let k = else_rest n in let l = length-drop 1 us in omega arith
  operand_rest (an_exclave x) = let i = shorter x in omega arith

  con_rest : {text : List ℕ} {f : Front} {ts r : List Token} {e : Expr} {d : ℕ} → ConBy text f ts e d r → length r ≤ length (drop 1 ts)
  con_rest (a_block x) = let i = shorter x in omega arith
  con_rest (a_cell {us = us} x p y q) = let i = shorter x in let j = shorter y in let k = takes_rest q in let l = length-drop 1 us in omega arith

  else_rest : {text : List ℕ} {b : Bool} {ts r : List Token} {o : Option Expr} {d : ℕ} → ElseBy text b ts o d r → length r ≤ length ts
  else_rest no_else = omega arith
  else_rest (an_else {ts = ts} x) = let i = shorter x in let l = length-drop 1 ts in omega arith

  guard_rest : {text : List ℕ} {f : Front} {ts r : List Token} {o : Option Expr} {d : ℕ} → GuardBy text f ts o d r → length r ≤ length ts
  guard_rest (no_guard {ts = ts}) = length-drop 1 ts
  guard_rest (a_guard {ts = ts} {us = us} x p) = let i = shorter x in let l = length-drop 1 ts in let m = length-drop 1 us in omega arith

  pub list_shorter : {text : List ℕ} {k : Kind} {ts r : List Token} {xs : List (ItemOf k)} {d : ℕ} → Lists text k ts xs d r → length r < length ts
  list_shorter (the_last {k = k} {us = us} x m) = let i = item_shorter x in let l = past_rest k us in omega arith
  list_shorter (one_more {k = k} {us = us} x m y) = let i = item_shorter x in let j = list_shorter y in let l = to_next_rest k us in omega arith

  pub item_shorter : {text : List ℕ} {k : Kind} {ts r : List Token} {x : ItemOf k} {d : ℕ} → ItemBy text k ts x d r → length r < length ts
  item_shorter (an_expression x) = shorter x
  item_shorter (a_set_field {ts = ts} p q x) = let i = shorter x in let l = length-drop 1 ts in let m = length-drop 1 (drop 1 ts) in omega arith
  item_shorter (a_pun {ts = ts} p q) = drop_one ts (λ e. lower_nothing (sym p ∙ e))
  item_shorter (an_arm x g z) = let i = pattern_shorter x in let j = guard_rest g in let k = shorter z in omega arith
  item_shorter (a_bind {vs = vs} x t p z) = let i = target_rest x in let j = result_rest t in let k = shorter z in let l = length-drop 1 vs in omega arith

pub suffix_shorter : {text : List ℕ} {l : Suffix} {ts r : List Token} {a e : Expr} {da d : ℕ} → OneSuffix text a da l ts e d r → length r < length ts
suffix_shorter (one_field {ts = ts} p q) =
    let i = takes_rest q in
    let e = ap length p.rest_is in
    let l = drop_one ts (λ e. dot_nothing (sym p.stands ∙ e)) in
    omega arith
suffix_shorter (one_index {ts = ts} x p) = let i = shorter x in let j = takes_rest p in let l = length-drop 1 ts in let m = length-drop 1 (drop 1 ts) in omega arith

pub infix_shorter : {text : List ℕ} {n : ℕ} {o : Joint} {ts r : List Token} {a e : Expr} {da d : ℕ} → Infix text n o a da ts e d r → length r < length ts
infix_shorter (infix_of {ts = ts} x) = let i = shorter x in let l = length-drop 1 ts in omega arith
