-- An expression stands where its tokens do, and its parts lie among them.
use Rattle.std.proofs.Common.{◌≡◌, ℕ, ◌+◌, ◌-◌, ◌<◌, ◌≤◌, Bool, List, ◌∷◌, drop, length, Option, refl, sym, ◌∙◌, subst, arith}
use Rattle.std.specs.Prelude.{map}
use Rattle.ml_lexer.specs.declared.token.Token.{Token}
use Rattle.ml_cursor.specs.declared.front.Front.{Front}
use Rattle.ml_cursor.specs.Places.{span, first_span}
use Rattle.ml_tree.specs.declared.types.TyExpr.{TyExpr}
use Rattle.ml_tree.specs.declared.pattern.Pat.{Pat}
use Rattle.ml_tree.specs.declared.pattern.Param.{Param}
use Rattle.ml_tree.specs.declared.pattern.ConName.TheVariants.{Named}
use Rattle.ml_tree.specs.declared.expr.Expr.{Expr}
use Rattle.ml_parse_types.proofs.Shorter.{length-drop}
use Rattle.ml_parse_patterns.proofs.Shorter.{params_shorter}
use Rattle.ml_grammar.specs.declared.looks.AtomLead.{AtomLead}
use Rattle.ml_grammar.specs.declared.looks.Suffix.{Suffix}
use Rattle.ml_grammar.specs.declared.looks.Lead.{Lead}
use Rattle.ml_grammar.specs.declared.looks.Joint.{Joint}
use Rattle.ml_grammar.specs.declared.looks.Joint.TheVariants.{Pair}
use Rattle.ml_grammar.specs.declared.looks.ListKind.{ListKind}
use Rattle.ml_grammar.specs.Looks.{second, atom_lead, is_rec, next, behind_bar, behind_rec}
use Rattle.ml_grammar.specs.Trees.{name_pattern, start_of, end_of, end_behind, end_of_arm, end_of_branches, joined, width}
use Rattle.ml_grammar.proofs.Shorter.{shorter, list_shorter}
use Rattle.ml_grammar.specs.Grammar.{Part, Kind, ItemOf, binds, ResultBy, no_result, result, TargetBy, function_target, pattern_target, Reads, AtomBy, SuffixBy, ListedBy, LevelBy, OperandBy, ConBy, ElseBy, GuardBy, Lists, ItemBy, an_atom, a_simple, an_operand, a_level, a_list_of, a_leaf, a_text, a_paren, a_typed, a_begin, a_list, a_record, no_suffix, a_field, an_index, alone, several, no_operator, to_left, to_right, an_apply, a_constructor, a_minus, a_word, an_overwrite, a_let, a_borrow, a_match, a_function, a_fun, an_if, an_exclave, a_block, a_cell, no_else, an_else, no_guard, a_guard, the_last, one_more, an_expression, a_set_field, a_pun, an_arm, a_bind}
use Rattle.tree_laws.specs.Spans.{both, all, expr_edges, pattern_edges, param_edges, arm_edges, bind_edges, field_edges, result_edges}
use Rattle.tree_laws.proofs.spans.Behind.{Behind, behind_less, one, then, next_to, token, bar, rec_word, next_one, last_one, next_of, past_of}
use Rattle.tree_laws.proofs.spans.TypesBehind.{type_behind}
use Rattle.tree_laws.proofs.spans.PatternsBehind.{pattern_behind, params_behind}
use Rattle.tree_laws.proofs.spans.PartsBehind.{result_behind, target_behind, borrows_behind, part_behind, guard_behind, list_behind, item_behind}
use Rattle.tree_laws.proofs.Rests.{lower_first}
use Rattle.tree_laws.proofs.spans.Fits.{Fits, Fit, fits_none, fits_both, widened, named_fits, token_fits}
use Rattle.tree_laws.proofs.spans.PatternFits.{pattern_fits, params_fit}
use Rattle.tree_laws.proofs.spans.TypeFits.{type_fits}
use Rattle.tree_laws.proofs.spans.Leaves.{leaf_last}
use Rattle.tree_laws.proofs.spans.PatternForms.{of_name_pattern}
use Rattle.tree_laws.proofs.spans.EdgeForms.{maybe_edges, of_text, of_leaf, of_block, of_paren, of_typed, of_list, of_fields, of_access, of_index, of_gathered, of_minus, of_worded, of_overwrite, of_let, of_borrow, of_match, of_function, of_fun, of_if, of_exclave, of_arm, of_bind, of_field, of_pun}
use Rattle.tree_laws.proofs.spans.Placed.{Placed, end_item, edges_of, Lies, lies, later, place, begun, closed, lies_behind, edged, arm_ends, bind_ends, regrouped, joined_placed}

-- the start of a function's bind is its name
name_fits : {w ts : List Token} {floor m : ℕ} → Behind w ts → m ≤ length ts → Fits w floor (length ts) m (pattern_edges (name_pattern (first_span ts)))
name_fits {w} {ts} {floor} {m} a le = subst (Fits w floor (length ts) m) (sym (of_name_pattern (first_span ts))) (named_fits a le)

-- what a bind gives its value lies among its tokens
target_fits : {text : List ℕ} {w ts r : List Token} {floor : ℕ} {b : Bool} {p : Pat} {ps : List Param} {d c : ℕ} → TargetBy text b ts p d ps c r → Behind w ts → Fit w floor ts r (both (pattern_edges p) (all (map param_edges ps)))
target_fits (function_target {ts = ts} x) a =
    let i = params_shorter x in let j = length-drop 1 ts in
    fits_both (name_fits a (omega arith)) (widened (params_fit x (then a one)) (omega arith) (omega arith))
target_fits {w = w} {r = r} {floor = floor} (pattern_target {ts = ts} x) a = fits_both (pattern_fits x a) (fits_none w floor (length ts) (length r + 1))

result_fits : {w ts r : List Token} {floor : ℕ} {b : Bool} {t : Option TyExpr} → ResultBy b ts t r → Behind w ts → Fit w floor ts r (result_edges t)
result_fits {w = w} {r = r} {floor = floor} (no_result {ts = ts}) a = fits_none w floor (length ts) (length r + 1)
result_fits (result {ts = ts} x) a = let i = length-drop 1 ts in widened (type_fits x (then a one)) i (omega arith)

-- the start of a list of one or more does not matter to its end
ends_same : {text : List ℕ} {k : Kind} {ts r : List Token} {xs : List (ItemOf k)} {d : ℕ} (n m : ℕ) → Lists text k ts xs d r → end_behind (end_item k) n xs ≡ end_behind (end_item k) m xs
ends_same n m (the_last x e) = refl
ends_same n m (one_more x e y) = refl

mutual
  pub part : {text : List ℕ} {w ts r : List Token} {p : Part} {e : Expr} {d : ℕ} (floor : ℕ) → Reads text p ts e d r → Behind w ts → Placed w floor ts r e
  part floor (an_atom x) a = atom_placed floor x refl a (shorter (an_atom x))
  part floor (a_simple x g) a = suffix_placed floor g a (part_behind x) (part floor x a)
  part floor (an_operand x) a = operand_placed floor x a
  part floor (a_level x g) a = level_placed floor g a (part_behind x) (part floor x a)
  part floor (a_list_of x g) a = listed_placed floor g a (part_behind x) (part floor x a)

  atom_placed : {text : List ℕ} {w ts r : List Token} {l : AtomLead} {e : Expr} {d : ℕ} (floor : ℕ) → AtomBy text l ts e d r → l ≡ atom_lead ts → Behind w ts → length r < length ts → Placed w floor ts r e
  atom_placed {w = w} floor (a_leaf {l = l} {ts = ts}) q a lt =
      let i = leaf_last l ts q lt in let j = length-drop (width l - 1) ts in
      place (of_leaf l ts) refl refl a (next_to (width l - 1) a) i j (fits_none w floor (length ts) (length (drop (width l - 1) ts)))
  atom_placed {w = w} floor (a_text {t = t} {rest = rest} {bytes = bytes} p x) q a lt =
      place (of_text t.span.start t.span.end bytes) refl refl a a lt (omega arith) (fits_none w floor (length (t ∷ rest)) (length (t ∷ rest)))
  atom_placed floor (a_paren {ts = ts} {us = us} {e = e} {s = s} x p) q a lt =
      let h = part floor x (then a one) in let i = length-drop 1 ts in let j = shorter x in
      closed (of_paren (first_span ts).start s.end e) refl a (then a (then one (part_behind x))) p (λ h. cc) (omega arith) (widened h.fits (omega arith) (omega (arith, h.after)))
  atom_placed floor (a_typed {ts = ts} {us = us} {vs = vs} {ws = ws} {e = e} {t = t} {s = s} x p u z) q a lt =
      let h = part floor x (then a one) in
      let b : Behind us ws = then (token p) (type_behind u) in
      let c : Behind ts vs = then one (then (part_behind x) (token p)) in
      let i = length-drop 1 ts in let j = shorter x in let k = behind_less b in
      closed (of_typed (first_span ts).start s.end e t) refl a (then a (then one (then (part_behind x) b))) z (λ h. cc) (omega arith)
      (fits_both (widened h.fits (omega arith) (omega (arith, h.after))) (widened (type_fits u (then a c)) (behind_less c) (omega arith)))
  atom_placed floor (a_begin {ts = ts} {us = us} {e = e} {s = s} x p) q a lt =
      let h = part floor x (then a one) in let i = length-drop 1 ts in let j = shorter x in
      closed (of_paren (first_span ts).start s.end e) refl a (then a (then one (part_behind x))) p (λ h. cc) (omega arith) (widened h.fits (omega arith) (omega (arith, h.after)))
  atom_placed {w = w} floor (a_list {ts = ts} {us = us} {es = es} {s = s} x p) q a lt =
      let h = list_placed floor x (then a one) in let i = length-drop 1 ts in let j = list_shorter x in
      let g : Fits w floor (length ts) (length us) (all (map expr_edges es)) = widened h.fits (omega arith) (omega (arith, h.after)) in
      closed (of_list (first_span ts).start s.end es) refl a (then a (then one (list_behind x))) p (λ h. cc) (omega arith) g
  atom_placed {w = w} floor (a_record {ts = ts} {us = us} {fs = fs} {s = s} x p) q a lt =
      let h = list_placed floor x (then a one) in let i = length-drop 1 ts in let j = list_shorter x in
      let g : Fits w floor (length ts) (length us) (all (map field_edges fs)) = widened h.fits (omega arith) (omega (arith, h.after)) in
      closed (of_fields (first_span ts).start s.end fs) refl a (then a (then one (list_behind x))) p (λ h. cc) (omega arith) g

  suffix_placed : {text : List ℕ} {w ts us r : List Token} {l : Suffix} {a e : Expr} {da d : ℕ} (floor : ℕ) → SuffixBy text l us a da e d r → Behind w ts → Behind ts us → Placed w floor ts us a → Placed w floor ts r e
  suffix_placed floor no_suffix a b h = h
  suffix_placed {ts = ts} floor (a_field {us = us} {vs = vs} {a = y} {name = name} p q x) a b h =
      let c : Behind ts vs = then b (token p) in let i = behind_less (token p) in let j = behind_less c in
      suffix_placed floor x a (then c (token q))
      (closed (of_access (start_of y) name.end y name) h.starts a (then a c) q (λ h. cc) j (widened h.fits (omega arith) (omega (arith, h.after))))
  suffix_placed {ts = ts} floor (an_index {us = us} {vs = vs} {a = y} {i = z} {s = s} x p g) a b h =
      let o : Behind us (drop 1 (drop 1 us)) = then one one in
      let c : Behind ts (drop 1 (drop 1 us)) = then b o in
      let d : Behind ts vs = then c (part_behind x) in
      let k = part floor x (then a c) in
      let i = behind_less o in let j = behind_less d in let l = behind_less c in let m = shorter x in
      suffix_placed floor g a (then d (token p))
      (closed (of_index (start_of y) s.end y z) h.starts a (then a d) p (λ h. cc) j
      (fits_both (widened h.fits (omega arith) (omega (arith, h.after))) (widened k.fits l (omega (arith, k.after)))))

  listed_placed : {text : List ℕ} {w ts us r : List Token} {q : ListKind} {b : Bool} {a e : Expr} {da d : ℕ} (floor : ℕ) → ListedBy text q b us a da e d r → Behind w ts → Behind ts us → Placed w floor ts us a → Placed w floor ts r e
  listed_placed floor (alone {q = q} {us = us}) a b h = later h (behind_less (last_one q us))
  listed_placed {w = w} {ts = ts} {r = r} floor (several {q = q} {us = us} {a = y} {es = es} x) a b h =
      let g : Lies w floor (next q us) r (end_behind end_of 0 es) (all (map expr_edges es)) = list_placed floor x (then a (then b (next_one q us))) in
      let i = behind_less (next_one q us) in let j = behind_less b in
      place (of_gathered q y es) h.starts g.ends a g.last_behind g.after (omega (arith, g.upto, i, j))
      (fits_both (widened h.fits (omega arith) (omega (arith, g.upto, h.after, i))) (widened g.fits (omega arith) (omega arith)))

  level_placed : {text : List ℕ} {w ts us r : List Token} {k : ℕ} {b : Bool} {o : Option Joint} {a e : Expr} {da d : ℕ} (floor : ℕ) → LevelBy text k b o us a da e d r → Behind w ts → Behind ts us → Placed w floor ts us a → Placed w floor ts r e
  level_placed floor no_operator a b h = h
  level_placed floor (to_left {o = o} {us = us} x y) a b h =
      level_placed floor y a (then b (then one (part_behind x))) (joined_placed o a h (length-drop 1 us) (part floor x (then a (then b one))))
  level_placed floor (to_right {o = o} {us = us} x) a b h = joined_placed o a h (length-drop 1 us) (part floor x (then a (then b one)))

  operand_placed : {text : List ℕ} {w ts r : List Token} {l : Lead} {e : Expr} {d : ℕ} (floor : ℕ) → OperandBy text l ts e d r → Behind w ts → Placed w floor ts r e
  operand_placed floor (an_apply x) a = part floor x a
  operand_placed floor (a_constructor x) a = con_placed floor x a
  operand_placed floor (a_minus {ts = ts} {a = y} x) a = begun (of_minus (first_span ts).start (end_of y) y) a (lies (part floor x (then a one))) (length-drop 1 ts)
  operand_placed floor (a_word {w = v} {ts = ts} {a = y} x) a = begun (of_worded (first_span ts).start (end_of y) v y) a (lies (part floor x (then a one))) (length-drop 1 ts)
  operand_placed floor (an_overwrite {ts = ts} {vs = vs} {e = y} {name = name} p q x) a =
      let b : Behind ts vs = then one (then (token p) (token q)) in
      begun (of_overwrite (first_span ts).start (end_of y) name y) a (lies (con_placed floor x (then a b))) (behind_less b)
  operand_placed {w = w} floor (a_let {ts = ts} {us = us} {bs = bs} {b = y} x p z) a =
      let b : Behind ts (behind_rec (drop 1 ts)) = then one (rec_word (drop 1 ts)) in
      let h : Lies w floor (behind_rec (drop 1 ts)) us (end_behind (end_item binds) 0 bs) (all (map bind_edges bs)) = list_placed floor x (then a b) in
      let i = length-drop 1 us in
      begun (of_let (first_span ts).start (end_of y) (is_rec (second ts)) bs y) a
      (lies_behind h.fits (omega (arith, h.after)) (omega (arith, h.after, h.upto)) (lies (part floor z (then a (then b (then (list_behind x) one))))))
      (behind_less b)
  operand_placed floor (a_borrow {ts = ts} {us = us} {y = y} {x = o} {b = z} q p x) a =
      let b : Behind ts (drop 1 us) = then one (then (borrows_behind q) one) in
      begun (of_borrow (first_span ts).start (end_of z) y o z) a (lies (part floor x (then a b))) (behind_less b)
  operand_placed {w = w} floor (a_match {ts = ts} {us = us} {rest = rest} {a = y} {cases = cases} x p z) a =
      let h = part floor x (then a one) in
      let c : Behind us (behind_bar (drop 1 us)) = then one (bar (drop 1 us)) in let i = behind_less c in
      let g : Lies w floor (behind_bar (drop 1 us)) rest (end_behind end_of_arm 0 cases) (all (map arm_edges cases)) = list_placed floor z (then a (then one (then (part_behind x) c))) in
      begun (of_match (first_span ts).start (end_behind end_of_arm 0 cases) y cases) a
      (lies_behind h.fits (omega (arith, h.after)) (omega (arith, h.after, h.upto)) g) (length-drop 1 ts)
  operand_placed {w = w} floor (a_function {ts = ts} {rest = rest} {cases = cases} x) a =
      let b : Behind ts (behind_bar (drop 1 ts)) = then one (bar (drop 1 ts)) in
      let g : Lies w floor (behind_bar (drop 1 ts)) rest (end_behind end_of_arm 0 cases) (all (map arm_edges cases)) = list_placed floor x (then a b) in
      begun (of_function (first_span ts).start (end_behind end_of_arm 0 cases) cases) a g (behind_less b)
  operand_placed {w = w} floor (a_fun {ts = ts} {us = us} {ps = ps} {b = y} x p z) a =
      let h : Fit w floor (drop 1 ts) us (all (map param_edges ps)) = params_fit x (then a one) in
      let i = length-drop 1 us in let j = params_shorter x in
      begun (of_fun (first_span ts).start (end_of y) ps y) a
      (lies_behind h (omega arith) (omega arith) (lies (part floor z (then a (then one (then (params_behind x) one)))))) (length-drop 1 ts)
  operand_placed floor (an_if {ts = ts} {us = us} {vs = vs} {c = c} {a = y} {o = o} x p z f) a =
      let h = part floor x (then a one) in
      let b : Behind (drop 1 ts) (drop 1 us) = then (part_behind x) one in
      let g = part floor z (then a (then one b)) in
      let i = length-drop 1 us in
      begun (of_if (first_span ts).start (end_of_branches y o) c y o) a
      (lies_behind h.fits (omega (arith, h.after)) (omega (arith, h.after, h.upto)) (branches_lie floor f (then a (then one (then b (part_behind z)))) g)) (length-drop 1 ts)
  operand_placed floor (an_exclave {ts = ts} {b = y} x) a = begun (of_exclave (first_span ts).start (end_of y) y) a (lies (part floor x (then a one))) (length-drop 1 ts)

  con_placed : {text : List ℕ} {w ts r : List Token} {f : Front} {e : Expr} {d : ℕ} (floor : ℕ) → ConBy text f ts e d r → Behind w ts → Placed w floor ts r e
  con_placed floor (a_block {ts = ts} {a = y} x) a = begun (of_block (first_span ts).start (end_of y) (Named (first_span ts)) y) a (lies (part floor x (then a one))) (length-drop 1 ts)
  con_placed {w = w} floor (a_cell {ts = ts} {us = us} {vs = vs} {a = y} {b = z} {s = s} x p g q) a =
      let b : Behind (drop 1 ts) (drop 1 us) = then (part_behind x) one in
      let h : Placed w floor (drop 1 ts) vs (joined Pair y z) = joined_placed Pair (then a one) (part floor x (then a one)) (length-drop 1 us) (part floor g (then a (then one b))) in
      let i = length-drop 1 ts in let c : Behind ts vs = then one (then b (part_behind g)) in let j = behind_less c in
      closed (of_paren (first_span ts).start s.end (joined Pair y z)) refl a (then a c) q (λ h. cc) j (widened h.fits i (omega (arith, h.after)))

  -- the branches of an `if`, the first one read before the `else`
  branches_lie : {text : List ℕ} {w ts us r : List Token} {b : Bool} {o : Option Expr} {a : Expr} {d : ℕ} (floor : ℕ) → ElseBy text b us o d r → Behind w us → Placed w floor ts us a → Lies w floor ts r (end_of_branches a o) (both (expr_edges a) (maybe_edges o))
  branches_lie {w = w} {ts = ts} floor no_else b h = record {
    last = h.last;
    last_behind = h.last_behind;
    after = h.after;
    upto = h.upto;
    ends = h.ends;
    fits = fits_both h.fits (fits_none w floor (length ts) (length h.last));
  }
  branches_lie floor (an_else {ts = us} x) b h =
      let i = length-drop 1 us in
      lies_behind h.fits (omega (arith, h.after)) (omega (arith, h.after, h.upto)) (lies (part floor x (then b one)))

  guard_fits : {text : List ℕ} {w ts r : List Token} {f : Front} {o : Option Expr} {d : ℕ} (floor : ℕ) → GuardBy text f ts o d r → Behind w ts → Fit w floor ts r (maybe_edges o)
  guard_fits {w = w} {r = r} floor (no_guard {ts = ts}) a = fits_none w floor (length ts) (length r + 1)
  guard_fits floor (a_guard {ts = ts} {us = us} x p) a =
      let h = part floor x (then a one) in let i = length-drop 1 us in
      widened h.fits (length-drop 1 ts) (omega (arith, h.after))

  pub list_placed : {text : List ℕ} {w ts r : List Token} {k : Kind} {xs : List (ItemOf k)} {d : ℕ} (floor : ℕ) → Lists text k ts xs d r → Behind w ts → Lies w floor ts r (end_behind (end_item k) 0 xs) (all (map (edges_of k) xs))
  list_placed {w = w} floor (the_last {k = k} {ts = ts} {us = us} x m) a =
      let h = item_placed floor x a in let i = behind_less (past_of k us) in
      record {
        last = h.last;
        last_behind = h.last_behind;
        after = omega (arith, h.after, i);
        upto = h.upto;
        ends = h.ends;
        fits = fits_both h.fits (fits_none w floor (length ts) (length h.last));
      }
  list_placed {w = w} {r = r} floor (one_more {k = k} {ts = ts} {us = us} {x = y} {xs = xs} x m z) a =
      let h = item_placed floor x a in let i = behind_less (next_of k us) in
      let g = list_placed floor z (then a (then (item_behind x) (next_of k us))) in
      let l : Lies w floor ts r (end_behind (end_item k) 0 xs) (both (edges_of k y) (all (map (edges_of k) xs))) = lies_behind h.fits (omega (arith, h.after, i)) (omega (arith, h.after, h.upto, i)) g in
      record {
        last = l.last;
        last_behind = l.last_behind;
        after = l.after;
        upto = l.upto;
        ends = ends_same (end_item k y) 0 z ∙ l.ends;
        fits = l.fits;
      }

  item_placed : {text : List ℕ} {w ts r : List Token} {k : Kind} {x : ItemOf k} {d : ℕ} (floor : ℕ) → ItemBy text k ts x d r → Behind w ts → Lies w floor ts r (end_item k x) (edges_of k x)
  item_placed floor (an_expression x) a = lies (part floor x a)
  item_placed {w = w} floor (a_set_field {ts = ts} {e = y} p q x) a =
      let h = lies (part floor x (then a (then one one))) in
      let i = length-drop 1 ts in let j = length-drop 1 (drop 1 ts) in let l = lower_first ts p in
      edged (of_field (first_span ts) y) refl (lies_behind (named_fits {m = length ts} a (omega arith)) (omega arith) (omega arith) h)
  item_placed {w = w} floor (a_pun {ts = ts} p q) a =
      let l = lower_first ts p in
      record {
        last = ts;
        last_behind = a;
        after = omega arith;
        upto = omega arith;
        ends = refl;
        fits = subst (Fits w floor (length ts) (length ts)) (sym (of_pun (first_span ts))) (fits_both (token_fits (first_span ts) a refl refl) (token_fits (span (first_span ts).start (first_span ts).end) a refl refl));
      }
  item_placed floor (an_arm {us = us} {vs = vs} {p = p} {g = g} {b = y} x f z) a =
      let h = part floor z (then a (then (pattern_behind x) (guard_behind f))) in
      let i = behind_less (pattern_behind x) in let j = behind_less (guard_behind f) in
      edged (of_arm p g y) (arm_ends p g y) (lies_behind (pattern_fits x a) (omega arith) (omega arith)
      (lies_behind (guard_fits floor f (then a (pattern_behind x))) (omega arith) (omega arith) (lies h)))
  item_placed floor (a_bind {us = us} {vs = vs} {p = p} {ps = ps} {t = t} {b = y} x f q z) a =
      let c = result_behind f in
      let b = then a (target_behind x) in
      let i = behind_less c in let j = behind_less (target_behind x) in let k = length-drop 1 vs in
      edged (of_bind p ps t y) (bind_ends p ps t y) (regrouped (pattern_edges p) (all (map param_edges ps)) (both (result_edges t) (expr_edges y))
      (lies_behind (target_fits x a) (omega arith) (omega arith)
      (lies_behind (result_fits f b) (omega arith) (omega arith) (lies (part floor z (then b (then c one)))))))
