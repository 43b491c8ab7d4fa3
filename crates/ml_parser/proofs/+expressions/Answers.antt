use Rattle.ml_parse_patterns.proofs.Relays.{relay, says, if_ok, if_err}
use Rattle.ml_grammar.proofs.Items.{action_deep, action_deep_behind, arm_deep, arm_deep_behind, list_deep, guard_deep, bind_deep, bind_deep_behind, value_deep, listed_first_deep, listed_alone, listed_deep, branches_deep, branches_deep_behind, field_no_name, pun_no_room, set_field_deep, set_field_read}
use Rattle.ml_parser.proofs.Bracketed.{action_found, arm_found, memory_out, list_starts, next_shorter, then, not_so, same_place, so, guard_found, no_guard_found, no_arrow, room, most, paren_unclosed, bind_found, no_result_found, value_found, took, pun_found, at_true, at_false}
use Rattle.std.proofs.Common.{sym, ◌∙◌, arith, refl, ◌≡◌, ◌+◌, suc, ◌≤◌, ◌-◌, true, false, rules, ◌<◌, ◌≢◌, drop, ap}
use Rattle.ml_grammar.proofs.Accepts.{bar_flag, bar_place, and_flag, rec_place, rec_flag}
use Rattle.ml_grammar.proofs.Handed.{list_goes, list_read, takes, behind_read, behind_deep, behind_other, until_read, until_deep, until_other, con_read, con_deep, no_con, overwrite_none}
use Rattle.ml_grammar.proofs.Atoms.{atom_read, atom_deep, no_atom, no_room, begin_deep, begin_not_closed, begin_read, list_deep as elements_deep, list_not_closed, list_read as elements_read, paren_deep, paren_read, fields_deep, fields_not_closed, fields_read, no_con_room, block_deep, block_read, cell_deep, cell_no_pair}
use Rattle.ml_grammar.proofs.Levels.{level_none, level_right_read, level_right_deep, operators_deep, operators_deep_behind, operators_step, infix_no_room, infix_deep, simple_init, simple_step, simple_done, simple_deep, simple_deep_behind, suffix_no_room}
use Rattle.ml_parser.proofs.Sequences.{level_left_read, level_left_deep, all_levels, tuple_read, tuple_deep, part_read, part_deep, parts_no_room, parts_read, then_place, else_place, second_read, left_init, left_step, left_done, left_deep, no_some, same_read, list_begins, part_too_deep, part_goes, part_last, part_shorter, index_too_deep, index_open, index_found, is_index, suffix_read, suffix_deep, field_missing, field_there}
use Rattle.ml_grammar.proofs.Shorter.{infix_shorter, suffix_shorter}
use Rattle.ml_grammar.proofs.OpenForms.{no_room as no_operand_room, borrow_deep_behind, borrow_read, exclave_deep, exclave_read, fun_deep, fun_deep_behind, fun_read, function_deep, function_read, if_deep, if_deep_behind, if_read, let_deep, let_deep_behind, let_read, match_deep, match_deep_behind, match_read, minus_deep, minus_read, operand_read, operand_deep, application_read, application_deep, constructor_read, constructor_deep, worded_deep, worded_read, overwrite_deep, overwrite_read}
use Rattle.ml_parser.proofs.Operands.{no_borrow, branches_found, else_absent, else_found, else_refused, cell_found, cell_deep_from, cell_open}
use Rattle.ml_cursor.specs.declared.front.Front.TheVariants as Front
use Rattle.ml_cursor.specs.Fronts.{front}
use Rattle.ml_tree.specs.declared.expr.Expr.{Expr}
use Rattle.ml_parse_forms.specs.declared.found.Found.{Found}
use Rattle.ml_grammar.specs.declared.looks.Suffix.TheVariants as S
use Rattle.ml_grammar.specs.Looks.{suffix}
use Rattle.ml_parser.proofs.+expressions.Goals as goal

pub arms::read_action-returns-in_err-guard-clause-err : goal.arms::read_action-returns-in_err-guard-clause-err
arms::read_action-returns-in_err-guard-clause-err t c = relay _ _ _ action_deep c.in_err-guard.ensures.err c.from_residual.ensures.1

pub arms::read_action-returns-in_err-body-clause-err : goal.arms::read_action-returns-in_err-body-clause-err
arms::read_action-returns-in_err-body-clause-err t c =
    relay _ _ _ (action_deep_behind c.in_ok-guard.ensures.ok.reads) c.in_err-body.ensures.err c.from_residual-in_err-body.ensures.1

pub arms::read_action-returns-clause-ok : goal.arms::read_action-returns-clause-ok
arms::read_action-returns-clause-ok t c = action_found c.in_ok-guard.ensures.ok c.in_ok-body.ensures.ok c.pair.ensures.tree c.pair.ensures.depth

pub arms::read_arm-returns-in_err-pat-clause-err : goal.arms::read_arm-returns-in_err-pat-clause-err
arms::read_arm-returns-in_err-pat-clause-err t c = relay _ _ _ arm_deep c.in_err-pat.ensures.err c.from_residual.ensures.1

pub arms::read_arm-returns-in_err-action-clause-err : goal.arms::read_arm-returns-in_err-action-clause-err
arms::read_arm-returns-in_err-action-clause-err t c =
    relay _ _ _ (arm_deep_behind c.in_ok-pat.ensures.ok.reads) c.in_err-action.ensures.err c.from_residual-in_err-action.ensures.1

pub arms::read_arm-returns-clause-ok : goal.arms::read_arm-returns-clause-ok
arms::read_arm-returns-clause-ok t c = arm_found c.in_ok-pat.ensures.ok c.in_ok-action.ensures.ok c.arm.ensures.tree c.arm.ensures.depth

pub arms::read_arms-arms-init : goal.arms::read_arms-arms-init
arms::read_arms-arms-init t c =
    record { so_far = list_starts (bar_place _ _ _ c.accept.ensures.stands c.accept.ensures.passed c.accept.ensures.stays) c.no_parts-list.ensures.tree c.no_parts-list.ensures.depth; small = omega (arith, c.no_parts-list.ensures.depth) }

pub arms::read_arms-returns-in_err-arm-clause-err : goal.arms::read_arms-returns-in_err-arm-clause-err
arms::read_arms-returns-in_err-arm-clause-err t c = relay _ _ _ (list_deep c.arms.invariant.so_far) c.in_err-arm.ensures.err c.from_residual.ensures.1

pub arms::read_arms-returns-in_err-list-clause-err : goal.arms::read_arms-returns-in_err-list-clause-err
arms::read_arms-returns-in_err-list-clause-err t c = memory_out _ _ _ c.in_err-list.ensures.err c.from_residual-in_err-list.ensures.1

pub arms::read_arms-arms-preserved : goal.arms::read_arms-arms-preserved
arms::read_arms-arms-preserved t c =
    let i = c.arms.invariant in
    let s = c.in_ok-arm.ensures.ok.small in
    record {
      so_far = list_goes i.so_far c.in_ok-arm.ensures.ok (sym (bar_flag _ c.accept-in-arms.ensures.stands) ∙ c.if-not-accept.false) (then c.accept-in-arms.ensures.passed c.if-not-accept.false) c.in_ok-list.ensures.tree c.in_ok-list.ensures.depth;
      small = omega (arith, i.small, s, c.in_ok-list.ensures.depth);
    }

pub arms::read_arms-arms-smaller : goal.arms::read_arms-arms-smaller
arms::read_arms-arms-smaller t c = next_shorter c.in_ok-arm.ensures.ok.reads (then c.accept-in-arms.ensures.passed c.if-not-accept.false)

pub arms::read_arms-returns-then-not-accept-clause-ok : goal.arms::read_arms-returns-then-not-accept-clause-ok
arms::read_arms-returns-then-not-accept-clause-ok t c =
    list_read c.arms.invariant.so_far c.arms.invariant.small c.in_ok-arm.ensures.ok (sym (bar_flag _ c.accept-in-arms.ensures.stands) ∙ c.if-not-accept.true) (same_place _ (c.accept-in-arms.ensures.stays (not_so c.accept-in-arms.ensures.stands c.if-not-accept.true))) c.in_ok-list.ensures.tree c.in_ok-list.ensures.depth

pub arms::read_guard-returns-in_err-read_until-clause-err : goal.arms::read_guard-returns-in_err-read_until-clause-err
arms::read_guard-returns-in_err-read_until-clause-err t c =
    relay _ _ _ (guard_deep (so c.accept.ensures.stands c.if-accept.true) (then c.accept.ensures.passed c.if-accept.true)) c.in_err-read_until.ensures.err c.from_residual.ensures.1

pub arms::read_guard-returns-then-accept-clause-ok : goal.arms::read_guard-returns-then-accept-clause-ok
arms::read_guard-returns-then-accept-clause-ok t c =
    guard_found (so c.accept.ensures.stands c.if-accept.true) (then c.accept.ensures.passed c.if-accept.true) c.in_ok-read_until.ensures.ok c.just.ensures.tree c.just.ensures.depth

pub arms::read_guard-returns-in_err-expect-clause-err : goal.arms::read_guard-returns-in_err-expect-clause-err
arms::read_guard-returns-in_err-expect-clause-err t c =
    let other = not_so c.accept.ensures.stands c.if-accept.false in
    relay _ _ _ (no_arrow other (same_place _ (c.accept.ensures.stays other))) c.in_err-expect.ensures.err c.from_residual-in_err-expect.ensures.1

pub arms::read_guard-returns-clause-ok : goal.arms::read_guard-returns-clause-ok
arms::read_guard-returns-clause-ok t c =
    no_guard_found (same_place _ (c.accept.ensures.stays (not_so c.accept.ensures.stands c.if-accept.false))) c.in_ok-expect.ensures.stands c.in_ok-expect.ensures.passed c.nothing.ensures.tree c.nothing.ensures.depth

pub atom::read_atom-returns-in-Paren-clause-err : goal.atom::read_atom-returns-in-Paren-clause-err
atom::read_atom-returns-in-Paren-clause-err t c = if_err c.read_paren.result (λ e s. says _ e (atom_deep c.in-Paren.ensures) s) c.read_paren.ensures.err

pub atom::read_atom-returns-in-Paren-clause-ok : goal.atom::read_atom-returns-in-Paren-clause-ok
atom::read_atom-returns-in-Paren-clause-ok t c = if_ok c.read_paren.result (λ f h. atom_read c.in-Paren.ensures h) c.read_paren.ensures.ok

pub atom::read_atom-returns-in-Begin-clause-err : goal.atom::read_atom-returns-in-Begin-clause-err
atom::read_atom-returns-in-Begin-clause-err t c = if_err c.read_begin.result (λ e s. says _ e (atom_deep c.in-Begin.ensures) s) c.read_begin.ensures.err

pub atom::read_atom-returns-in-Begin-clause-ok : goal.atom::read_atom-returns-in-Begin-clause-ok
atom::read_atom-returns-in-Begin-clause-ok t c = if_ok c.read_begin.result (λ f h. atom_read c.in-Begin.ensures h) c.read_begin.ensures.ok

pub atom::read_atom-returns-in-List-clause-err : goal.atom::read_atom-returns-in-List-clause-err
atom::read_atom-returns-in-List-clause-err t c = if_err c.read_elements.result (λ e s. says _ e (atom_deep c.in-List.ensures) s) c.read_elements.ensures.err

pub atom::read_atom-returns-in-List-clause-ok : goal.atom::read_atom-returns-in-List-clause-ok
atom::read_atom-returns-in-List-clause-ok t c = if_ok c.read_elements.result (λ f h. atom_read c.in-List.ensures h) c.read_elements.ensures.ok

pub atom::read_atom-returns-in-Record-clause-err : goal.atom::read_atom-returns-in-Record-clause-err
atom::read_atom-returns-in-Record-clause-err t c = if_err c.read_record.result (λ e s. says _ e (atom_deep c.in-Record.ensures) s) c.read_record.ensures.err

pub atom::read_atom-returns-in-Record-clause-ok : goal.atom::read_atom-returns-in-Record-clause-ok
atom::read_atom-returns-in-Record-clause-ok t c = if_ok c.read_record.result (λ f h. atom_read c.in-Record.ensures h) c.read_record.ensures.ok

pub atom::read_atom-returns-in-Leaf-clause-err : goal.atom::read_atom-returns-in-Leaf-clause-err
atom::read_atom-returns-in-Leaf-clause-err t c = if_err c.read_leaf.result (λ e s. says _ e (atom_deep c.in-Leaf.ensures) s) c.read_leaf.ensures.err

pub atom::read_atom-returns-in-Leaf-clause-ok : goal.atom::read_atom-returns-in-Leaf-clause-ok
atom::read_atom-returns-in-Leaf-clause-ok t c = if_ok c.read_leaf.result (λ f h. atom_read c.in-Leaf.ensures h) c.read_leaf.ensures.ok

pub atom::read_atom-returns-in-Text-clause-err : goal.atom::read_atom-returns-in-Text-clause-err
atom::read_atom-returns-in-Text-clause-err t c = if_err c.read_text.result (λ e s. says _ e (atom_deep c.in-Text.ensures) s) c.read_text.ensures.err

pub atom::read_atom-returns-in-Text-clause-ok : goal.atom::read_atom-returns-in-Text-clause-ok
atom::read_atom-returns-in-Text-clause-ok t c = if_ok c.read_text.result (λ f h. atom_read c.in-Text.ensures h) c.read_text.ensures.ok

pub atom::read_atom-returns-in-Nothing-clause-err : goal.atom::read_atom-returns-in-Nothing-clause-err
atom::read_atom-returns-in-Nothing-clause-err t c = (c.refusal_at.ensures, atom_deep c.in-Nothing.ensures no_atom)

pub atom::read_begin-returns-in_err-head-clause-err : goal.atom::read_begin-returns-in_err-head-clause-err
atom::read_begin-returns-in_err-head-clause-err t c = relay _ _ _ no_room c.in_err-head.ensures.err c.from_residual.ensures.1

pub atom::read_begin-returns-in_err-inner-clause-err : goal.atom::read_begin-returns-in_err-inner-clause-err
atom::read_begin-returns-in_err-inner-clause-err t c =
    relay _ _ _ (begin_deep c.in_ok-head.ensures.passed (most c.in_ok-head.head.below c.args.left c.in_ok-head.ensures.below)) c.in_err-inner.ensures.err c.from_residual-in_err-inner.ensures.1

pub atom::read_begin-returns-in_err-close_paren-clause-err : goal.atom::read_begin-returns-in_err-close_paren-clause-err
atom::read_begin-returns-in_err-close_paren-clause-err t c =
    relay _ _ _ (begin_not_closed c.in_ok-head.ensures.passed c.in_ok-inner.ensures.ok.reads) c.in_err-close_paren.ensures.err c.from_residual-in_err-close_paren.ensures.1

pub atom::read_begin-returns-clause-ok : goal.atom::read_begin-returns-clause-ok
atom::read_begin-returns-clause-ok t c =
    begin_read c.in_ok-head.ensures.passed c.in_ok-head.ensures.span (room c.in_ok-head.head.below c.args.left c.in_ok-head.ensures.below) c.in_ok-inner.ensures.ok (takes c.in_ok-close_paren.ensures.stands c.in_ok-close_paren.ensures.passed) c.in_ok-close_paren.ensures.tree c.in_ok-close_paren.ensures.depth

pub atom::read_elements-returns-in_err-head-clause-err : goal.atom::read_elements-returns-in_err-head-clause-err
atom::read_elements-returns-in_err-head-clause-err t c = relay _ _ _ no_room c.in_err-head.ensures.err c.from_residual.ensures.1

pub atom::read_elements-returns-in_err-list-clause-err : goal.atom::read_elements-returns-in_err-list-clause-err
atom::read_elements-returns-in_err-list-clause-err t c =
    relay _ _ _ (elements_deep c.in_ok-head.ensures.passed (most c.in_ok-head.head.below c.args.left c.in_ok-head.ensures.below)) c.in_err-list.ensures.err c.from_residual-in_err-list.ensures.1

pub atom::read_elements-returns-in_err-close_list-clause-err : goal.atom::read_elements-returns-in_err-close_list-clause-err
atom::read_elements-returns-in_err-close_list-clause-err t c =
    relay _ _ _ (list_not_closed c.in_ok-head.ensures.passed c.in_ok-list.ensures.ok.reads) c.in_err-close_list.ensures.err c.from_residual-in_err-close_list.ensures.1

pub atom::read_elements-returns-clause-ok : goal.atom::read_elements-returns-clause-ok
atom::read_elements-returns-clause-ok t c =
    elements_read c.in_ok-head.ensures.passed c.in_ok-head.ensures.span (room c.in_ok-head.head.below c.args.left c.in_ok-head.ensures.below) c.in_ok-list.ensures.ok (takes c.in_ok-close_list.ensures.stands c.in_ok-close_list.ensures.passed) c.in_ok-close_list.ensures.tree c.in_ok-close_list.ensures.depth

pub atom::read_paren-returns-in_err-head-clause-err : goal.atom::read_paren-returns-in_err-head-clause-err
atom::read_paren-returns-in_err-head-clause-err t c = relay _ _ _ no_room c.in_err-head.ensures.err c.from_residual.ensures.1

pub atom::read_paren-returns-in_err-inner-clause-err : goal.atom::read_paren-returns-in_err-inner-clause-err
atom::read_paren-returns-in_err-inner-clause-err t c =
    relay _ _ _ (paren_deep c.in_ok-head.ensures.passed (most c.in_ok-head.head.below c.args.left c.in_ok-head.ensures.below)) c.in_err-inner.ensures.err c.from_residual-in_err-inner.ensures.1

pub atom::read_paren-returns-in_err-close_parens-clause-err : goal.atom::read_paren-returns-in_err-close_parens-clause-err
atom::read_paren-returns-in_err-close_parens-clause-err t c =
    relay _ _ _ (paren_unclosed c.in_ok-head.ensures.passed c.in_ok-inner.ensures.ok.reads) c.in_err-close_parens.ensures.err c.from_residual-in_err-close_parens.ensures.1

pub atom::read_paren-returns-clause-ok : goal.atom::read_paren-returns-clause-ok
atom::read_paren-returns-clause-ok t c =
    paren_read c.in_ok-head.ensures.passed c.in_ok-head.ensures.span (room c.in_ok-head.head.below c.args.left c.in_ok-head.ensures.below) c.in_ok-inner.ensures.ok c.in_ok-close_parens.ensures.closes c.in_ok-close_parens.ensures.depth

pub atom::read_record-returns-in_err-head-clause-err : goal.atom::read_record-returns-in_err-head-clause-err
atom::read_record-returns-in_err-head-clause-err t c = relay _ _ _ no_room c.in_err-head.ensures.err c.from_residual.ensures.1

pub atom::read_record-returns-in_err-fields-clause-err : goal.atom::read_record-returns-in_err-fields-clause-err
atom::read_record-returns-in_err-fields-clause-err t c =
    relay _ _ _ (fields_deep c.in_ok-head.ensures.passed (most c.in_ok-head.head.below c.args.left c.in_ok-head.ensures.below)) c.in_err-fields.ensures.err c.from_residual-in_err-fields.ensures.1

pub atom::read_record-returns-in_err-close_record-clause-err : goal.atom::read_record-returns-in_err-close_record-clause-err
atom::read_record-returns-in_err-close_record-clause-err t c =
    relay _ _ _ (fields_not_closed c.in_ok-head.ensures.passed c.in_ok-fields.ensures.ok.reads) c.in_err-close_record.ensures.err c.from_residual-in_err-close_record.ensures.1

pub atom::read_record-returns-clause-ok : goal.atom::read_record-returns-clause-ok
atom::read_record-returns-clause-ok t c =
    fields_read c.in_ok-head.ensures.passed c.in_ok-head.ensures.span (room c.in_ok-head.head.below c.args.left c.in_ok-head.ensures.below) c.in_ok-fields.ensures.ok (takes c.in_ok-close_record.ensures.stands c.in_ok-close_record.ensures.passed) c.in_ok-close_record.ensures.tree c.in_ok-close_record.ensures.depth

pub bind::read_bind-returns-in_err-target-clause-err : goal.bind::read_bind-returns-in_err-target-clause-err
bind::read_bind-returns-in_err-target-clause-err t c = relay _ _ _ bind_deep c.in_err-target.ensures.err c.from_residual.ensures.1

pub bind::read_bind-returns-in_err-value-clause-err : goal.bind::read_bind-returns-in_err-value-clause-err
bind::read_bind-returns-in_err-value-clause-err t c =
    relay _ _ _ (bind_deep_behind c.in_ok-target.ensures.reads) c.in_err-value.ensures.err c.from_residual-in_err-value.ensures.1

pub bind::read_bind-returns-clause-ok : goal.bind::read_bind-returns-clause-ok
bind::read_bind-returns-clause-ok t c =
    bind_found c.in_ok-target.ensures.reads c.in_ok-target.ensures.pattern c.in_ok-target.ensures.params c.in_ok-value.ensures.ok c.bind.ensures.tree c.bind.ensures.depth

pub bind::read_binds-binds-init : goal.bind::read_binds-binds-init
bind::read_binds-binds-init t c =
    record { so_far = list_starts refl c.no_parts-list.ensures.tree c.no_parts-list.ensures.depth; small = omega (arith, c.no_parts-list.ensures.depth) }

pub bind::read_binds-returns-in_err-bind-clause-err : goal.bind::read_binds-returns-in_err-bind-clause-err
bind::read_binds-returns-in_err-bind-clause-err t c = relay _ _ _ (list_deep c.binds.invariant.so_far) c.in_err-bind.ensures.err c.from_residual.ensures.1

pub bind::read_binds-returns-in_err-list-clause-err : goal.bind::read_binds-returns-in_err-list-clause-err
bind::read_binds-returns-in_err-list-clause-err t c = memory_out _ _ _ c.in_err-list.ensures.err c.from_residual-in_err-list.ensures.1

pub bind::read_binds-binds-preserved : goal.bind::read_binds-binds-preserved
bind::read_binds-binds-preserved t c =
    let i = c.binds.invariant in
    let s = c.in_ok-bind.ensures.ok.small in
    record {
      so_far = list_goes i.so_far c.in_ok-bind.ensures.ok (sym (and_flag _ c.accept.ensures.stands) ∙ c.if-not-accept.false) (then c.accept.ensures.passed c.if-not-accept.false) c.in_ok-list.ensures.tree c.in_ok-list.ensures.depth;
      small = omega (arith, i.small, s, c.in_ok-list.ensures.depth);
    }

pub bind::read_binds-binds-smaller : goal.bind::read_binds-binds-smaller
bind::read_binds-binds-smaller t c = next_shorter c.in_ok-bind.ensures.ok.reads (then c.accept.ensures.passed c.if-not-accept.false)

pub bind::read_binds-returns-then-not-accept-clause-ok : goal.bind::read_binds-returns-then-not-accept-clause-ok
bind::read_binds-returns-then-not-accept-clause-ok t c =
    list_read c.binds.invariant.so_far c.binds.invariant.small c.in_ok-bind.ensures.ok (sym (and_flag _ c.accept.ensures.stands) ∙ c.if-not-accept.true) (same_place _ (c.accept.ensures.stays (not_so c.accept.ensures.stands c.if-not-accept.true))) c.in_ok-list.ensures.tree c.in_ok-list.ensures.depth

pub bind::read_value-returns-in_err-result-clause-err : goal.bind::read_value-returns-in_err-result-clause-err
bind::read_value-returns-in_err-result-clause-err t c = relay _ _ _ no_result_found c.in_err-result.ensures.err c.from_residual.ensures.1

pub bind::read_value-returns-in_err-body-clause-err : goal.bind::read_value-returns-in_err-body-clause-err
bind::read_value-returns-in_err-body-clause-err t c = relay _ _ _ (value_deep c.in_ok-result.ensures.ok) c.in_err-body.ensures.err c.from_residual-in_err-body.ensures.1

pub bind::read_value-returns-clause-ok : goal.bind::read_value-returns-clause-ok
bind::read_value-returns-clause-ok t c = value_found c.in_ok-result.ensures.ok c.in_ok-body.ensures.ok c.value.ensures.tree c.value.ensures.depth

pub expression::read_behind-returns-in_err-expect-clause-err : goal.expression::read_behind-returns-in_err-expect-clause-err
expression::read_behind-returns-in_err-expect-clause-err t c = relay _ _ _ behind_other c.in_err-expect.ensures.err c.from_residual.ensures.1

pub expression::read_behind-returns-in_err-read_parts-clause-err : goal.expression::read_behind-returns-in_err-read_parts-clause-err
expression::read_behind-returns-in_err-read_parts-clause-err t c = relay _ _ _ (behind_deep c.in_ok-expect.ensures.passed) c.in_err-read_parts.ensures.err c.from_residual-in_err-read_parts.ensures.1

pub expression::read_behind-returns-clause-ok : goal.expression::read_behind-returns-clause-ok
expression::read_behind-returns-clause-ok t c = behind_read c.in_ok-expect.ensures.stands c.in_ok-expect.ensures.passed c.in_ok-read_parts.ensures.ok

pub expression::read_level-returns-in_err-read_to_left-clause-err : goal.expression::read_level-returns-in_err-read_to_left-clause-err
expression::read_level-returns-in_err-read_to_left-clause-err t c =
    let above : c.args.lower + 1 ≡ suc c.args.lower = omega arith in
    relay _ _ _ (level_left_deep above (sym c.groups_left.ensures ∙ c.if-groups_left.true)) c.in_err-read_to_left.ensures.err c.from_residual.ensures.1

pub expression::read_level-returns-then-groups_left-clause-ok : goal.expression::read_level-returns-then-groups_left-clause-ok
expression::read_level-returns-then-groups_left-clause-ok t c =
    let above : c.args.lower + 1 ≡ suc c.args.lower = omega arith in
    level_left_read above (sym c.groups_left.ensures ∙ c.if-groups_left.true) c.in_ok-read_to_left.ensures.ok

pub expression::read_level-returns-in_err-read_second-in-Some-clause-err : goal.expression::read_level-returns-in_err-read_second-in-Some-clause-err
expression::read_level-returns-in_err-read_second-in-Some-clause-err t c =
    let above : c.args.lower + 1 ≡ suc c.args.lower = omega arith in
    relay _ _ _ (level_right_deep above (sym c.groups_left.ensures ∙ c.if-groups_left.false) (sym c.operator_at.ensures ∙ c.in-Some.is)) c.in_err-read_second-in-Some.ensures.err c.from_residual-in_err-read_second-in-Some.ensures.1

pub expression::read_level-returns-in_ok-read_second-in-Some-clause-ok : goal.expression::read_level-returns-in_ok-read_second-in-Some-clause-ok
expression::read_level-returns-in_ok-read_second-in-Some-clause-ok t c =
    let above : c.args.lower + 1 ≡ suc c.args.lower = omega arith in
    level_right_read above (sym c.groups_left.ensures ∙ c.if-groups_left.false) (sym c.operator_at.ensures ∙ c.in-Some.is) c.in_ok-read_second-in-Some.ensures.ok

pub expression::read_level-returns-in-None-clause-ok : goal.expression::read_level-returns-in-None-clause-ok
expression::read_level-returns-in-None-clause-ok t c =
    let above : c.args.lower + 1 ≡ suc c.args.lower = omega arith in
    level_none above (sym c.operator_at.ensures ∙ c.in-None.is) c.requires.small

pub expression::read_operators-returns-in_err-found-clause-err : goal.expression::read_operators-returns-in_err-found-clause-err
expression::read_operators-returns-in_err-found-clause-err t c =
    let first : 0 ≤ c.args.level = omega arith in
    relay _ _ _ (operators_deep first) c.in_err-found.ensures.err c.from_residual.ensures.1

pub expression::read_operators-levels-init : goal.expression::read_operators-levels-init
expression::read_operators-levels-init t c = c.in_ok-found.ensures.ok

pub expression::read_operators-returns-in_err-found-2-clause-err : goal.expression::read_operators-returns-in_err-found-2-clause-err
expression::read_operators-returns-in_err-found-2-clause-err t c =
    let below : suc c.levels.lower ≤ c.args.level = omega arith in
    relay _ _ _ (operators_deep_behind below c.levels.invariant.reads) c.in_err-found-2.ensures.err c.from_residual-in_err-found-2.ensures.1

pub expression::read_operators-levels-preserved : goal.expression::read_operators-levels-preserved
expression::read_operators-levels-preserved t c =
    let next : c.levels.lower + 1 ≡ suc c.levels.lower = omega arith in
    operators_step next c.levels.invariant.reads c.in_ok-found-2.ensures.ok

pub expression::read_operators-returns-clause-ok : goal.expression::read_operators-returns-clause-ok
expression::read_operators-returns-clause-ok t c =
    let last : c.levels.lower ≡ c.args.level = omega arith in
    all_levels last c.levels.invariant

pub expression::read_part-returns-in-Statements-clause-err : goal.expression::read_part-returns-in-Statements-clause-err
expression::read_part-returns-in-Statements-clause-err t c = if_err c.read_parts.result (λ e s. says _ e (tuple_deep c.in-Statements.is) s) c.read_parts.ensures.err

pub expression::read_part-returns-in-Statements-clause-ok : goal.expression::read_part-returns-in-Statements-clause-ok
expression::read_part-returns-in-Statements-clause-ok t c = if_ok c.read_parts.result (λ f h. tuple_read c.in-Statements.is h) c.read_parts.ensures.ok

pub expression::read_part-returns-in-Parts-clause-err : goal.expression::read_part-returns-in-Parts-clause-err
expression::read_part-returns-in-Parts-clause-err t c = if_err c.read_operators.result (λ e s. says _ e (part_deep c.in-Parts.is) s) c.read_operators.ensures.err

pub expression::read_part-returns-in-Parts-clause-ok : goal.expression::read_part-returns-in-Parts-clause-ok
expression::read_part-returns-in-Parts-clause-ok t c = if_ok c.read_operators.result (λ f h. part_read c.in-Parts.is h) c.read_operators.ensures.ok

pub expression::read_part-returns-in-Arguments-clause-err : goal.expression::read_part-returns-in-Arguments-clause-err
expression::read_part-returns-in-Arguments-clause-err t c = if_err c.read_simple.result (λ e s. says _ e (part_deep c.in-Arguments.is) s) c.read_simple.ensures.err

pub expression::read_part-returns-in-Arguments-clause-ok : goal.expression::read_part-returns-in-Arguments-clause-ok
expression::read_part-returns-in-Arguments-clause-ok t c = if_ok c.read_simple.result (λ f h. part_read c.in-Arguments.is h) c.read_simple.ensures.ok

pub expression::read_parts-returns-in_err-first-clause-err : goal.expression::read_parts-returns-in_err-first-clause-err
expression::read_parts-returns-in_err-first-clause-err t c = relay _ _ _ listed_first_deep c.in_err-first.ensures.err c.from_residual.ensures.1

pub expression::read_parts-returns-then-not-goes_on-clause-ok : goal.expression::read_parts-returns-then-not-goes_on-clause-ok
expression::read_parts-returns-then-not-goes_on-clause-ok t c =
    let ends : c.goes_on.result ≡ false = search rules in
    listed_alone c.in_ok-first.ensures.ok (sym c.goes_on.ensures.goes ∙ ends) (else_place _ ends c.goes_on.ensures.place)

pub expression::read_parts-returns-in_err-first-2-clause-err : goal.expression::read_parts-returns-in_err-first-2-clause-err
expression::read_parts-returns-in_err-first-2-clause-err t c =
    let goes : c.goes_on.result ≡ true = search rules in
    relay _ _ _ (parts_no_room c.in_ok-first.ensures.ok c.goes_on.ensures.goes goes) c.in_err-first-2.ensures.err c.from_residual-in_err-first-2.ensures.1

pub expression::read_parts-returns-in_err-others-clause-err : goal.expression::read_parts-returns-in_err-others-clause-err
expression::read_parts-returns-in_err-others-clause-err t c =
    let goes : c.goes_on.result ≡ true = search rules in
    let room : c.args.left ≤ c.args.left - 1 + 1 = omega arith in
    relay _ _ _ (listed_deep c.in_ok-first.ensures.ok.reads (sym c.goes_on.ensures.goes ∙ goes) (then_place _ goes c.goes_on.ensures.place) room) c.in_err-others.ensures.err c.from_residual-in_err-others.ensures.1

pub expression::read_parts-returns-clause-ok : goal.expression::read_parts-returns-clause-ok
expression::read_parts-returns-clause-ok t c =
    let goes : c.goes_on.result ≡ true = search rules in
    parts_read c.in_ok-first.ensures.ok c.goes_on.ensures.goes goes c.goes_on.ensures.place c.in_ok-first-2.ensures.same c.in_ok-first-2.ensures.small c.in_ok-others.ensures.ok c.in_ok-gathered.ensures.tree c.in_ok-gathered.ensures.depth

pub expression::read_second-returns-in_err-first-clause-err : goal.expression::read_second-returns-in_err-first-clause-err
expression::read_second-returns-in_err-first-clause-err t c = relay _ _ _ infix_no_room c.in_err-first.ensures.err c.from_residual.ensures.1

pub expression::read_second-returns-in_err-second-clause-err : goal.expression::read_second-returns-in_err-second-clause-err
expression::read_second-returns-in_err-second-clause-err t c =
    let room : c.args.left ≤ c.args.left - 1 + 1 = omega arith in
    relay _ _ _ (infix_deep c.pass.ensures room) c.in_err-second.ensures.err c.from_residual-in_err-second.ensures.1

pub expression::read_second-returns-clause-ok : goal.expression::read_second-returns-clause-ok
expression::read_second-returns-clause-ok t c = second_read c.pass.ensures c.in_ok-first.ensures.same c.in_ok-first.ensures.small c.in_ok-second.ensures.ok c.in_ok-infix.ensures.tree c.in_ok-infix.ensures.depth

pub expression::read_to_left-operators-init : goal.expression::read_to_left-operators-init
expression::read_to_left-operators-init t c = record { so_far = left_init; small = c.requires.small }

pub expression::read_to_left-returns-in_err-found-clause-err : goal.expression::read_to_left-returns-in_err-found-clause-err
expression::read_to_left-returns-in_err-found-clause-err t c =
    let above : c.args.lower + 1 ≡ suc c.args.lower = omega arith in
    relay _ _ _ (left_deep above (sym c.operator_at.ensures ∙ c.in-Some.is) c.operators.invariant.so_far) c.in_err-found.ensures.err c.from_residual.ensures.1

pub expression::read_to_left-operators-smaller : goal.expression::read_to_left-operators-smaller
expression::read_to_left-operators-smaller t c = infix_shorter c.in_ok-found.ensures.ok.reads

pub expression::read_to_left-operators-preserved : goal.expression::read_to_left-operators-preserved
expression::read_to_left-operators-preserved t c =
    let above : c.args.lower + 1 ≡ suc c.args.lower = omega arith in
    record {
      so_far = left_step above (sym c.operator_at.ensures ∙ c.in-Some.is) c.operators.invariant.so_far c.in_ok-found.ensures.ok;
      small = c.in_ok-found.ensures.ok.small;
    }

pub expression::read_to_left-returns-clause-ok : goal.expression::read_to_left-returns-clause-ok
expression::read_to_left-returns-clause-ok t c =
    let above : c.args.lower + 1 ≡ suc c.args.lower = omega arith in
    left_done above (sym c.operator_at.ensures ∙ no_some _ c.in_default.not-Some) c.operators.invariant.so_far c.operators.invariant.small

pub expression::read_until-returns-in_err-found-clause-err : goal.expression::read_until-returns-in_err-found-clause-err
expression::read_until-returns-in_err-found-clause-err t c = relay _ _ _ until_deep c.in_err-found.ensures.err c.from_residual.ensures.1

pub expression::read_until-returns-in_err-closed_by-clause-err : goal.expression::read_until-returns-in_err-closed_by-clause-err
expression::read_until-returns-in_err-closed_by-clause-err t c = relay _ _ _ (until_other c.in_ok-found.ensures.ok.reads) c.in_err-closed_by.ensures.err c.from_residual-in_err-closed_by.ensures.1

pub expression::read_until-returns-clause-ok : goal.expression::read_until-returns-clause-ok
expression::read_until-returns-clause-ok t c = same_read c.in_ok-closed_by.ensures.same (until_read c.in_ok-found.ensures.ok c.in_ok-closed_by.ensures.stands c.in_ok-closed_by.ensures.passed)

pub list::read_list-parts-init : goal.list::read_list-parts-init
list::read_list-parts-init t c = record { so_far = list_begins c.no_parts-list.ensures.tree c.no_parts-list.ensures.depth; small = omega (arith, c.no_parts-list.ensures.depth) }

pub list::read_list-returns-in_err-part-clause-err : goal.list::read_list-returns-in_err-part-clause-err
list::read_list-returns-in_err-part-clause-err t c = relay _ _ _ (part_too_deep c.parts.invariant.so_far) c.in_err-part.ensures.err c.from_residual.ensures.1

pub list::read_list-returns-then-not-goes_on-clause-ok : goal.list::read_list-returns-then-not-goes_on-clause-ok
list::read_list-returns-then-not-goes_on-clause-ok t c =
    let ends : c.goes_on.result ≡ false = search rules in
    part_last c.parts.invariant.so_far c.parts.invariant.small c.in_ok-part.ensures.ok c.goes_on.ensures.goes ends c.goes_on.ensures.place c.in_ok-list.ensures.tree c.in_ok-list.ensures.depth

pub list::read_list-parts-smaller : goal.list::read_list-parts-smaller
list::read_list-parts-smaller t c =
    let goes : c.goes_on.result ≡ true = search rules in
    part_shorter c.args.kind c.in_ok-part.ensures.ok goes c.goes_on.ensures.place

pub list::read_list-parts-preserved : goal.list::read_list-parts-preserved
list::read_list-parts-preserved t c =
    let goes : c.goes_on.result ≡ true = search rules in
    let d = c.in_ok-list.ensures.depth in
    let m = c.in_ok-part.ensures.ok.small in
    let n = c.parts.invariant.small in
    record {
      so_far = part_goes c.parts.invariant.so_far c.in_ok-part.ensures.ok c.goes_on.ensures.goes goes c.goes_on.ensures.place c.in_ok-list.ensures.tree d;
      small = omega arith;
    }

pub operand::read_borrow-returns-in_err-head-clause-err : goal.operand::read_borrow-returns-in_err-head-clause-err
operand::read_borrow-returns-in_err-head-clause-err t c = relay _ _ _ no_operand_room c.in_err-head.ensures.err c.from_residual.ensures.1

pub operand::read_borrow-returns-in_err-names-clause-err : goal.operand::read_borrow-returns-in_err-names-clause-err
operand::read_borrow-returns-in_err-names-clause-err t c = relay _ _ _ (no_borrow c.in_ok-head.ensures.passed) c.in_err-names.ensures.err c.from_residual-in_err-names.ensures.1

pub operand::read_borrow-returns-in_err-body-clause-err : goal.operand::read_borrow-returns-in_err-body-clause-err
operand::read_borrow-returns-in_err-body-clause-err t c =
    let room : c.args.left ≤ c.in_ok-head.head.below + 1 = omega (arith, c.in_ok-head.ensures.below) in
    relay _ _ _ (borrow_deep_behind c.in_ok-head.ensures.passed room c.in_ok-names.ensures.ok) c.in_err-body.ensures.err c.from_residual-in_err-body.ensures.1

pub operand::read_borrow-returns-clause-ok : goal.operand::read_borrow-returns-clause-ok
operand::read_borrow-returns-clause-ok t c =
    let less : c.in_ok-head.head.below < c.args.left = omega (arith, c.in_ok-head.ensures.below) in
    borrow_read c.in_ok-head.ensures.passed c.in_ok-head.ensures.span less c.in_ok-names.ensures.ok c.in_ok-body.ensures.ok c.in_ok-borrow.ensures.tree c.in_ok-borrow.ensures.depth

pub operand::read_branches-returns-in_err-then-clause-err : goal.operand::read_branches-returns-in_err-then-clause-err
operand::read_branches-returns-in_err-then-clause-err t c = relay _ _ _ branches_deep c.in_err-then.ensures.err c.from_residual.ensures.1

pub operand::read_branches-returns-in_err-other-clause-err : goal.operand::read_branches-returns-in_err-other-clause-err
operand::read_branches-returns-in_err-other-clause-err t c = relay _ _ _ (branches_deep_behind c.in_ok-then.ensures.ok.reads) c.in_err-other.ensures.err c.from_residual-in_err-other.ensures.1

pub operand::read_branches-returns-clause-ok : goal.operand::read_branches-returns-clause-ok
operand::read_branches-returns-clause-ok t c = branches_found c.in_ok-then.ensures.ok c.in_ok-other.ensures.ok c.pair.ensures.tree c.pair.ensures.depth

pub operand::read_else-returns-then-not-accept-clause-ok : goal.operand::read_else-returns-then-not-accept-clause-ok
operand::read_else-returns-then-not-accept-clause-ok t c =
    let other : front (drop c.args.at.now c.args.source.now.tokens.now) ≢ Front.Else = search rules in
    else_absent c.args.source.now.tokens.now c.args.at.now c.accept.new.at other c.accept.ensures.stays c.nothing.ensures.tree c.nothing.ensures.depth

pub operand::read_else-returns-in_err-read_parts-clause-err : goal.operand::read_else-returns-in_err-read_parts-clause-err
operand::read_else-returns-in_err-read_parts-clause-err t c =
    let here : front (drop c.args.at.now c.args.source.now.tokens.now) ≡ Front.Else = search rules in
    let passed : drop c.accept.new.at c.args.source.now.tokens.now ≡ drop 1 (drop c.args.at.now c.args.source.now.tokens.now) = search rules in
    relay _ _ _ (else_refused here passed) c.in_err-read_parts.ensures.err c.from_residual.ensures.1

pub operand::read_else-returns-clause-ok : goal.operand::read_else-returns-clause-ok
operand::read_else-returns-clause-ok t c =
    let here : front (drop c.args.at.now c.args.source.now.tokens.now) ≡ Front.Else = search rules in
    let passed : drop c.accept.new.at c.args.source.now.tokens.now ≡ drop 1 (drop c.args.at.now c.args.source.now.tokens.now) = search rules in
    else_found here passed c.in_ok-read_parts.ensures.ok c.just.ensures.tree c.just.ensures.depth

pub operand::read_exclave-returns-in_err-head-clause-err : goal.operand::read_exclave-returns-in_err-head-clause-err
operand::read_exclave-returns-in_err-head-clause-err t c = relay _ _ _ no_operand_room c.in_err-head.ensures.err c.from_residual.ensures.1

pub operand::read_exclave-returns-in_err-body-clause-err : goal.operand::read_exclave-returns-in_err-body-clause-err
operand::read_exclave-returns-in_err-body-clause-err t c =
    let room : c.args.left ≤ c.in_ok-head.head.below + 1 = omega (arith, c.in_ok-head.ensures.below) in
    relay _ _ _ (exclave_deep c.in_ok-head.ensures.passed room) c.in_err-body.ensures.err c.from_residual-in_err-body.ensures.1

pub operand::read_exclave-returns-clause-ok : goal.operand::read_exclave-returns-clause-ok
operand::read_exclave-returns-clause-ok t c =
    let less : c.in_ok-head.head.below < c.args.left = omega (arith, c.in_ok-head.ensures.below) in
    exclave_read c.in_ok-head.ensures.passed c.in_ok-head.ensures.span less c.in_ok-body.ensures.ok c.in_ok-exclave.ensures.tree c.in_ok-exclave.ensures.depth

pub operand::read_fun-returns-in_err-head-clause-err : goal.operand::read_fun-returns-in_err-head-clause-err
operand::read_fun-returns-in_err-head-clause-err t c = relay _ _ _ no_operand_room c.in_err-head.ensures.err c.from_residual.ensures.1

pub operand::read_fun-returns-in_err-params-clause-err : goal.operand::read_fun-returns-in_err-params-clause-err
operand::read_fun-returns-in_err-params-clause-err t c =
    let room : c.args.left ≤ c.in_ok-head.head.below + 1 = omega (arith, c.in_ok-head.ensures.below) in
    relay _ _ _ (fun_deep c.in_ok-head.ensures.passed room) c.in_err-params.ensures.err c.from_residual-in_err-params.ensures.1

pub operand::read_fun-returns-in_err-body-clause-err : goal.operand::read_fun-returns-in_err-body-clause-err
operand::read_fun-returns-in_err-body-clause-err t c =
    let room : c.args.left ≤ c.in_ok-head.head.below + 1 = omega (arith, c.in_ok-head.ensures.below) in
    relay _ _ _ (fun_deep_behind c.in_ok-head.ensures.passed room c.in_ok-params.ensures.ok.reads) c.in_err-body.ensures.err c.from_residual-in_err-body.ensures.1

pub operand::read_fun-returns-clause-ok : goal.operand::read_fun-returns-clause-ok
operand::read_fun-returns-clause-ok t c =
    let less : c.in_ok-head.head.below < c.args.left = omega (arith, c.in_ok-head.ensures.below) in
    fun_read c.in_ok-head.ensures.passed c.in_ok-head.ensures.span less c.in_ok-params.ensures.ok c.in_ok-body.ensures.ok c.in_ok-fun.ensures.tree c.in_ok-fun.ensures.depth

pub operand::read_function-returns-in_err-head-clause-err : goal.operand::read_function-returns-in_err-head-clause-err
operand::read_function-returns-in_err-head-clause-err t c = relay _ _ _ no_operand_room c.in_err-head.ensures.err c.from_residual.ensures.1

pub operand::read_function-returns-in_err-arms-clause-err : goal.operand::read_function-returns-in_err-arms-clause-err
operand::read_function-returns-in_err-arms-clause-err t c =
    let room : c.args.left ≤ c.in_ok-head.head.below + 1 = omega (arith, c.in_ok-head.ensures.below) in
    relay _ _ _ (function_deep c.in_ok-head.ensures.passed room) c.in_err-arms.ensures.err c.from_residual-in_err-arms.ensures.1

pub operand::read_function-returns-clause-ok : goal.operand::read_function-returns-clause-ok
operand::read_function-returns-clause-ok t c =
    let less : c.in_ok-head.head.below < c.args.left = omega (arith, c.in_ok-head.ensures.below) in
    function_read c.in_ok-head.ensures.passed c.in_ok-head.ensures.span less c.in_ok-arms.ensures.ok c.in_ok-function.ensures.tree c.in_ok-function.ensures.depth

pub operand::read_if-returns-in_err-head-clause-err : goal.operand::read_if-returns-in_err-head-clause-err
operand::read_if-returns-in_err-head-clause-err t c = relay _ _ _ no_operand_room c.in_err-head.ensures.err c.from_residual.ensures.1

pub operand::read_if-returns-in_err-condition-clause-err : goal.operand::read_if-returns-in_err-condition-clause-err
operand::read_if-returns-in_err-condition-clause-err t c =
    let room : c.args.left ≤ c.in_ok-head.head.below + 1 = omega (arith, c.in_ok-head.ensures.below) in
    relay _ _ _ (if_deep c.in_ok-head.ensures.passed room) c.in_err-condition.ensures.err c.from_residual-in_err-condition.ensures.1

pub operand::read_if-returns-in_err-branches-clause-err : goal.operand::read_if-returns-in_err-branches-clause-err
operand::read_if-returns-in_err-branches-clause-err t c =
    let room : c.args.left ≤ c.in_ok-head.head.below + 1 = omega (arith, c.in_ok-head.ensures.below) in
    relay _ _ _ (if_deep_behind c.in_ok-head.ensures.passed room c.in_ok-condition.ensures.ok.reads) c.in_err-branches.ensures.err c.from_residual-in_err-branches.ensures.1

pub operand::read_if-returns-clause-ok : goal.operand::read_if-returns-clause-ok
operand::read_if-returns-clause-ok t c =
    let less : c.in_ok-head.head.below < c.args.left = omega (arith, c.in_ok-head.ensures.below) in
    if_read c.in_ok-head.ensures.passed c.in_ok-head.ensures.span less c.in_ok-condition.ensures.ok c.in_ok-branches.ensures.ok c.in_ok-choice.ensures.tree c.in_ok-choice.ensures.depth

pub operand::read_let-returns-in_err-head-clause-err : goal.operand::read_let-returns-in_err-head-clause-err
operand::read_let-returns-in_err-head-clause-err t c = relay _ _ _ no_operand_room c.in_err-head.ensures.err c.from_residual.ensures.1

pub operand::read_let-returns-in_err-binds-clause-err : goal.operand::read_let-returns-in_err-binds-clause-err
operand::read_let-returns-in_err-binds-clause-err t c =
    let room : c.args.left ≤ c.in_ok-head.head.below + 1 = omega (arith, c.in_ok-head.ensures.below) in
    let place = rec_place c.args.source.now.tokens.now c.open_form.new.at c.accept-recursive.new.at c.accept-recursive.ensures.stands c.accept-recursive.ensures.passed c.accept-recursive.ensures.stays in
    relay _ _ _ (let_deep c.in_ok-head.ensures.passed place room) c.in_err-binds.ensures.err c.from_residual-in_err-binds.ensures.1

pub operand::read_let-returns-in_err-body-clause-err : goal.operand::read_let-returns-in_err-body-clause-err
operand::read_let-returns-in_err-body-clause-err t c =
    let room : c.args.left ≤ c.in_ok-head.head.below + 1 = omega (arith, c.in_ok-head.ensures.below) in
    let place = rec_place c.args.source.now.tokens.now c.open_form.new.at c.accept-recursive.new.at c.accept-recursive.ensures.stands c.accept-recursive.ensures.passed c.accept-recursive.ensures.stays in
    relay _ _ _ (let_deep_behind c.in_ok-head.ensures.passed place room c.in_ok-binds.ensures.ok.reads) c.in_err-body.ensures.err c.from_residual-in_err-body.ensures.1

pub operand::read_let-returns-clause-ok : goal.operand::read_let-returns-clause-ok
operand::read_let-returns-clause-ok t c =
    let less : c.in_ok-head.head.below < c.args.left = omega (arith, c.in_ok-head.ensures.below) in
    let place = rec_place c.args.source.now.tokens.now c.open_form.new.at c.accept-recursive.new.at c.accept-recursive.ensures.stands c.accept-recursive.ensures.passed c.accept-recursive.ensures.stays in
    let flag = rec_flag (drop c.open_form.new.at c.args.source.now.tokens.now) c.accept-recursive.ensures.stands in
    let_read c.in_ok-head.ensures.passed place c.in_ok-head.ensures.span flag less c.in_ok-binds.ensures.ok c.in_ok-body.ensures.ok c.in_ok-let_in.ensures.tree c.in_ok-let_in.ensures.depth

pub operand::read_match-returns-in_err-head-clause-err : goal.operand::read_match-returns-in_err-head-clause-err
operand::read_match-returns-in_err-head-clause-err t c = relay _ _ _ no_operand_room c.in_err-head.ensures.err c.from_residual.ensures.1

pub operand::read_match-returns-in_err-scrutinee-clause-err : goal.operand::read_match-returns-in_err-scrutinee-clause-err
operand::read_match-returns-in_err-scrutinee-clause-err t c =
    let room : c.args.left ≤ c.in_ok-head.head.below + 1 = omega (arith, c.in_ok-head.ensures.below) in
    relay _ _ _ (match_deep c.in_ok-head.ensures.passed room) c.in_err-scrutinee.ensures.err c.from_residual-in_err-scrutinee.ensures.1

pub operand::read_match-returns-in_err-arms-clause-err : goal.operand::read_match-returns-in_err-arms-clause-err
operand::read_match-returns-in_err-arms-clause-err t c =
    let room : c.args.left ≤ c.in_ok-head.head.below + 1 = omega (arith, c.in_ok-head.ensures.below) in
    relay _ _ _ (match_deep_behind c.in_ok-head.ensures.passed room c.in_ok-scrutinee.ensures.ok.reads) c.in_err-arms.ensures.err c.from_residual-in_err-arms.ensures.1

pub operand::read_match-returns-clause-ok : goal.operand::read_match-returns-clause-ok
operand::read_match-returns-clause-ok t c =
    let less : c.in_ok-head.head.below < c.args.left = omega (arith, c.in_ok-head.ensures.below) in
    match_read c.in_ok-head.ensures.passed c.in_ok-head.ensures.span less c.in_ok-scrutinee.ensures.ok c.in_ok-arms.ensures.ok c.in_ok-matching.ensures.tree c.in_ok-matching.ensures.depth

pub operand::read_minus-returns-in_err-head-clause-err : goal.operand::read_minus-returns-in_err-head-clause-err
operand::read_minus-returns-in_err-head-clause-err t c = relay _ _ _ no_operand_room c.in_err-head.ensures.err c.from_residual.ensures.1

pub operand::read_minus-returns-in_err-negated-clause-err : goal.operand::read_minus-returns-in_err-negated-clause-err
operand::read_minus-returns-in_err-negated-clause-err t c =
    let room : c.args.left ≤ c.in_ok-head.head.below + 1 = omega (arith, c.in_ok-head.ensures.below) in
    relay _ _ _ (minus_deep c.in_ok-head.ensures.passed room) c.in_err-negated.ensures.err c.from_residual-in_err-negated.ensures.1

pub operand::read_minus-returns-clause-ok : goal.operand::read_minus-returns-clause-ok
operand::read_minus-returns-clause-ok t c =
    let less : c.in_ok-head.head.below < c.args.left = omega (arith, c.in_ok-head.ensures.below) in
    minus_read c.in_ok-head.ensures.passed c.in_ok-head.ensures.span less c.in_ok-negated.ensures.ok c.in_ok-minus.ensures.tree c.in_ok-minus.ensures.depth

pub operand::read_operand-returns-in-Let-clause-ok : goal.operand::read_operand-returns-in-Let-clause-ok
operand::read_operand-returns-in-Let-clause-ok t c = if_ok c.read_let.result (λ f h. operand_read c.in-Let.ensures h) c.read_let.ensures.ok

pub operand::read_operand-returns-in-Let-clause-err : goal.operand::read_operand-returns-in-Let-clause-err
operand::read_operand-returns-in-Let-clause-err t c = if_err c.read_let.result (λ e s. says _ e (operand_deep c.in-Let.ensures) s) c.read_let.ensures.err

pub operand::read_operand-returns-in-Borrow-clause-ok : goal.operand::read_operand-returns-in-Borrow-clause-ok
operand::read_operand-returns-in-Borrow-clause-ok t c = if_ok c.read_borrow.result (λ f h. operand_read c.in-Borrow.ensures h) c.read_borrow.ensures.ok

pub operand::read_operand-returns-in-Borrow-clause-err : goal.operand::read_operand-returns-in-Borrow-clause-err
operand::read_operand-returns-in-Borrow-clause-err t c = if_err c.read_borrow.result (λ e s. says _ e (operand_deep c.in-Borrow.ensures) s) c.read_borrow.ensures.err

pub operand::read_operand-returns-in-Match-clause-ok : goal.operand::read_operand-returns-in-Match-clause-ok
operand::read_operand-returns-in-Match-clause-ok t c = if_ok c.read_match.result (λ f h. operand_read c.in-Match.ensures h) c.read_match.ensures.ok

pub operand::read_operand-returns-in-Match-clause-err : goal.operand::read_operand-returns-in-Match-clause-err
operand::read_operand-returns-in-Match-clause-err t c = if_err c.read_match.result (λ e s. says _ e (operand_deep c.in-Match.ensures) s) c.read_match.ensures.err

pub operand::read_operand-returns-in-Function-clause-ok : goal.operand::read_operand-returns-in-Function-clause-ok
operand::read_operand-returns-in-Function-clause-ok t c = if_ok c.read_function.result (λ f h. operand_read c.in-Function.ensures h) c.read_function.ensures.ok

pub operand::read_operand-returns-in-Function-clause-err : goal.operand::read_operand-returns-in-Function-clause-err
operand::read_operand-returns-in-Function-clause-err t c = if_err c.read_function.result (λ e s. says _ e (operand_deep c.in-Function.ensures) s) c.read_function.ensures.err

pub operand::read_operand-returns-in-Fun-clause-ok : goal.operand::read_operand-returns-in-Fun-clause-ok
operand::read_operand-returns-in-Fun-clause-ok t c = if_ok c.read_fun.result (λ f h. operand_read c.in-Fun.ensures h) c.read_fun.ensures.ok

pub operand::read_operand-returns-in-Fun-clause-err : goal.operand::read_operand-returns-in-Fun-clause-err
operand::read_operand-returns-in-Fun-clause-err t c = if_err c.read_fun.result (λ e s. says _ e (operand_deep c.in-Fun.ensures) s) c.read_fun.ensures.err

pub operand::read_operand-returns-in-If-clause-ok : goal.operand::read_operand-returns-in-If-clause-ok
operand::read_operand-returns-in-If-clause-ok t c = if_ok c.read_if.result (λ f h. operand_read c.in-If.ensures h) c.read_if.ensures.ok

pub operand::read_operand-returns-in-If-clause-err : goal.operand::read_operand-returns-in-If-clause-err
operand::read_operand-returns-in-If-clause-err t c = if_err c.read_if.result (λ e s. says _ e (operand_deep c.in-If.ensures) s) c.read_if.ensures.err

pub operand::read_operand-returns-in-Exclave-clause-ok : goal.operand::read_operand-returns-in-Exclave-clause-ok
operand::read_operand-returns-in-Exclave-clause-ok t c = if_ok c.read_exclave.result (λ f h. operand_read c.in-Exclave.ensures h) c.read_exclave.ensures.ok

pub operand::read_operand-returns-in-Exclave-clause-err : goal.operand::read_operand-returns-in-Exclave-clause-err
operand::read_operand-returns-in-Exclave-clause-err t c = if_err c.read_exclave.result (λ e s. says _ e (operand_deep c.in-Exclave.ensures) s) c.read_exclave.ensures.err

pub operand::read_operand-returns-in-Minus-clause-ok : goal.operand::read_operand-returns-in-Minus-clause-ok
operand::read_operand-returns-in-Minus-clause-ok t c = if_ok c.read_minus.result (λ f h. operand_read c.in-Minus.ensures h) c.read_minus.ensures.ok

pub operand::read_operand-returns-in-Minus-clause-err : goal.operand::read_operand-returns-in-Minus-clause-err
operand::read_operand-returns-in-Minus-clause-err t c = if_err c.read_minus.result (λ e s. says _ e (operand_deep c.in-Minus.ensures) s) c.read_minus.ensures.err

pub operand::read_operand-returns-in-Word-clause-ok : goal.operand::read_operand-returns-in-Word-clause-ok
operand::read_operand-returns-in-Word-clause-ok t c = if_ok c.read_worded.result (λ f h. operand_read c.in-Word.ensures h) c.read_worded.ensures.ok

pub operand::read_operand-returns-in-Word-clause-err : goal.operand::read_operand-returns-in-Word-clause-err
operand::read_operand-returns-in-Word-clause-err t c = if_err c.read_worded.result (λ e s. says _ e (operand_deep c.in-Word.ensures) s) c.read_worded.ensures.err

pub operand::read_operand-returns-in-Overwrite-clause-ok : goal.operand::read_operand-returns-in-Overwrite-clause-ok
operand::read_operand-returns-in-Overwrite-clause-ok t c = if_ok c.read_overwrite.result (λ f h. operand_read c.in-Overwrite.ensures h) c.read_overwrite.ensures.ok

pub operand::read_operand-returns-in-Overwrite-clause-err : goal.operand::read_operand-returns-in-Overwrite-clause-err
operand::read_operand-returns-in-Overwrite-clause-err t c = if_err c.read_overwrite.result (λ e s. says _ e (operand_deep c.in-Overwrite.ensures) s) c.read_overwrite.ensures.err

pub operand::read_operand-returns-in-Constructor-clause-ok : goal.operand::read_operand-returns-in-Constructor-clause-ok
operand::read_operand-returns-in-Constructor-clause-ok t c = if_ok c.read_block.result (λ f h. operand_read c.in-Constructor.ensures (constructor_read h)) c.read_block.ensures.ok

pub operand::read_operand-returns-in-Constructor-clause-err : goal.operand::read_operand-returns-in-Constructor-clause-err
operand::read_operand-returns-in-Constructor-clause-err t c = if_err c.read_block.result (λ e s. says _ e (λ x. operand_deep c.in-Constructor.ensures (constructor_deep x)) s) c.read_block.ensures.err

pub operand::read_operand-returns-in-Application-clause-ok : goal.operand::read_operand-returns-in-Application-clause-ok
operand::read_operand-returns-in-Application-clause-ok t c = if_ok c.read_parts.result (λ f h. operand_read c.in-Application.ensures (application_read h)) c.read_parts.ensures.ok

pub operand::read_operand-returns-in-Application-clause-err : goal.operand::read_operand-returns-in-Application-clause-err
operand::read_operand-returns-in-Application-clause-err t c = if_err c.read_parts.result (λ e s. says _ e (λ x. operand_deep c.in-Application.ensures (application_deep x)) s) c.read_parts.ensures.err

pub operand::read_worded-returns-in_err-head-clause-err : goal.operand::read_worded-returns-in_err-head-clause-err
operand::read_worded-returns-in_err-head-clause-err t c = relay _ _ _ no_operand_room c.in_err-head.ensures.err c.from_residual.ensures.1

pub operand::read_worded-returns-in_err-operand-clause-err : goal.operand::read_worded-returns-in_err-operand-clause-err
operand::read_worded-returns-in_err-operand-clause-err t c =
    let room : c.args.left ≤ c.in_ok-head.head.below + 1 = omega (arith, c.in_ok-head.ensures.below) in
    relay _ _ _ (worded_deep c.in_ok-head.ensures.passed room) c.in_err-operand.ensures.err c.from_residual-in_err-operand.ensures.1

pub operand::read_worded-returns-clause-ok : goal.operand::read_worded-returns-clause-ok
operand::read_worded-returns-clause-ok t c =
    let less : c.in_ok-head.head.below < c.args.left = omega (arith, c.in_ok-head.ensures.below) in
    worded_read c.in_ok-head.ensures.passed c.in_ok-head.ensures.span less c.in_ok-operand.ensures.ok c.in_ok-worded.ensures.tree c.in_ok-worded.ensures.depth

pub overwrite::read_block-returns-in_err-head-clause-err : goal.overwrite::read_block-returns-in_err-head-clause-err
overwrite::read_block-returns-in_err-head-clause-err t c = relay _ _ _ no_con_room c.in_err-head.ensures.err c.from_residual.ensures.1

pub overwrite::read_block-returns-in_err-arg-clause-err : goal.overwrite::read_block-returns-in_err-arg-clause-err
overwrite::read_block-returns-in_err-arg-clause-err t c =
    let room : c.args.left ≤ c.in_ok-head.head.below + 1 = omega (arith, c.in_ok-head.ensures.below) in
    relay _ _ _ (block_deep c.in_ok-head.ensures.passed room) c.in_err-arg.ensures.err c.from_residual-in_err-arg.ensures.1

pub overwrite::read_block-returns-clause-ok : goal.overwrite::read_block-returns-clause-ok
overwrite::read_block-returns-clause-ok t c =
    let less : c.in_ok-head.head.below < c.args.left = omega (arith, c.in_ok-head.ensures.below) in
    block_read c.in_ok-head.ensures.passed c.in_ok-head.ensures.span less c.in_ok-arg.ensures.ok c.in_ok-constructor.ensures.tree c.in_ok-constructor.ensures.depth

pub overwrite::read_cell-returns-in_err-head-clause-err : goal.overwrite::read_cell-returns-in_err-head-clause-err
overwrite::read_cell-returns-in_err-head-clause-err t c = relay _ _ _ no_con_room c.in_err-head.ensures.err c.from_residual.ensures.1

pub overwrite::read_cell-returns-in_err-first-clause-err : goal.overwrite::read_cell-returns-in_err-first-clause-err
overwrite::read_cell-returns-in_err-first-clause-err t c =
    let room : c.args.left ≤ c.in_ok-head.head.below + 1 = omega (arith, c.in_ok-head.ensures.below) in
    relay _ _ _ (cell_deep c.in_ok-head.ensures.passed room) c.in_err-first.ensures.err c.from_residual-in_err-first.ensures.1

pub overwrite::read_cell-returns-in_err-first-2-clause-err : goal.overwrite::read_cell-returns-in_err-first-2-clause-err
overwrite::read_cell-returns-in_err-first-2-clause-err t c = relay _ _ _ (cell_no_pair c.in_ok-head.ensures.passed c.in_ok-first.ensures.ok.reads) c.in_err-first-2.ensures.err c.from_residual-in_err-first-2.ensures.1

pub overwrite::read_cell-read_level-requires : goal.overwrite::read_cell-read_level-requires
overwrite::read_cell-read_level-requires t c =
    let depth = ap (λ (f : Found Expr). f.depth) c.in_ok-first-2.ensures.same in
    (omega (arith, c.in_ok-head.ensures.below), (search rules, (omega (arith, depth, c.in_ok-first.ensures.ok.small), search rules)))

pub overwrite::read_cell-returns-in_err-cell-clause-err : goal.overwrite::read_cell-returns-in_err-cell-clause-err
overwrite::read_cell-returns-in_err-cell-clause-err t c =
    let room : c.args.left ≤ c.in_ok-head.head.below + 1 = omega (arith, c.in_ok-head.ensures.below) in
    relay _ _ _ (cell_deep_from c.in_ok-head.ensures.passed room c.in_ok-first.ensures.ok c.in_ok-first-2.ensures.same) c.in_err-cell.ensures.err c.from_residual-in_err-cell.ensures.1

pub overwrite::read_cell-returns-in_err-close_paren-clause-err : goal.overwrite::read_cell-returns-in_err-close_paren-clause-err
overwrite::read_cell-returns-in_err-close_paren-clause-err t c = relay _ _ _ (cell_open c.in_ok-head.ensures.passed c.in_ok-first.ensures.ok c.in_ok-first-2.ensures.same c.in_ok-cell.ensures.ok) c.in_err-close_paren.ensures.err c.from_residual-in_err-close_paren.ensures.1

pub overwrite::read_cell-returns-clause-ok : goal.overwrite::read_cell-returns-clause-ok
overwrite::read_cell-returns-clause-ok t c =
    let less : c.in_ok-head.head.below < c.args.left = omega (arith, c.in_ok-head.ensures.below) in
    cell_found c.in_ok-head.ensures.passed c.in_ok-head.ensures.span less c.in_ok-first.ensures.ok c.in_ok-first-2.ensures.same c.in_ok-first-2.ensures.stands c.in_ok-cell.ensures.ok c.in_ok-close_paren.ensures.stands c.in_ok-close_paren.ensures.passed c.in_ok-close_paren.ensures.tree c.in_ok-close_paren.ensures.depth

pub overwrite::read_con-returns-in_ok-read_block-in-Upper-clause-ok : goal.overwrite::read_con-returns-in_ok-read_block-in-Upper-clause-ok
overwrite::read_con-returns-in_ok-read_block-in-Upper-clause-ok t c = con_read c.in-Upper.ensures c.in_ok-read_block-in-Upper.ensures.ok

pub overwrite::read_con-returns-in_err-read_block-in-Upper-clause-err : goal.overwrite::read_con-returns-in_err-read_block-in-Upper-clause-err
overwrite::read_con-returns-in_err-read_block-in-Upper-clause-err t c = relay _ _ _ (con_deep c.in-Upper.ensures) c.in_err-read_block-in-Upper.ensures.err c.from_residual.ensures.1

pub overwrite::read_con-returns-in_ok-read_cell-in-OpenParen-clause-ok : goal.overwrite::read_con-returns-in_ok-read_cell-in-OpenParen-clause-ok
overwrite::read_con-returns-in_ok-read_cell-in-OpenParen-clause-ok t c = con_read c.in-OpenParen.ensures c.in_ok-read_cell-in-OpenParen.ensures.ok

pub overwrite::read_con-returns-in_err-read_cell-in-OpenParen-clause-err : goal.overwrite::read_con-returns-in_err-read_cell-in-OpenParen-clause-err
overwrite::read_con-returns-in_err-read_cell-in-OpenParen-clause-err t c = relay _ _ _ (con_deep c.in-OpenParen.ensures) c.in_err-read_cell-in-OpenParen.ensures.err c.from_residual-in_err-read_cell-in-OpenParen.ensures.1

pub overwrite::read_con-returns-in_default-clause-err : goal.overwrite::read_con-returns-in_default-clause-err
overwrite::read_con-returns-in_default-clause-err t c =
    let upper : front (drop c.args.at.now c.args.source.now.tokens.now) ≢ Front.Upper = search rules in
    let paren : front (drop c.args.at.now c.args.source.now.tokens.now) ≢ Front.OpenParen = search rules in
    (c.refusal_at.ensures, no_con upper paren)

pub overwrite::read_overwrite-returns-in_err-head-clause-err : goal.overwrite::read_overwrite-returns-in_err-head-clause-err
overwrite::read_overwrite-returns-in_err-head-clause-err t c = relay _ _ _ no_operand_room c.in_err-head.ensures.err c.from_residual.ensures.1

pub overwrite::read_overwrite-returns-in_err-name-clause-err : goal.overwrite::read_overwrite-returns-in_err-name-clause-err
overwrite::read_overwrite-returns-in_err-name-clause-err t c = relay _ _ _ (overwrite_none c.in_ok-head.ensures.passed) c.in_err-name.ensures.err c.from_residual-in_err-name.ensures.1

pub overwrite::read_overwrite-returns-in_err-con-clause-err : goal.overwrite::read_overwrite-returns-in_err-con-clause-err
overwrite::read_overwrite-returns-in_err-con-clause-err t c =
    let room : c.args.left ≤ c.in_ok-head.head.below + 1 = omega (arith, c.in_ok-head.ensures.below) in
    relay _ _ _ (overwrite_deep c.in_ok-head.ensures.passed room c.in_ok-name.ensures.name c.in_ok-name.ensures.passed) c.in_err-con.ensures.err c.from_residual-in_err-con.ensures.1

pub overwrite::read_overwrite-returns-clause-ok : goal.overwrite::read_overwrite-returns-clause-ok
overwrite::read_overwrite-returns-clause-ok t c =
    let less : c.in_ok-head.head.below < c.args.left = omega (arith, c.in_ok-head.ensures.below) in
    overwrite_read c.in_ok-head.ensures.passed c.in_ok-head.ensures.span less c.in_ok-name.ensures.name c.in_ok-name.ensures.passed c.in_ok-con.ensures.ok c.in_ok-overwrite.ensures.tree c.in_ok-overwrite.ensures.depth

pub record::read_field-returns-in_err-name-clause-err : goal.record::read_field-returns-in_err-name-clause-err
record::read_field-returns-in_err-name-clause-err t c = relay _ _ _ field_no_name c.in_err-name.ensures.err c.from_residual.ensures.1

pub record::read_field-returns-in_err-pun-clause-err : goal.record::read_field-returns-in_err-pun-clause-err
record::read_field-returns-in_err-pun-clause-err t c =
    let other = not_so c.accept.ensures.stands c.if-not-accept.true in
    relay _ _ _ (λ e. pun_no_room (took c.in_ok-name.ensures.stands c.in_ok-name.ensures.passed c.in_ok-name.ensures.span) e other) c.in_err-pun.ensures.err c.from_residual-in_err-pun.ensures.1

pub record::read_field-returns-then-not-accept-clause-ok : goal.record::read_field-returns-then-not-accept-clause-ok
record::read_field-returns-then-not-accept-clause-ok t c =
    let other = not_so c.accept.ensures.stands c.if-not-accept.true in
    pun_found (took c.in_ok-name.ensures.stands c.in_ok-name.ensures.passed c.in_ok-name.ensures.span) other (same_place _ (c.accept.ensures.stays other)) c.in_ok-pun.ensures.tree c.in_ok-pun.ensures.depth c.in_ok-pun.ensures.small

pub record::read_field-returns-in_err-value-clause-err : goal.record::read_field-returns-in_err-value-clause-err
record::read_field-returns-in_err-value-clause-err t c =
    relay _ _ _ (set_field_deep (took c.in_ok-name.ensures.stands c.in_ok-name.ensures.passed c.in_ok-name.ensures.span) (so c.accept.ensures.stands c.if-not-accept.false) (then c.accept.ensures.passed c.if-not-accept.false)) c.in_err-value.ensures.err c.from_residual-in_err-value.ensures.1

pub record::read_field-returns-clause-ok : goal.record::read_field-returns-clause-ok
record::read_field-returns-clause-ok t c =
    set_field_read (took c.in_ok-name.ensures.stands c.in_ok-name.ensures.passed c.in_ok-name.ensures.span) (so c.accept.ensures.stands c.if-not-accept.false) (then c.accept.ensures.passed c.if-not-accept.false) c.in_ok-value.ensures.ok c.field.ensures.tree c.field.ensures.depth

pub record::read_fields-fields-init : goal.record::read_fields-fields-init
record::read_fields-fields-init t c =
    record { so_far = list_starts refl c.no_parts-list.ensures.tree c.no_parts-list.ensures.depth; small = omega (arith, c.no_parts-list.ensures.depth) }

pub record::read_fields-returns-in_err-field-clause-err : goal.record::read_fields-returns-in_err-field-clause-err
record::read_fields-returns-in_err-field-clause-err t c = relay _ _ _ (list_deep c.fields.invariant.so_far) c.in_err-field.ensures.err c.from_residual.ensures.1

pub record::read_fields-returns-in_err-list-clause-err : goal.record::read_fields-returns-in_err-list-clause-err
record::read_fields-returns-in_err-list-clause-err t c = memory_out _ _ _ c.in_err-list.ensures.err c.from_residual-in_err-list.ensures.1

pub record::read_fields-fields-preserved : goal.record::read_fields-fields-preserved
record::read_fields-fields-preserved t c =
    let i = c.fields.invariant in
    let s = c.in_ok-field.ensures.ok.small in
    record {
      so_far = list_goes i.so_far c.in_ok-field.ensures.ok (sym c.field_follows.ensures.goes ∙ c.if-not-field_follows.false) (at_true _ c.field_follows.ensures.place c.if-not-field_follows.false) c.in_ok-list.ensures.tree c.in_ok-list.ensures.depth;
      small = omega (arith, i.small, s, c.in_ok-list.ensures.depth);
    }

pub record::read_fields-fields-smaller : goal.record::read_fields-fields-smaller
record::read_fields-fields-smaller t c = next_shorter c.in_ok-field.ensures.ok.reads (at_true _ c.field_follows.ensures.place c.if-not-field_follows.false)

pub record::read_fields-returns-then-not-field_follows-clause-ok : goal.record::read_fields-returns-then-not-field_follows-clause-ok
record::read_fields-returns-then-not-field_follows-clause-ok t c =
    list_read c.fields.invariant.so_far c.fields.invariant.small c.in_ok-field.ensures.ok (sym c.field_follows.ensures.goes ∙ c.if-not-field_follows.true) (at_false _ c.field_follows.ensures.place c.if-not-field_follows.true) c.in_ok-list.ensures.tree c.in_ok-list.ensures.depth

pub simple::read_index-returns-in_err-index-clause-err : goal.simple::read_index-returns-in_err-index-clause-err
simple::read_index-returns-in_err-index-clause-err t c =
    let room : c.args.left ≤ c.args.left - 1 + 1 = omega arith in
    relay _ _ _ (index_too_deep c.skip.ensures room) c.in_err-index.ensures.err c.from_residual.ensures.1

pub simple::read_index-returns-in_err-close_index-clause-err : goal.simple::read_index-returns-in_err-close_index-clause-err
simple::read_index-returns-in_err-close_index-clause-err t c = relay _ _ _ (index_open c.skip.ensures c.in_ok-index.ensures.ok.reads) c.in_err-close_index.ensures.err c.from_residual-in_err-close_index.ensures.1

pub simple::read_index-returns-clause-ok : goal.simple::read_index-returns-clause-ok
simple::read_index-returns-clause-ok t c = index_found c.skip.ensures c.requires.small c.in_ok-index.ensures.ok c.in_ok-close_index.ensures.stands c.in_ok-close_index.ensures.passed c.in_ok-close_index.ensures.tree c.in_ok-close_index.ensures.depth

pub simple::read_simple-returns-in_err-found-clause-err : goal.simple::read_simple-returns-in_err-found-clause-err
simple::read_simple-returns-in_err-found-clause-err t c = relay _ _ _ simple_deep c.in_err-found.ensures.err c.from_residual.ensures.1

pub simple::read_simple-suffixes-init : goal.simple::read_simple-suffixes-init
simple::read_simple-suffixes-init t c = record { so_far = simple_init c.in_ok-found.ensures.ok.reads; small = c.in_ok-found.ensures.ok.small }

pub simple::read_simple-returns-in_err-found-2-clause-err : goal.simple::read_simple-returns-in_err-found-2-clause-err
simple::read_simple-returns-in_err-found-2-clause-err t c =
    let more : suffix (drop c.suffixes.at c.args.source.now.tokens.now) ≢ S.Nothing = search rules in
    relay _ _ _ (simple_deep_behind c.suffixes.invariant.so_far more) c.in_err-found-2.ensures.err c.from_residual-in_err-found-2.ensures.1

pub simple::read_simple-suffixes-smaller : goal.simple::read_simple-suffixes-smaller
simple::read_simple-suffixes-smaller t c = suffix_shorter c.in_ok-found-2.ensures.ok.reads

pub simple::read_simple-suffixes-preserved : goal.simple::read_simple-suffixes-preserved
simple::read_simple-suffixes-preserved t c = record { so_far = simple_step c.suffixes.invariant.so_far c.in_ok-found-2.ensures.ok.reads; small = c.in_ok-found-2.ensures.ok.small }

pub simple::read_simple-returns-clause-ok : goal.simple::read_simple-returns-clause-ok
simple::read_simple-returns-clause-ok t c =
    let ends : suffix (drop c.suffixes.at c.args.source.now.tokens.now) ≡ S.Nothing = search rules in
    simple_done c.suffixes.invariant.so_far ends c.suffixes.invariant.small

pub simple::read_suffix-returns-in_err-found-clause-err : goal.simple::read_suffix-returns-in_err-found-clause-err
simple::read_suffix-returns-in_err-found-clause-err t c = relay _ _ _ suffix_no_room c.in_err-found.ensures.err c.from_residual.ensures.1

pub simple::read_suffix-returns-in_err-field_of-in-Field-clause-err : goal.simple::read_suffix-returns-in_err-field_of-in-Field-clause-err
simple::read_suffix-returns-in_err-field_of-in-Field-clause-err t c =
    relay _ _ _ (field_missing (sym c.suffix_at.ensures ∙ c.in-Field.is) c.in_ok-found.ensures.same) c.in_err-field_of-in-Field.ensures.err c.from_residual-in_err-field_of-in-Field.ensures.1

pub simple::read_suffix-returns-in_ok-field_of-in-Field-clause-ok : goal.simple::read_suffix-returns-in_ok-field_of-in-Field-clause-ok
simple::read_suffix-returns-in_ok-field_of-in-Field-clause-ok t c =
    let f = c.in_ok-field_of-in-Field.ensures in
    field_there (sym c.suffix_at.ensures ∙ c.in-Field.is) c.in_ok-found.ensures.same c.in_ok-found.ensures.small f.dot f.name f.passed f.tree f.depth

pub simple::read_suffix-returns-in_err-read_index-in_default : goal.simple::read_suffix-returns-in_err-read_index-in_default
simple::read_suffix-returns-in_err-read_index-in_default t c =
    let here = is_index _ c.requires.stands (λ e. c.in_default.not-Field (c.suffix_at.ensures ∙ e)) in
    record {
      ok = search rules;
      err = relay _ _ _ (suffix_deep here c.in_ok-found.ensures.same) c.in_err-read_index-in_default.ensures.err c.from_residual-in_err-read_index-in_default.ensures.1;
    }

pub simple::read_suffix-returns-in_ok-read_index-in_default : goal.simple::read_suffix-returns-in_ok-read_index-in_default
simple::read_suffix-returns-in_ok-read_index-in_default t c =
    let here = is_index _ c.requires.stands (λ e. c.in_default.not-Field (c.suffix_at.ensures ∙ e)) in
    record { ok = suffix_read here c.in_ok-found.ensures.same c.in_ok-read_index-in_default.ensures.ok; err = tt }
