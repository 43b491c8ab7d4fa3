use Rattle.std.proofs.Common.{◌≡◌, ◌≢◌, ◌+◌, ◌-◌, ◌≤◌, true, false, [], ◌∷◌, ◌++◌, max, drop, refl, sym, ap, ap₂, ◌∙◌, arith, rules}
use Rattle.std.proofs.lemmas.Grind.{common_steps}
use Rattle.oxml_base.specs.declared.span.Span.{Span}
use Rattle.ml_tree.specs.declared.pattern.FieldPat.{FieldPat}
use Rattle.ml_tree.specs.declared.pattern.Pat.{Pat}
use Rattle.ml_tree.specs.declared.pattern.PatKind.{PatKind}
use Rattle.ml_cursor.specs.declared.front.Front.TheVariants as Front
use Rattle.ml_cursor.specs.Fronts.{front}
use Rattle.ml_parse_patterns.specs.declared.looks.Leaf.TheVariants.{Bound}
use Rattle.ml_parse_patterns.specs.Looks.{node, leaf_kind, applies}
use Rattle.ml_parse_patterns.specs.Patterns.{level_of}
use Rattle.ml_parse_patterns.proofs.Relays.{relay, says, if_ok, if_err}
use Rattle.ml_parse_patterns.proofs.Refusals.{nothing_begins, none_at_all, operand_bare, cons_deep, cons_full, tuple_deep, tuple_full, pattern_cons, pattern_tuple, pattern_others, pattern_names}
use Rattle.ml_parse_patterns.proofs.Founds.{wider, paren_found, typed_found, record_found, bare_found, no_cons_found, no_tuple_found, pattern_found, or_found}
use Rattle.ml_parse_patterns.proofs.Chains.{no_room_for_other, others_begin, others_go_on, others_end, others_refused, other_shorter}
use Rattle.ml_parse_patterns.proofs.ListReadings.{PatList, begins, list_deep, list_fails, fields_deep, fields_fail, fields_end}
use Rattle.ml_parse_patterns.proofs.ParamReadings.{field_unnamed, field_deep, field_found, pun_found}
use Rattle.ml_parse_patterns.proofs.Exits.{parens_open_at, parens_untyped_at, no_left, no_field_left, parens_deep_at, elements_deep_at, elements_found_at, record_deep_at, applied_deep_at, applied_found_at, cons_rest_at, cons_found_at, tuple_rest_at, tuple_found_at, other_deep_at, other_found_at, list_goes_on, list_ends, list_smaller, fields_begin, fields_go_on, fields_smaller}
use Rattle.ml_parse_patterns.proofs.+patterns.Goals as goal

pub levels::add_cons-returns-then-not-stands-clause-ok : goal.levels::add_cons-returns-then-not-stands-clause-ok
levels::add_cons-returns-then-not-stands-clause-ok t c =
    let other : front (drop c.args.at.now c.args.tokens.now) ≢ Front.ColonColon = search rules in
    no_cons_found _ _ _ _ _ c.requires.first other

pub levels::add_cons-returns-then-first-left-clause-err : goal.levels::add_cons-returns-then-first-left-clause-err
levels::add_cons-returns-then-first-left-clause-err t c =
    let here : front (drop c.args.at.now c.args.tokens.now) ≡ Front.ColonColon = search rules in
    (c.give_up.ensures, cons_full _ _ _ _ _ c.args.first c.requires.first here c.if-first-left.true)

pub levels::add_cons-returns-in_err-rest-clause-err : goal.levels::add_cons-returns-in_err-rest-clause-err
levels::add_cons-returns-in_err-rest-clause-err t c =
    let here : front (drop c.args.at.now c.args.tokens.now) ≡ Front.ColonColon = search rules in
    let more : c.args.left ≡ c.args.left - 1 + 1 = omega arith in
    relay _ _ _ (cons_rest_at c.args.text.now c.args.left (c.args.left - 1) _ _ _ _ c.args.first more c.pass.ensures c.requires.first here) c.in_err-rest.ensures.err c.from_residual.ensures.1

pub levels::add_cons-returns-clause-ok : goal.levels::add_cons-returns-clause-ok
levels::add_cons-returns-clause-ok t c =
    let here : front (drop c.args.at.now c.args.tokens.now) ≡ Front.ColonColon = search rules in
    let more : c.args.left ≡ c.args.left - 1 + 1 = omega arith in
    cons_found_at c.args.text.now c.args.left (c.args.left - 1) _ _ _ _ _ c.args.first c.in_ok-rest.rest _ more c.pass.ensures c.requires.first here c.if-first-left.false c.in_ok-rest.ensures.ok c.in_ok-cons.ensures

pub levels::read_cons-returns-in_err-first-clause-err : goal.levels::read_cons-returns-in_err-first-clause-err
levels::read_cons-returns-in_err-first-clause-err t c = relay _ _ _ (cons_deep _ _ _) c.in_err-first.ensures.err c.from_residual.ensures.1

pub levels::add_tuple-returns-then-not-stands-clause-ok : goal.levels::add_tuple-returns-then-not-stands-clause-ok
levels::add_tuple-returns-then-not-stands-clause-ok t c =
    let other : front (drop c.args.at.now c.args.tokens.now) ≢ Front.Comma = search rules in
    no_tuple_found _ _ _ _ _ c.requires.first other

pub levels::add_tuple-returns-then-first-left-clause-err : goal.levels::add_tuple-returns-then-first-left-clause-err
levels::add_tuple-returns-then-first-left-clause-err t c =
    let here : front (drop c.args.at.now c.args.tokens.now) ≡ Front.Comma = search rules in
    (c.give_up.ensures, tuple_full _ _ _ _ _ c.args.first c.requires.first here c.if-first-left.true)

pub levels::add_tuple-returns-in_err-read-clause-err : goal.levels::add_tuple-returns-in_err-read-clause-err
levels::add_tuple-returns-in_err-read-clause-err t c =
    let here : front (drop c.args.at.now c.args.tokens.now) ≡ Front.Comma = search rules in
    let more : c.args.left ≡ c.args.left - 1 + 1 = omega arith in
    relay _ _ _ (tuple_rest_at c.args.text.now c.args.left (c.args.left - 1) _ _ _ _ c.args.first more c.pass.ensures c.requires.first here) c.in_err-read.ensures.err c.from_residual-in_err-read.ensures.1

pub levels::add_tuple-returns-clause-ok : goal.levels::add_tuple-returns-clause-ok
levels::add_tuple-returns-clause-ok t c =
    let here : front (drop c.args.at.now c.args.tokens.now) ≡ Front.Comma = search rules in
    let more : c.args.left ≡ c.args.left - 1 + 1 = omega arith in
    tuple_found_at c.args.text.now c.args.left (c.args.left - 1) _ _ _ _ _ c.in_ok-list.list c.args.first _ c.in_ok-read.read more c.pass.ensures c.requires.first here c.in_ok-list.ensures c.in_ok-read.ensures.ok (record { tree = c.node.ensures; depth_is = refl })

pub levels::read_tuple-returns-in_err-first-clause-err : goal.levels::read_tuple-returns-in_err-first-clause-err
levels::read_tuple-returns-in_err-first-clause-err t c = relay _ _ _ (tuple_deep _ _ _) c.in_err-first.ensures.err c.from_residual.ensures.1

pub levels::add_other-returns-then-first-left-clause-err : goal.levels::add_other-returns-then-first-left-clause-err
levels::add_other-returns-then-first-left-clause-err t c = (c.give_up.ensures, no_room_for_other _ _ _ _ c.args.first c.requires.bar c.if-first-left.true)

pub levels::add_other-returns-in_err-last-clause-err : goal.levels::add_other-returns-in_err-last-clause-err
levels::add_other-returns-in_err-last-clause-err t c =
    let more : c.args.left ≡ c.args.left - 1 + 1 = omega arith in
    relay _ _ _ (other_deep_at c.args.text.now c.args.left (c.args.left - 1) _ _ _ c.args.first more c.requires.bar c.pass.ensures) c.in_err-last.ensures.err c.from_residual.ensures.1

pub levels::add_other-returns-clause-ok : goal.levels::add_other-returns-clause-ok
levels::add_other-returns-clause-ok t c =
    let more : c.args.left ≡ c.args.left - 1 + 1 = omega arith in
    other_found_at c.args.text.now c.args.left (c.args.left - 1) _ _ _ _ c.args.first c.in_ok-last.last _ more c.pass.ensures c.if-first-left.false c.in_ok-last.ensures.ok c.in_ok-either.ensures

pub levels::add_others-others-init : goal.levels::add_others-others-init
levels::add_others-others-init t c = others_begin _ _ _ _ _ c.requires.small

pub levels::add_others-returns-in_err-found-clause-err : goal.levels::add_others-returns-in_err-found-clause-err
levels::add_others-returns-in_err-found-clause-err t c = relay _ _ _ (others_refused _ _ _ _ _ _ _ c.others.invariant) c.in_err-found.ensures.err c.from_residual.ensures.1

pub levels::add_others-others-smaller : goal.levels::add_others-others-smaller
levels::add_others-others-smaller t c =
    let here : front (drop c.others.at c.args.tokens.now) ≡ Front.Bar = search rules in
    other_shorter _ _ _ _ _ _ _ here c.in_ok-found.ensures.ok

pub levels::add_others-others-preserved : goal.levels::add_others-others-preserved
levels::add_others-others-preserved t c =
    let here : front (drop c.others.at c.args.tokens.now) ≡ Front.Bar = search rules in
    others_go_on _ _ _ _ _ _ _ _ _ c.others.invariant here c.in_ok-found.ensures.ok

pub levels::add_others-returns-clause-ok : goal.levels::add_others-returns-clause-ok
levels::add_others-returns-clause-ok t c =
    let other : front (drop c.others.at c.args.tokens.now) ≢ Front.Bar = search rules in
    others_end _ _ _ _ _ _ _ c.others.invariant other

pub levels::read_pattern-returns-in_err-first-clause-err : goal.levels::read_pattern-returns-in_err-first-clause-err
levels::read_pattern-returns-in_err-first-clause-err t c = relay _ _ _ (pattern_cons _ _ _) c.in_err-first.ensures.err c.from_residual.ensures.1

pub levels::read_pattern-returns-in_err-tuple-clause-err : goal.levels::read_pattern-returns-in_err-tuple-clause-err
levels::read_pattern-returns-in_err-tuple-clause-err t c = relay _ _ _ (pattern_tuple _ _ _) c.in_err-tuple.ensures.err c.from_residual-in_err-tuple.ensures.1

pub levels::read_pattern-returns-in_err-all-clause-err : goal.levels::read_pattern-returns-in_err-all-clause-err
levels::read_pattern-returns-in_err-all-clause-err t c = relay _ _ _ (pattern_others _ _ _ _ _ c.in_ok-tuple.tuple c.in_ok-tuple.ensures.ok) c.in_err-all.ensures.err c.from_residual-in_err-all.ensures.1

pub levels::read_pattern-returns-clause-ok : goal.levels::read_pattern-returns-clause-ok
levels::read_pattern-returns-clause-ok t c = if_ok c.add_names.result (λ f h. pattern_found _ _ _ _ _ _ _ _ _ f c.in_ok-tuple.ensures.ok c.in_ok-all.ensures.ok h) c.add_names.ensures.ok

pub levels::read_pattern-returns-clause-err : goal.levels::read_pattern-returns-clause-err
levels::read_pattern-returns-clause-err t c =
    let or = or_found _ _ _ _ _ _ c.in_ok-tuple.tuple c.in_ok-all.all c.in_ok-tuple.ensures.ok c.in_ok-all.ensures.ok in
    if_err c.add_names.result (λ e s. says _ e (pattern_names _ _ _ _ c.in_ok-all.all or) s) c.add_names.ensures.err

pub lists::read_field-returns-in_err-name-clause-err : goal.lists::read_field-returns-in_err-name-clause-err
lists::read_field-returns-in_err-name-clause-err t c = relay _ _ _ (field_unnamed _ _ _) c.in_err-name.ensures.err c.from_residual.ensures.1

pub lists::read_field-returns-in_err-read-clause-err : goal.lists::read_field-returns-in_err-read-clause-err
lists::read_field-returns-in_err-read-clause-err t c =
    let here : front (drop c.take.new.at c.args.tokens.now) ≡ Front.Equal = search rules in
    let passed : drop c.accept.new.at c.args.tokens.now ≡ drop 1 (drop c.take.new.at c.args.tokens.now) = search rules in
    relay _ _ _ (field_deep _ _ _ _ _ c.in_ok-name.ensures.ok.rest_is here passed) c.in_err-read.ensures.err c.from_residual-in_err-read.ensures.1

pub lists::read_field-returns-then-accept-clause-ok : goal.lists::read_field-returns-then-accept-clause-ok
lists::read_field-returns-then-accept-clause-ok t c =
    let here : front (drop c.take.new.at c.args.tokens.now) ≡ Front.Equal = search rules in
    let passed : drop c.accept.new.at c.args.tokens.now ≡ drop 1 (drop c.take.new.at c.args.tokens.now) = search rules in
    let tree = ap (λ (s : Span). let f : FieldPat = record { id = 0; name = s; pat = c.in_ok-read.read.pat } in f) c.in_ok-name.ensures.ok.span_is in
    field_found _ _ _ _ _ _ c.in_ok-read.read _ c.in_ok-name.ensures.ok.stands c.in_ok-name.ensures.ok.rest_is here passed c.in_ok-read.ensures.ok tree refl

pub lists::read_field-returns-then-left-eq0-clause-err : goal.lists::read_field-returns-then-left-eq0-clause-err
lists::read_field-returns-then-left-eq0-clause-err t c =
    let none : c.args.left ≡ 0 = search rules in
    (c.refusal_at.ensures, no_field_left _ _ _ none)

pub lists::read_field-returns-clause-ok : goal.lists::read_field-returns-clause-ok
lists::read_field-returns-clause-ok t c =
    let tokens = c.args.tokens.now in
    let named = c.in_ok-name.ensures.ok in
    let other : front (drop c.take.new.at c.args.tokens.now) ≢ Front.Equal = search rules in
    let stays : c.accept.new.at ≡ c.take.new.at = c.accept.ensures.stays other in
    let other' : front (drop c.accept.new.at c.args.tokens.now) ≢ Front.Equal = (λ h. other (sym (ap (λ k. front (drop k c.args.tokens.now)) stays) ∙ h)) in
    let some : 1 ≤ c.args.left = omega arith in
    let kind = c.leaf_kind.ensures ∙ ap (λ (s : Span). leaf_kind (Bound s)) named.span_is in
    let pat = c.node-pat.ensures ∙ ap (λ (k : PatKind). node (drop c.args.at.now c.args.tokens.now) (drop c.accept.new.at c.args.tokens.now) k) kind in
    let tree = ap₂ (λ (s : Span) (p : Pat). let f : FieldPat = record { id = 0; name = s; pat = p } in f) named.span_is pat in
    pun_found _ _ _ _ _ named.stands (ap (λ k. drop k c.args.tokens.now) stays ∙ named.rest_is) other' some tree refl

pub lists::read_fields-fields-init : goal.lists::read_fields-fields-init
lists::read_fields-fields-init t c = fields_begin _ _ _ _ c.new-list.ensures

pub lists::read_fields-returns-in_err-one-clause-err : goal.lists::read_fields-returns-in_err-one-clause-err
lists::read_fields-returns-in_err-one-clause-err t c = relay _ _ _ (fields_deep _ _ _ _ _ _ c.fields.invariant) c.in_err-one.ensures.err c.from_residual.ensures.1

pub lists::read_fields-fields-smaller : goal.lists::read_fields-fields-smaller
lists::read_fields-fields-smaller t c =
    fields_smaller c.args.text.now c.args.left 1 (drop c.fields.at c.args.tokens.now) (drop c.read_field.new.at c.args.tokens.now) (drop c.pass_all.new.at c.args.tokens.now) c.in_ok-one.one c.in_ok-one.ensures.ok c.pass_all.ensures

pub lists::read_fields-fields-preserved : goal.lists::read_fields-fields-preserved
lists::read_fields-fields-preserved t c =
    let i : c.push.new.self ≡ c.fields.list ++ c.in_ok-one.one.field ∷ [] = first_of (search rules, grind (arith, common_steps)) in
    let d : c.max-deepest.result ≡ max c.fields.deepest c.in_ok-one.one.depth = first_of (search rules, grind (arith, common_steps)) in
    fields_go_on c.args.text.now _ _ _ (drop c.read_field.new.at c.args.tokens.now) _ _ _ _ _ c.in_ok-one.one c.fields.invariant c.in_ok-one.ensures.ok (sym c.in-Next.ensures) c.pass_all.ensures i d

pub lists::read_fields-returns-in-Ends-clause-ok : goal.lists::read_fields-returns-in-Ends-clause-ok
lists::read_fields-returns-in-Ends-clause-ok t c =
    let i : c.push.new.self ≡ c.fields.list ++ c.in_ok-one.one.field ∷ [] = first_of (search rules, grind (arith, common_steps)) in
    let d : c.max-deepest.result ≡ max c.fields.deepest c.in_ok-one.one.depth = first_of (search rules, grind (arith, common_steps)) in
    fields_end c.args.text.now _ c.in-Ends.count _ _ (drop c.read_field.new.at c.args.tokens.now) _ _ _ c.in_ok-one.one c.in-Ends.more _ c.fields.invariant c.in_ok-one.ensures.ok (sym c.in-Ends.ensures) c.pass_all-in-Ends.ensures i refl d

pub lists::read_fields-returns-in-Broken-clause-err : goal.lists::read_fields-returns-in-Broken-clause-err
lists::read_fields-returns-in-Broken-clause-err t c =
    (c.give_up_fields.ensures, fields_fail c.args.text.now _ _ _ (drop c.read_field.new.at c.args.tokens.now) _ _ c.in_ok-one.one c.fields.invariant c.in_ok-one.ensures.ok (sym c.in-Broken.ensures))

pub lists::read_list-list-init : goal.lists::read_list-list-init
lists::read_list-list-init t c = begins (PatList c.args.text.now c.args.listing) _ _ _ _ c.requires.small

pub lists::read_list-returns-in_err-one-clause-err : goal.lists::read_list-returns-in_err-one-clause-err
lists::read_list-returns-in_err-one-clause-err t c = relay _ _ _ (list_deep _ _ _ _ _ _ _ _ _ c.list.invariant) c.in_err-one.ensures.err c.from_residual.ensures.1

pub lists::read_list-list-smaller : goal.lists::read_list-list-smaller
lists::read_list-list-smaller t c =
    list_smaller c.args.text.now (level_of c.args.listing) c.args.left c.in-Goes.count (drop c.list.at c.args.tokens.now) (drop c.read_part.new.at c.args.tokens.now) (drop c.pass_all.new.at c.args.tokens.now) c.in_ok-one.one c.in_ok-one.ensures.ok c.pass_all.ensures

pub lists::read_list-list-preserved : goal.lists::read_list-list-preserved
lists::read_list-list-preserved t c =
    let i : c.push.new.self ≡ c.list.list ++ c.in_ok-one.one.pat ∷ [] = first_of (search rules, grind (arith, common_steps)) in
    let d : c.max-deepest.result ≡ max c.list.deepest c.in_ok-one.one.depth = first_of (search rules, grind (arith, common_steps)) in
    list_goes_on c.args.text.now c.args.listing _ c.in-Goes.count _ _ _ _ (drop c.read_part.new.at c.args.tokens.now) _ _ _ _ _ c.in_ok-one.one c.list.invariant c.in_ok-one.ensures.ok (sym c.in-Goes.ensures) c.pass_all.ensures i d

pub lists::read_list-returns-in-Stops-clause-ok : goal.lists::read_list-returns-in-Stops-clause-ok
lists::read_list-returns-in-Stops-clause-ok t c =
    let i : c.push.new.self ≡ c.list.list ++ c.in_ok-one.one.pat ∷ [] = first_of (search rules, grind (arith, common_steps)) in
    let d : c.max-deepest.result ≡ max c.list.deepest c.in_ok-one.one.depth = first_of (search rules, grind (arith, common_steps)) in
    list_ends c.args.text.now c.args.listing _ c.in-Stops.count _ _ _ _ (drop c.read_part.new.at c.args.tokens.now) _ _ _ c.in_ok-one.one _ c.list.invariant c.in_ok-one.ensures.ok (sym c.in-Stops.ensures) c.pass_all-in-Stops.ensures i d

pub lists::read_list-returns-in-Fails-clause-err : goal.lists::read_list-returns-in-Fails-clause-err
lists::read_list-returns-in-Fails-clause-err t c =
    (c.give_up_list.ensures, list_fails c.args.text.now c.args.listing _ _ _ _ _ (drop c.read_part.new.at c.args.tokens.now) _ _ c.in_ok-one.one c.list.invariant c.in_ok-one.ensures.ok (sym c.in-Fails.ensures))

pub simple::read_elements-returns-in_err-read-clause-err : goal.simple::read_elements-returns-in_err-read-clause-err
simple::read_elements-returns-in_err-read-clause-err t c = relay _ _ _ (elements_deep_at _ _ _ _ c.requires.begins c.pass.ensures) c.in_err-read.ensures.err c.from_residual.ensures.1

pub simple::read_elements-returns-clause-ok : goal.simple::read_elements-returns-clause-ok
simple::read_elements-returns-clause-ok t c =
    elements_found_at _ _ _ _ _ _ c.in_ok-read.read _ c.requires.begins c.pass.ensures c.new.ensures c.in_ok-read.ensures.ok (record { tree = c.node.ensures; depth_is = refl })

pub simple::read_record-returns-in_err-read-clause-err : goal.simple::read_record-returns-in_err-read-clause-err
simple::read_record-returns-in_err-read-clause-err t c = relay _ _ _ (record_deep_at _ _ _ _ c.requires.begins c.pass.ensures) c.in_err-read.ensures.err c.from_residual.ensures.1

pub simple::read_record-returns-clause-ok : goal.simple::read_record-returns-clause-ok
simple::read_record-returns-clause-ok t c =
    record_found _ _ _ _ _ c.in_ok-read.read _ c.requires.begins c.pass.ensures c.in_ok-read.ensures.ok (record { tree = c.node.ensures; depth_is = refl })

pub simple::read_operand-returns-then-not-applies_at-clause-ok : goal.simple::read_operand-returns-then-not-applies_at-clause-ok
simple::read_operand-returns-then-not-applies_at-clause-ok t c =
    let none : applies (drop c.args.at.now c.args.tokens.now) ≡ false = search rules in
    if_ok c.read_simple.result (λ f h. bare_found _ _ _ _ f none h) c.read_simple.ensures.ok

pub simple::read_operand-returns-then-not-applies_at-clause-err : goal.simple::read_operand-returns-then-not-applies_at-clause-err
simple::read_operand-returns-then-not-applies_at-clause-err t c =
    let none : applies (drop c.args.at.now c.args.tokens.now) ≡ false = search rules in
    if_err c.read_simple.result (λ e s. says _ e (operand_bare _ _ _ none) s) c.read_simple.ensures.err

pub simple::read_operand-returns-in_default-clause-err : goal.simple::read_operand-returns-in_default-clause-err
simple::read_operand-returns-in_default-clause-err t c =
    let none : c.args.left ≡ 0 = first_of (search rules, grind (arith, common_steps)) in
    (c.refusal_at.ensures, no_left _ _ _ _ none)

pub simple::read_operand-returns-in_err-inner-clause-err : goal.simple::read_operand-returns-in_err-inner-clause-err
simple::read_operand-returns-in_err-inner-clause-err t c =
    let more : c.args.left ≡ c.in-Some.below + 1 = first_of (search rules, grind (arith, common_steps)) in
    let here : applies (drop c.args.at.now c.args.tokens.now) ≡ true = first_of (search rules, grind (arith, common_steps)) in
    relay _ _ _ (applied_deep_at c.args.text.now c.args.left c.in-Some.below _ _ more here c.pass.ensures) c.in_err-inner.ensures.err c.from_residual.ensures.1

pub simple::read_operand-returns-clause-ok : goal.simple::read_operand-returns-clause-ok
simple::read_operand-returns-clause-ok t c =
    let more : c.args.left ≡ c.in-Some.below + 1 = first_of (search rules, grind (arith, common_steps)) in
    let here : applies (drop c.args.at.now c.args.tokens.now) ≡ true = first_of (search rules, grind (arith, common_steps)) in
    applied_found_at c.args.text.now c.args.left c.in-Some.below _ _ _ c.in_ok-inner.inner _ c.span_at.result more here c.pass.ensures c.in_ok-inner.ensures.ok c.span_at.ensures.first c.in_ok-applied.ensures

pub simple::read_parens-returns-in_err-inner-clause-err : goal.simple::read_parens-returns-in_err-inner-clause-err
simple::read_parens-returns-in_err-inner-clause-err t c = relay _ _ _ (parens_deep_at _ _ _ _ c.requires.begins c.pass.ensures) c.in_err-inner.ensures.err c.from_residual.ensures.1

pub simple::read_simple-returns-in_default-clause-err : goal.simple::read_simple-returns-in_default-clause-err
simple::read_simple-returns-in_default-clause-err t c =
    let none : c.args.left ≡ 0 = first_of (search rules, grind (arith, common_steps)) in
    (c.refusal_at.ensures, no_left _ _ _ _ none)

pub simple::read_simple-returns-in-Nothing-clause-err : goal.simple::read_simple-returns-in-Nothing-clause-err
simple::read_simple-returns-in-Nothing-clause-err t c = (c.refusal_at-in-Nothing.ensures, nothing_begins _ _ _ (sym c.in-Nothing.ensures))

pub simple::read_simple-returns-in-Whole-clause-ok : goal.simple::read_simple-returns-in-Whole-clause-ok
simple::read_simple-returns-in-Whole-clause-ok t c =
    let some : 1 ≤ c.args.left = first_of (search rules, grind (arith, common_steps)) in
    wider some (c.read_leaf.ensures c.args.text.now)

pub simple::read_simple-returns-in-Name-clause-ok : goal.simple::read_simple-returns-in-Name-clause-ok
simple::read_simple-returns-in-Name-clause-ok t c =
    let some : 1 ≤ c.args.left = first_of (search rules, grind (arith, common_steps)) in
    if_ok c.read_name.result (λ f h. wider some h) (c.read_name.ensures.ok c.args.text.now)

pub simple::read_simple-returns-in-Name-clause-err : goal.simple::read_simple-returns-in-Name-clause-err
simple::read_simple-returns-in-Name-clause-err t c =
    if_err c.read_name.result (λ e s. says _ e (none_at_all _ _ _) s) (c.read_name.ensures.err c.args.text.now)

pub simple::read_simple-returns-in-Quoted-clause-ok : goal.simple::read_simple-returns-in-Quoted-clause-ok
simple::read_simple-returns-in-Quoted-clause-ok t c =
    let some : 1 ≤ c.args.left = first_of (search rules, grind (arith, common_steps)) in
    if_ok c.read_text.result (λ f h. wider some h) c.read_text.ensures.ok

pub simple::read_simple-returns-in-Quoted-clause-err : goal.simple::read_simple-returns-in-Quoted-clause-err
simple::read_simple-returns-in-Quoted-clause-err t c =
    if_err c.read_text.result (λ e s. says _ e (none_at_all _ _ _) s) c.read_text.ensures.err

pub simple::read_parens-returns-then-closes-clause-ok : goal.simple::read_parens-returns-then-closes-clause-ok
simple::read_parens-returns-then-closes-clause-ok t c =
    let closed : front (drop c.read_pattern.new.at c.args.tokens.now) ≡ Front.CloseParen = search rules in
    paren_found _ _ _ _ _ _ c.in_ok-inner.inner _ c.requires.begins c.pass.ensures c.in_ok-inner.ensures.ok closed c.pass-then-closes.ensures c.in_ok-paren.ensures

pub simple::read_parens-returns-then-not-goes_on-clause-err : goal.simple::read_parens-returns-then-not-goes_on-clause-err
simple::read_parens-returns-then-not-goes_on-clause-err t c =
    let unclosed : front (drop c.read_pattern.new.at c.args.tokens.now) ≢ Front.CloseParen = search rules in
    let untyped : front (drop c.read_pattern.new.at c.args.tokens.now) ≢ Front.Colon = search rules in
    (c.give_up.ensures, parens_open_at _ _ _ _ _ _ c.in_ok-inner.inner c.requires.begins c.pass.ensures c.in_ok-inner.ensures.ok unclosed untyped)

pub simple::read_parens-returns-in_err-read-clause-err : goal.simple::read_parens-returns-in_err-read-clause-err
simple::read_parens-returns-in_err-read-clause-err t c =
    let colon : front (drop c.read_pattern.new.at c.args.tokens.now) ≡ Front.Colon = search rules in
    relay _ _ _ (parens_untyped_at _ _ _ _ _ _ c.in_ok-inner.inner c.requires.begins c.pass.ensures c.in_ok-inner.ensures.ok colon) c.in_err-read.ensures.err c.from_residual-in_err-read.ensures.1

pub simple::read_parens-returns-clause-ok : goal.simple::read_parens-returns-clause-ok
simple::read_parens-returns-clause-ok t c =
    let colon : front (drop c.read_pattern.new.at c.args.tokens.now) ≡ Front.Colon = search rules in
    typed_found _ _ c.args.tokens.now _ _ _ _ c.in_ok-inner.inner _ c.in_ok-read.read c.requires.begins c.pass.ensures c.in_ok-inner.ensures.ok colon c.in_ok-read.ensures.ok c.in_ok-typed.ensures
