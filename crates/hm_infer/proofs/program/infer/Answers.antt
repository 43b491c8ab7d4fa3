use Rattle.std.proofs.Common.{◌≡◌, List, map, subst, refl, ap, ◌∙◌}
use Rattle.std.proofs.lemmas.Option.{slice_get_read}
use Rattle.oxml_base.specs.declared.rule.Rule.TheVariants.{Comparison}
use Rattle.ml_tree.specs.declared.program.Item.{Item}
use Rattle.ml_typing.specs.Typing.{first_context, steps_of_item}
use Rattle.hm_terms.specs.Stores.{store}
use Rattle.hm_infer.specs.declared.error.InferErr.TheVariants.{Refused}
use Rattle.hm_infer.specs.Tables.{Fills}
use Rattle.hm_infer.specs.Answers.{SomeBehind, IsRefusedBy}
use Rattle.hm_infer.proofs.Programs.{first_behind, next_behind, refused_at, all_behind, compares_badly, typed_as}
use Rattle.hm_infer.specs.Spelled.{no_item}
use Rattle.hm_infer.proofs.Spelled.{items_next, items_all}
use Rattle.hm_infer.proofs.program.infer.Goals as goal

pub loop-number-init : goal.loop-number-init
loop-number-init c = record {
  behind = λ declared r. first_behind (store c.in_ok-solver.solver) c.args.d.now.types (first_context c.args.d.now.types declared) _ (c.in_ok-solver.ensures.read declared r) c.in_ok-solver.ensures.forgotten c.new-found.ensures.nodes c.new-found.ensures.bad;
  runs = λ declared r. no_item (store c.in_ok-solver.solver) c.in_ok-solver.solver.slots;
}

pub returns-in-Err-clause-err : goal.returns-in-Err-clause-err
returns-in-Err-clause-err c = λ declared r.
    let items : c.as_slice-items.result.now ≡ c.args.s.now.program.items = c.as_slice-items.ensures ∙ ap (λ p. p.items) c.program-program.ensures in
    subst (λ (is : List Item). IsRefusedBy (first_context c.args.d.now.types declared) (map (steps_of_item c.args.s.now.refs c.args.s.now.types) is) c.in-Err.error) items
    (refused_at (store c.loop-number.solver) c.args.d.now.types (first_context c.args.d.now.types declared) (steps_of_item c.args.s.now.refs c.args.s.now.types) c.as_slice-items.result.now c.loop-number.number c.index-items-number.result c.loop-number.found c.in-Err.error
    (slice_get_read c.as_slice-items.result.now _ c.loop-number.number c.index-items-number.result refl c.loop-number-test.true c.index-items-number.is) (c.loop-number.invariant.behind declared r) (λ items types k. c.in-Err.ensures.err (first_context c.args.d.now.types declared) items types k))

pub loop-number-preserved : goal.loop-number-preserved
loop-number-preserved c = record {
  behind = λ declared r.
      next_behind (store c.loop-number.solver) (store c.infer_item.new.solver) c.args.d.now.types (first_context c.args.d.now.types declared) (steps_of_item c.args.s.now.refs c.args.s.now.types) c.as_slice-items.result.now c.loop-number.number c.index-items-number.result c.loop-number.found c.infer_item.new.found
      (slice_get_read c.as_slice-items.result.now _ c.loop-number.number c.index-items-number.result refl c.loop-number-test.true c.index-items-number.is) (c.loop-number.invariant.behind declared r) (λ items types k. c.in_default.ensures.ok (first_context c.args.d.now.types declared) items types k);
  runs = λ declared r.
      items_next (steps_of_item c.args.s.now.refs c.args.s.now.types) c.args.d.now.types (first_context c.args.d.now.types declared) (store c.in_ok-solver.solver) (store c.loop-number.solver) (store c.infer_item.new.solver) c.in_ok-solver.solver.slots c.loop-number.solver.slots c.infer_item.new.solver.slots c.as_slice-items.result.now c.loop-number.number c.index-items-number.result c.loop-number.found
      (slice_get_read c.as_slice-items.result.now _ c.loop-number.number c.index-items-number.result refl c.loop-number-test.true c.index-items-number.is) (c.loop-number.invariant.runs declared r) (c.loop-number.invariant.behind declared r) c.in_default.ensures.slots;
}

pub returns-in-Some-clause-err : goal.returns-in-Some-clause-err
returns-in-Some-clause-err c = λ declared r.
    let items : c.as_slice-items.result.now ≡ c.args.s.now.program.items = c.as_slice-items.ensures ∙ ap (λ p. p.items) c.program-program.ensures in
    subst (λ (is : List Item). IsRefusedBy (first_context c.args.d.now.types declared) (map (steps_of_item c.args.s.now.refs c.args.s.now.types) is) (Refused (record { rule = Comparison; span = c.in-Some.span }))) items
    (compares_badly (store c.loop-number.solver) c.args.d.now.types (first_context c.args.d.now.types declared) _ c.loop-number.found c.in-Some.span c.in-Some.is
    (all_behind (store c.loop-number.solver) c.args.d.now.types (first_context c.args.d.now.types declared) (steps_of_item c.args.s.now.refs c.args.s.now.types) c.as_slice-items.result.now c.loop-number.number c.loop-number.found c.loop-number-test.false (c.loop-number.invariant.behind declared r)))

pub returns-clause-ok : goal.returns-clause-ok
returns-clause-ok c = λ declared r.
    let items : c.as_slice-items.result.now ≡ c.args.s.now.program.items = c.as_slice-items.ensures ∙ ap (λ p. p.items) c.program-program.ensures in
    let behind = all_behind (store c.loop-number.solver) c.args.d.now.types (first_context c.args.d.now.types declared) (steps_of_item c.args.s.now.refs c.args.s.now.types) c.as_slice-items.result.now c.loop-number.number c.loop-number.found c.loop-number-test.false (c.loop-number.invariant.behind declared r) in
    typed_as (store c.loop-number.solver) c.args.d.now.types (first_context c.args.d.now.types declared) (map (steps_of_item c.args.s.now.refs c.args.s.now.types) c.args.s.now.program.items) c.loop-number.found c.args.s.now.program.nodes c.in_ok-typed-in-None.field-0 c.in-None.is
    (subst (λ (is : List Item). SomeBehind (store c.loop-number.solver) c.args.d.now.types (first_context c.args.d.now.types declared) (map (steps_of_item c.args.s.now.refs c.args.s.now.types) is) c.loop-number.found) items behind)
    (λ noted named shown schemes. subst (λ p. Fills noted named p.nodes c.in_ok-typed-in-None.field-0) c.program-program.ensures (c.in_ok-typed-in-None.ensures.fills noted named shown schemes))

pub returns-clause-slots : goal.returns-clause-slots
returns-clause-slots c = λ declared r.
    record {
      first = store c.in_ok-solver.solver;
      first_slot = c.in_ok-solver.solver.slots;
      read = c.in_ok-solver.ensures.read declared r;
      forgotten = c.in_ok-solver.ensures.forgotten;
      last = store c.loop-number.solver;
      last_slot = c.loop-number.solver.slots;
      runs = items_all (steps_of_item c.args.s.now.refs c.args.s.now.types) c.args.d.now.types (store c.in_ok-solver.solver) (store c.loop-number.solver) c.in_ok-solver.solver.slots c.loop-number.solver.slots c.as_slice-items.result.now c.args.s.now.program.items c.loop-number.number c.loop-number-test.false (c.as_slice-items.ensures ∙ ap (λ p. p.items) c.program-program.ensures) (c.loop-number.invariant.runs declared r);
      table = c.in_ok-typed-in-None.ensures.table;
    }
