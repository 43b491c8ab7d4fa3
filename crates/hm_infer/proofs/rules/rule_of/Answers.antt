use Rattle.ml_typing.specs.Typing.{pairs}
use Rattle.hm_terms.specs.Stores.{store}
use Rattle.hm_infer.proofs.Decided.{types_differ, infinite_type}
use Rattle.hm_infer.proofs.rules.rule_of.Goals as goal

pub returns-in-Err-Clash : goal.returns-in-Err-Clash
returns-in-Err-Clash c = λ d k.
    types_differ (store c.args.solver.now) (store c.next_item.new.self) (store c.all_pairs.new.solver) c.args.d.now.types d (pairs d c.args.steps.now) c.as_slice.result.now c.in_ok-all.all.items c.in-Err-Clash.field-0 c.in-Err-Clash.field-0-0 k c.next_item.ensures.forgets c.sound.ensures (c.in_ok-all.ensures d) c.sound-2.ensures c.as_slice.ensures.value c.in-Err-Clash.field-0-is c.in-Err-Clash.ensures.err

pub returns-in-Err-Cycle : goal.returns-in-Err-Cycle
returns-in-Err-Cycle c = λ d k.
    infinite_type (store c.args.solver.now) (store c.next_item.new.self) (store c.all_pairs.new.solver) c.args.d.now.types d (pairs d c.args.steps.now) c.as_slice.result.now c.in_ok-all.all.items c.in-Err-Cycle.field-0 c.in-Err-Cycle.field-0-0 k c.next_item.ensures.forgets c.sound.ensures (c.in_ok-all.ensures d) c.sound-2.ensures c.as_slice.ensures.value c.in-Err-Cycle.field-0-is c.in-Err-Cycle.ensures.err
