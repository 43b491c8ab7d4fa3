use Rattle.ml_steps.specs.Worlds.{setting_of}
use Rattle.ml_run.proofs.Bindings.{item_began, item_end, item_entering, item_leaving, item_left}
use Rattle.ml_run.proofs.items.run_item.Goals as goal

pub returns-in_err-enter-clause-out : goal.returns-in_err-enter-clause-out
returns-in_err-enter-clause-out c = item_entering c.args.world c.args.fuel c.args.kind.now c.args.out.now.items c.enter.new.out.items c.in_ok-weight.weight (c.in_ok-weight.ensures (setting_of c.args.world)) c.enter.ensures.out

pub returns-in_err-names-clause-out : goal.returns-in_err-names-clause-out
returns-in_err-names-clause-out c =
    item_began c.args.world c.args.fuel c.args.kind.now c.args.out.now.items c.enter.new.out.items c.item_names.new.out.items c.in_ok-weight.weight (c.in_ok-weight.ensures (setting_of c.args.world)) c.in_ok-enter.ensures.all c.item_names.ensures.out

pub returns-in_err-leave-in-Names-clause-out : goal.returns-in_err-leave-in-Names-clause-out
returns-in_err-leave-in-Names-clause-out c =
    item_leaving c.args.world c.args.fuel c.args.kind.now c.args.out.now.items c.enter.new.out.items c.item_names.new.out.items c.leave.new.out.items c.in_ok-weight.weight c.in_ok-names.field-0 c.in-Names.names (c.in_ok-weight.ensures (setting_of c.args.world)) c.in_ok-enter.ensures.all c.in_ok-names.ensures.ended c.in-Names.is c.leave.ensures.out

pub returns-in_ok-leave-in-Names-clause-ended : goal.returns-in_ok-leave-in-Names-clause-ended
returns-in_ok-leave-in-Names-clause-ended c =
    item_left c.args.world c.args.fuel c.args.kind.now c.args.out.now.items c.enter.new.out.items c.item_names.new.out.items c.leave.new.out.items c.in_ok-weight.weight c.in_ok-names.field-0 c.in-Names.names (c.in_ok-weight.ensures (setting_of c.args.world)) c.in_ok-enter.ensures.all c.in_ok-names.ensures.ended c.in-Names.is c.in_ok-leave-in-Names.ensures.all

pub returns-in_ok-leave-in-Names-clause-out : goal.returns-in_ok-leave-in-Names-clause-out
returns-in_ok-leave-in-Names-clause-out c =
    item_leaving c.args.world c.args.fuel c.args.kind.now c.args.out.now.items c.enter.new.out.items c.item_names.new.out.items c.leave.new.out.items c.in_ok-weight.weight c.in_ok-names.field-0 c.in-Names.names (c.in_ok-weight.ensures (setting_of c.args.world)) c.in_ok-enter.ensures.all c.in_ok-names.ensures.ended c.in-Names.is c.in_ok-leave-in-Names.ensures.out

pub returns-in-End-clause-ended : goal.returns-in-End-clause-ended
returns-in-End-clause-ended c =
    item_end c.args.world c.args.fuel c.args.kind.now c.args.out.now.items c.enter.new.out.items c.item_names.new.out.items c.in_ok-weight.weight c.in_ok-names.field-0 c.in-End.ending (c.in_ok-weight.ensures (setting_of c.args.world)) c.in_ok-enter.ensures.all c.in_ok-names.ensures.ended c.in-End.is

pub returns-in-End-clause-out : goal.returns-in-End-clause-out
returns-in-End-clause-out c =
    item_began c.args.world c.args.fuel c.args.kind.now c.args.out.now.items c.enter.new.out.items c.item_names.new.out.items c.in_ok-weight.weight (c.in_ok-weight.ensures (setting_of c.args.world)) c.in_ok-enter.ensures.all c.in_ok-names.ensures.out
