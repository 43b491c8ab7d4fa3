use Rattle.ml_values.specs.Shown.{values_list}
use Rattle.ml_steps.specs.Left.{next_run}
use Rattle.ml_steps.specs.Worlds.{setting_of}
use Rattle.ml_run.proofs.Bindings.{word_began, word_end, word_more}
use Rattle.ml_run.proofs.items.item_words.Goals as goal

pub returns-in_err-word-clause-out : goal.returns-in_err-word-clause-out
returns-in_err-word-clause-out c =
    word_began (setting_of c.args.world) c.args.fuel c.args.out.now.items c.loop-bind.out.items c.evaluate.new.out.items c.args.binds.now c.loop-bind.left.now c.in-Some.before.now c.in-Some.bind.now (values_list c.loop-bind.words) (next_run (setting_of c.args.world) c.bound_next.result) c.loop-bind.invariant c.in-Some.ensures.cases.0 (c.bound_next.ensures (setting_of c.args.world)) c.evaluate.ensures.out

pub returns-in_err-words-in-Value-clause-out : goal.returns-in_err-words-in-Value-clause-out
returns-in_err-words-in-Value-clause-out c =
    word_began (setting_of c.args.world) c.args.fuel c.args.out.now.items c.loop-bind.out.items c.evaluate.new.out.items c.args.binds.now c.loop-bind.left.now c.in-Some.before.now c.in-Some.bind.now (values_list c.loop-bind.words) (next_run (setting_of c.args.world) c.bound_next.result) c.loop-bind.invariant c.in-Some.ensures.cases.0 (c.bound_next.ensures (setting_of c.args.world)) c.in_ok-word.ensures.out

pub returns-in-End-clause-ended : goal.returns-in-End-clause-ended
returns-in-End-clause-ended c =
    word_end (setting_of c.args.world) c.args.fuel c.args.out.now.items c.loop-bind.out.items c.evaluate.new.out.items c.args.binds.now c.loop-bind.left.now c.in-Some.before.now c.in-Some.bind.now (values_list c.loop-bind.words) (next_run (setting_of c.args.world) c.bound_next.result) c.in_ok-word.field-0 c.in-End.ending c.loop-bind.invariant c.in-Some.ensures.cases.0 (c.bound_next.ensures (setting_of c.args.world)) c.in_ok-word.ensures.ended c.in-End.is

pub returns-in-End-clause-out : goal.returns-in-End-clause-out
returns-in-End-clause-out c =
    word_began (setting_of c.args.world) c.args.fuel c.args.out.now.items c.loop-bind.out.items c.evaluate.new.out.items c.args.binds.now c.loop-bind.left.now c.in-Some.before.now c.in-Some.bind.now (values_list c.loop-bind.words) (next_run (setting_of c.args.world) c.bound_next.result) c.loop-bind.invariant c.in-Some.ensures.cases.0 (c.bound_next.ensures (setting_of c.args.world)) c.in_ok-word.ensures.out

pub loop-bind-preserved : goal.loop-bind-preserved
loop-bind-preserved c =
    word_more (setting_of c.args.world) c.args.fuel c.args.out.now.items c.loop-bind.out.items c.evaluate.new.out.items c.args.binds.now c.loop-bind.left.now c.in-Some.before.now c.in-Some.bind.now c.loop-bind.words c.in_ok-words-in-Value.words (next_run (setting_of c.args.world) c.bound_next.result) c.in_ok-word.field-0 c.in-Value.word c.loop-bind.invariant c.in-Some.ensures.cases.0 (c.bound_next.ensures (setting_of c.args.world)) c.in_ok-word.ensures.ended c.in-Value.is c.in_ok-words-in-Value.ensures
