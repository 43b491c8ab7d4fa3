use Rattle.ml_steps.specs.Worlds.{setting_of}
use Rattle.ml_run.proofs.Bindings.{names_answer, names_began, names_end, names_on}
use Rattle.ml_run.proofs.items.item_names.Goals as goal

pub returns-in_err-words-in-Let-clause-out : goal.returns-in_err-words-in-Let-clause-out
returns-in_err-words-in-Let-clause-out c =
    names_began (setting_of c.args.world) c.args.fuel _ _ c.args.kind.now c.in-Let.recursive c.as_slice.result.now c.in-Let.binds c.in-Let.is c.as_slice.ensures c.item_words.ensures.out

pub returns-in-Values-clause-ended : goal.returns-in-Values-clause-ended
returns-in-Values-clause-ended c =
    names_answer (setting_of c.args.world) c.args.fuel _ c.item_words.new.out.items _ c.args.kind.now c.in-Let.recursive c.as_slice.result.now c.as_slice-in-Values.result.now c.in-Let.binds c.in_ok-words-in-Let.field-0 c.in-Values.words c.match_words.result c.in-Let.is c.as_slice.ensures c.as_slice-in-Values.ensures c.in_ok-words-in-Let.ensures.ended c.in-Values.is c.match_words.ensures.ended

pub returns-in-Values-clause-out : goal.returns-in-Values-clause-out
returns-in-Values-clause-out c =
    names_on (setting_of c.args.world) c.args.fuel _ c.item_words.new.out.items _ c.args.kind.now c.in-Let.recursive c.as_slice.result.now c.as_slice-in-Values.result.now c.in-Let.binds c.in_ok-words-in-Let.field-0 c.in-Values.words c.in-Let.is c.as_slice.ensures c.as_slice-in-Values.ensures c.in_ok-words-in-Let.ensures.ended c.in-Values.is c.match_words.ensures.out

pub returns-in-End-clause-ended : goal.returns-in-End-clause-ended
returns-in-End-clause-ended c =
    names_end (setting_of c.args.world) c.args.fuel _ _ c.args.kind.now c.in-Let.recursive c.as_slice.result.now c.in-Let.binds c.in_ok-words-in-Let.field-0 c.in-End.ending c.in-Let.is c.as_slice.ensures c.in_ok-words-in-Let.ensures.ended c.in-End.is

pub returns-in-End-clause-out : goal.returns-in-End-clause-out
returns-in-End-clause-out c =
    names_began (setting_of c.args.world) c.args.fuel _ _ c.args.kind.now c.in-Let.recursive c.as_slice.result.now c.in-Let.binds c.in-Let.is c.as_slice.ensures c.in_ok-words-in-Let.ensures.out
