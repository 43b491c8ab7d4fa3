use Rattle.std.proofs.Common.{rules}
use Rattle.hm_unify.proofs.Verdicts.{judged_first, judged_then, judged_large, judged_small}
use Rattle.hm_unify.proofs.judge.judge.Goals as goal

pub returns-in_default-all : goal.returns-in_default-all
returns-in_default-all c =
    judged_first c.args.nodes.now c.args.bound.now c.requires.sound.tabled c.args.pairs.now c.in-Some.field-0.classes c.in-Some.field-0.seen.items c.as_slice.result.now c.new-marks.result c.largest.new.marks c.in_ok-all.all (search rules) c.new-marks.ensures c.in_ok-all.ensures c.in_default-all.is

pub returns-in_default-most : goal.returns-in_default-most
returns-in_default-most c =
    judged_then c.args.nodes.now c.args.bound.now c.requires.sound.tabled c.args.pairs.now c.in-Some.field-0.classes c.in-Some.field-0.seen.items c.as_slice.result.now c.new-marks.result c.largest.new.marks c.largest-2.new.marks c.in_ok-all.all c.in_ok-most.most c.in-Some-all._all (search rules) c.new-marks.ensures c.in_ok-all.ensures c.in-Some-all.is c.in_ok-most.ensures c.in_default-most.is

pub returns-then-size-gt2000 : goal.returns-then-size-gt2000
returns-then-size-gt2000 c =
    judged_large c.args.nodes.now c.args.bound.now c.requires.sound.tabled c.requires.sound.solvable c.args.pairs.now c.in-Some.field-0.classes c.in-Some.field-0.seen.items c.as_slice.result.now c.new-marks.result c.largest.new.marks c.largest-2.new.marks c.in_ok-all.all c.in_ok-most.most c.in-Some-all._all c.in-Some-most.size (search rules) (search rules) c.new-marks.ensures c.in_ok-all.ensures c.in-Some-all.is c.in_ok-most.ensures c.in-Some-most.is c.requires.within c.if-size-gt2000.true

pub returns : goal.returns
returns c =
    judged_small c.args.nodes.now c.args.bound.now c.requires.sound.tabled c.requires.sound.solvable c.args.pairs.now c.in-Some.field-0.classes c.in-Some.field-0.seen.items c.as_slice.result.now c.new-marks.result c.largest.new.marks c.largest-2.new.marks c.in_ok-all.all c.in_ok-most.most c.in-Some-all._all c.in-Some-most.size (search rules) (search rules) c.new-marks.ensures c.in_ok-all.ensures c.in-Some-all.is c.in_ok-most.ensures c.in-Some-most.is c.if-size-gt2000.false
