use Rattle.hm_terms.specs.Stores.{store}
use Rattle.hm_infer.proofs.Starting.{basic_stand}
use Rattle.hm_infer.proofs.operations.basic_types.Goals as goal

pub returns : goal.returns
returns c = λ first.
    basic_stand (store c.args.solver.now) (store c.plain.new.solver) (store c.plain-2.new.solver) (store c.plain-3.new.solver) (store c.plain-4.new.solver) (store c.add.new.self)
    (record { int = c.in_ok-int.int; char = c.in_ok-char.char; string = c.in_ok-string.string; unit = c.in_ok-unit.unit; any = c.in_ok-any.any }) first
    c.in_ok-int.ensures c.in_ok-char.ensures c.in_ok-string.ensures c.in_ok-unit.ensures c.in_ok-any.ensures.adds
