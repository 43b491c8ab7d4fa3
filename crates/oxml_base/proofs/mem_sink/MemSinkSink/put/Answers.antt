use Rattle.std.proofs.Common.{◌≡◌, ◌-◌, ◌++◌, take, refl, subst, ◌∙◌, arith}
use Rattle.std.proofs.lemmas.Grind.{common_steps}
use Rattle.oxml_base.specs.Outside.{Rose}
use Rattle.oxml_base.specs.MemorySink.{sink_view}
use Rattle.oxml_base.proofs.SinkLemmas.{fails_after_part}
use Rattle.oxml_base.proofs.mem_sink.MemSinkSink.put.Goals as goal

-- what fits is a first part of the piece
pub returns-then-left-piece-clause-err : goal.returns-then-left-piece-clause-err
returns-then-left-piece-clause-err c =
    let taken : c.note-then-left-piece.new.self.taken.items ≡ c.args.self.now.taken.items ++ take (c.next_put_fails.new.self.room - c.len.result) c.args.piece.now = grind (arith, common_steps) in
    let rose : Rose c.args.self.now.faults c.note-then-left-piece.new.self.faults = let e : c.append.new.self.faults ≡ c.args.self.now.faults = c.append.ensures.faults ∙ c.next_put_fails.ensures.faults in subst (λ n. Rose n c.note-then-left-piece.new.self.faults) e c.note-then-left-piece.ensures.rose in
    fails_after_part (sink_view c.args.self.now) (sink_view c.note-then-left-piece.new.self) c.args.piece.now _ refl taken rose
