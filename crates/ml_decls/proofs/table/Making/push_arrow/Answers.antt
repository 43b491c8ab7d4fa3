use Rattle.ml_decls.proofs.Trees.{making_arrow}
use Rattle.ml_decls.proofs.table.Making.push_arrow.Goals as goal

pub invariant_of-self-2 : goal.invariant_of-self-2
invariant_of-self-2 c = record { well_made = making_arrow c.args.self.now.nodes c.push.new.self c.args.self.now.arrows c.in_ok-arrows.arrows c.args.from c.args.to c.args.self.now.well_made c.requires.from c.requires.to c.in_ok-arrows.ensures c.in_ok-push.ensures.ok }
