use Rattle.ml_decls.proofs.Trees.{making_perhaps}
use Rattle.ml_decls.proofs.table.Making.push.Goals as goal

pub invariant_of-self : goal.invariant_of-self
invariant_of-self c = record { well_made = making_perhaps c.push.result c.args.self.now.nodes c.push.new.self c.args.node c.args.self.now.arrows c.args.self.now.well_made c.requires.plain c.requires.before c.push.ensures.ok c.push.ensures.err }
