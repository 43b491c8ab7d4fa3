use Rattle.std.proofs.Common.{sym}
use Rattle.ml_scope.proofs.Targets.{found_at}
use Rattle.ml_scope.proofs.free.target_at.Goals as goal

pub returns-in-Some : goal.returns-in-Some
returns-in-Some c = sym (found_at c.args.s.now.refs c.args.node c.in-Some.target c.args.s.now.refs_rise c.in-Some.ensures.some)
