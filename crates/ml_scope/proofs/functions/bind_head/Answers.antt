use Rattle.std.proofs.Common.{rules}
use Rattle.ml_scope.proofs.functions.bind_head.Goals as goal

pub returns : goal.returns
returns c = let pat = c.shape.ensures c.args.known.now in let body = c.shape-2.ensures c.args.known.now in search rules
