use Rattle.std.proofs.Common.{◌<◌, length, arith}
use Rattle.mode_solver.proofs.Lists.{entry_within}
use Rattle.mode_solver.proofs.search.Search.conflict.Goals as goal

pub index-requires : goal.index-requires
index-requires c =
    let within : c.args.bit.0 < length c.args.self.now.forbidden.items = entry_within _ _ _ c.requires.blocked.forbids.1 in
    omega arith
