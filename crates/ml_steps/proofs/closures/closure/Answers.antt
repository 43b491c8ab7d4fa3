use Rattle.std.proofs.Common.{sym, ap}
use Rattle.std.specs.Option.{option_map}
use Rattle.ml_functions.specs.Table.{code_of}
use Rattle.ml_steps.specs.Worlds.{setting_of}
use Rattle.ml_steps.proofs.Called.{closure_is}
use Rattle.ml_steps.proofs.Runs.{nexts_as}
use Rattle.ml_steps.proofs.closures.closure.Goals as goal

pub returns : goal.returns
returns c =
    let s = setting_of c.args.world in
    nexts_as s c.args.told.now.items c.close_over.new.told.items c.close_over.result _ _
    (closure_is s c.args.node c.args.here (code_of c.in-Some.function) (ap (option_map code_of) (sym c.in-Some.ensures)))
    c.close_over.ensures
