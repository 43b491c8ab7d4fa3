use Rattle.std.proofs.Common.{◌≡◌, [], arith}
use Rattle.oxml_driver.proofs.BuiltInLemmas.{bind_decides}
use Rattle.oxml_driver.proofs.built_in.binds_function.Goals as goal

pub returns : goal.returns
returns c =
    let some : c.args.bind.now.params ≡ [] → ⊥ = λ none. grind (arith, c.is_empty.ensures, c.if-is_empty.false, none) in
    bind_decides c.args._scoped.now c.args.functions c.args.bind.now c.at.result c.captures_nothing.result c.requires.table some (c.binds_name.ensures.0 c.if-not-binds_name.false) c.at.ensures c.captures_nothing.ensures
