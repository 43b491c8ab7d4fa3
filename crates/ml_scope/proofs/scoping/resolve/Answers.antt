use Rattle.std.proofs.Common.{subst}
use Rattle.ml_scope.specs.Resolving.{HasNames}
use Rattle.ml_scope.proofs.ProgramGrows.{refs_rise, types_rise}
use Rattle.ml_scope.proofs.scoping.resolve.Goals as goal

pub new-requires-clause-refs : goal.new-requires-clause-refs
new-requires-clause-refs c = refs_rise c.args.text.now c.args.p c.in-Ok.found c.requires (subst (λ items. HasNames c.args.text.now items c.in-Ok.found) c.as_slice.ensures c.in-Ok.ensures.ok)

pub new-requires-clause-types : goal.new-requires-clause-types
new-requires-clause-types c = types_rise c.args.text.now c.args.p c.in-Ok.found c.requires (subst (λ items. HasNames c.args.text.now items c.in-Ok.found) c.as_slice.ensures c.in-Ok.ensures.ok)
