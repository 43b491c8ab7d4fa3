use Rattle.ml_decls.proofs.Finds.{is_find}
use Rattle.ml_decls.proofs.references.target.Goals as goal

pub returns : goal.returns
returns c = is_find c.type_target.result _ c.args.id c.args.s.now.types_rise c.type_target.ensures.some c.type_target.ensures.none
