use Rattle.std.proofs.Common.{refl, sym}
use Rattle.hm_infer.proofs.run.part_of.Goals as goal

pub returns-in-Some : goal.returns-in-Some
returns-in-Some c = (c.in-Some.equation.now, sym c.in-Some.ensures, refl)
