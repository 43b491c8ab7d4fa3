use Rattle.std.proofs.Common.{subst}
use Rattle.hm_unify.specs.Verdicts.{Judged}
use Rattle.hm_unify.proofs.Verdicts.{NoFinite-infinite}
use Rattle.hm_unify.proofs.judge.is_fault.Goals as goal

pub returns-in-Clash : goal.returns-in-Clash
returns-in-Clash c = λ nodes bound pairs h. NoFinite-infinite nodes bound pairs (subst (Judged nodes bound pairs) c.in-Clash.is h)

pub returns-in-Cycle : goal.returns-in-Cycle
returns-in-Cycle c = λ nodes bound pairs h. (subst (Judged nodes bound pairs) c.in-Cycle.is h).1

pub returns-in-TooLarge : goal.returns-in-TooLarge
returns-in-TooLarge c = λ nodes bound pairs h. (subst (Judged nodes bound pairs) c.in-TooLarge.is h).some

pub returns-in-Small : goal.returns-in-Small
returns-in-Small c = λ nodes bound pairs h. (let f = subst (Judged nodes bound pairs) c.in-Small.is h in (f.0, f.1, f.2))
