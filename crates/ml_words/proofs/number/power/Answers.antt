use Rattle.std.proofs.Common.{pos, FitsSigned, w64, to_z, subst, sym, ap, ◌∙◌}
use Rattle.ml_words.proofs.Numbers.{power_value, power_fits, power_signed}
use Rattle.ml_words.proofs.number.power.Goals as goal

pub overflow_cast-result-2 : goal.overflow_cast-result-2
overflow_cast-result-2 c = subst (λ n. FitsSigned w64 (pos n)) (sym (power_value c.args.count c.requires)) (power_fits c.args.count c.requires)

pub returns : goal.returns
returns c = ap (to_z w64) (power_value c.args.count c.requires) ∙ power_signed c.args.count c.requires
