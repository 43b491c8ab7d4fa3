use Rattle.std.proofs.Common.{ℕ, refl}
use Rattle.std.proofs.lemmas.Result.{IfOk-weaker}
use Rattle.ml_typing.specs.declared.equation.Unknown.TheVariants.{Fresh}
use Rattle.ml_typing.specs.Terms.{Is}
use Rattle.hm_terms.proofs.lowering.fresh_instance.Goals as goal

pub returns-clause-lowers : goal.returns-clause-lowers
returns-clause-lowers c = IfOk-weaker c.instance.result _ _ (λ x k w r s. k (λ (v : ℕ). Is (Fresh c.args.node v)) w r (λ n. refl) s) c.instance.ensures.lowers
