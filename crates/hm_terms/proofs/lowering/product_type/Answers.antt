use Rattle.std.proofs.Common.{length, ap, sym, ◌∙◌, refl}
use Rattle.std.proofs.lemmas.Result.{IfOk-weaker}
use Rattle.hm_terms.specs.Stores.{store}
use Rattle.hm_terms.proofs.Building.{only_product, several_product}
use Rattle.hm_terms.proofs.SpellSteps.{product_makes}
use Rattle.hm_terms.proofs.lowering.product_type.Goals as goal

pub returns-in-Some-clause-lowers : goal.returns-in-Some-clause-lowers
returns-in-Some-clause-lowers c = λ hs r k. only_product (store c.args.solver.now) hs c.args.ids c.in-Some.id (sym c.as_slice.ensures ∙ c.in-Some.ensures.some) k

pub returns-in-None-clause-lowers : goal.returns-in-None-clause-lowers
returns-in-None-clause-lowers c = IfOk-weaker c.add.result _ _ (λ x a hs r k. several_product (store c.args.solver.now) (store c.add.new.self) hs c.args.ids x (λ e. c.in-None.ensures.none refl (ap length c.as_slice.ensures ∙ e)) r k a) c.add.ensures.adds

pub returns-in-None-clause-makes : goal.returns-in-None-clause-makes
returns-in-None-clause-makes c = IfOk-weaker c.add.result _ _ (λ x a. product_makes (store c.args.solver.now) (store c.add.new.self) c.args.ids x (λ e. c.in-None.ensures.none refl (ap length c.as_slice.ensures ∙ e)) a) c.add.ensures.adds
