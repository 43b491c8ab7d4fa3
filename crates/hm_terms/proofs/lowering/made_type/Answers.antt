use Rattle.std.proofs.Common.{ℕ, subst}
use Rattle.std.specs.List.{slice_get}
use Rattle.std.proofs.lemmas.Result.{IfOk-weaker}
use Rattle.ml_typing.specs.Terms.{fresh_from}
use Rattle.hm_terms.specs.Stores.{store, Grows}
use Rattle.hm_terms.specs.Shapes.{LowersAll}
use Rattle.hm_terms.proofs.Building.{made_lowers}
use Rattle.hm_terms.specs.Spelling.{AreFresh}
use Rattle.hm_terms.proofs.SpellSteps.{made_makes}
use Rattle.hm_terms.specs.Contexts.{vars_of}
use Rattle.hm_terms.proofs.lowering.made_type.Goals as goal

pub returns-clause-lowers : goal.returns-clause-lowers
returns-clause-lowers c = IfOk-weaker c.add.result _ _ (λ x a r.
    made_lowers (store c.args.solver.now) (store c.fresh_types.new.solver) (store c.add.new.self) c.args.decl c.args.node (slice_get c.args.d.now.types c.args.decl) c.in_ok-ids.ids x r
    (subst (λ (n : ℕ). LowersAll (store c.args.solver.now) (store c.fresh_types.new.solver) (fresh_from c.args.node n 0) c.in_ok-ids.ids) c.variables.ensures (c.in_ok-ids.ensures.lowers r)) a) c.add.ensures.adds

pub returns-clause-makes : goal.returns-clause-makes
returns-clause-makes c = IfOk-weaker c.add.result _ _
    (λ x a. made_makes (store c.args.solver.now) (store c.fresh_types.new.solver) (store c.add.new.self) c.args.decl c.args.node (vars_of (slice_get c.args.d.now.types c.args.decl)) c.in_ok-ids.ids x
    (subst (λ (n : ℕ). Grows (store c.args.solver.now) (store c.fresh_types.new.solver) × AreFresh (store c.fresh_types.new.solver) c.args.node n c.in_ok-ids.ids) c.variables.ensures c.in_ok-ids.ensures.fresh) a)
    c.add.ensures.adds
