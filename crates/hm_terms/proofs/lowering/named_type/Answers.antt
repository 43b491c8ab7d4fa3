use Rattle.std.proofs.Common.{List, refl, sym, subst}
use Rattle.std.specs.List.{slice_get}
use Rattle.std.proofs.lemmas.Result.{IfOk-weaker}
use Rattle.ml_types.specs.declared.node.TyId.{TyId}
use Rattle.ml_typing.specs.Terms.{Shape, shape_at}
use Rattle.hm_terms.specs.Stores.{store}
use Rattle.hm_terms.specs.Shapes.{Lowers, HoldAll}
use Rattle.hm_terms.proofs.Building.{con_lowers, lowers_all_same}
use Rattle.hm_terms.proofs.Contexts.{named_plain, named_abbreviation}
use Rattle.hm_terms.proofs.SpellSteps.{plain_makes, expanded_makes}
use Rattle.hm_terms.proofs.lowering.named_type.Goals as goal

pub returns-in-None-clause-lowers : goal.returns-in-None-clause-lowers
returns-in-None-clause-lowers c = IfOk-weaker c.add.result _ _
    (λ x a d hs k all.
    subst (λ (h : Shape). Lowers (store c.args.solver.now) (store c.add.new.self) h x) (sym (named_plain d.declared c.args.decl hs (slice_get c.args.d.now.types c.args.decl) (sym c.in-None.ensures)))
    (con_lowers (store c.args.solver.now) (store c.args.solver.now) (store c.add.new.self) c.args.decl hs c.args.args x k.ready (lowers_all_same (store c.args.solver.now) hs c.args.args all) a))
    c.add.ensures.adds

pub returns-in_ok-expanded-in-Some-clause-lowers : goal.returns-in_ok-expanded-in-Some-clause-lowers
returns-in_ok-expanded-in-Some-clause-lowers c = IfOk-weaker c.instance.result _ _
    (λ x l d hs k all.
    let at = sym c.in-Some.ensures in
    let shown = k.declared c.in-Some.body c.in_ok-expanded-in-Some.expanded c.in_ok-expanded-in-Some.ensures in
    subst (λ (h : Shape). Lowers (store c.args.solver.now) (store c.instance.new.solver) h x) (sym (named_abbreviation d.declared c.args.decl hs (slice_get c.args.d.now.types c.args.decl) c.in-Some.body at))
    (l (shape_at hs) (d.declared c.in-Some.body) k.ready (hs, subst (λ (xs : List TyId). HoldAll (store c.args.solver.now) hs xs) (sym c.as_slice.ensures) all, λ n. refl) shown.stands))
    c.instance.ensures.lowers

pub returns-in-None-clause-makes : goal.returns-in-None-clause-makes
returns-in-None-clause-makes c = IfOk-weaker c.add.result _ _
    (λ x a r. plain_makes (store c.args.solver.now) (store c.add.new.self) c.args.decl _ c.args.args x (sym c.in-None.ensures) a)
    c.add.ensures.adds

pub returns-in_ok-expanded-in-Some-clause-makes : goal.returns-in_ok-expanded-in-Some-clause-makes
returns-in_ok-expanded-in-Some-clause-makes c = IfOk-weaker c.instance.result _ _
    (λ x m r. expanded_makes (store c.args.solver.now) (store c.instance.new.solver) c.args.decl _ c.in-Some.body c.in_ok-expanded-in-Some.expanded c.args.args _ x (sym c.in-Some.ensures) c.in_ok-expanded-in-Some.ensures c.as_slice.ensures (m r))
    c.instance.ensures.copies
