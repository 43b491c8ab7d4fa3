use Rattle.std.proofs.Common.{◌+◌, List, sym, subst, ◌∙◌}
use Rattle.ml_types.specs.declared.node.Scheme.{Scheme}
use Rattle.hm_terms.specs.Stores.{store}
use Rattle.hm_infer.specs.Tables.{Collects}
use Rattle.hm_infer.proofs.Tabling.{skips, pushes}
use Rattle.hm_infer.proofs.table.push_scheme.Goals as goal

pub returns-in_default : goal.returns-in_default
returns-in_default c = λ named shows k. skips (store c.args.solver.now) named c.args.number c.args.schemes.now (sym c.scheme.ensures ∙ c.in_default.is) shows k

pub returns : goal.returns
returns c = λ named shows k.
    subst (λ (ss : List Scheme). Collects (store c.args.solver.now).nodes (store c.args.solver.now).bound named (c.args.number + 1) ss) (sym c.in_ok-push.ensures.ok)
    (pushes (store c.args.solver.now) named c.args.number c.in-Some.ty c.in_ok-scheme.scheme c.args.schemes.now (sym c.scheme.ensures ∙ c.in-Some.is) c.in_ok-scheme.ensures shows k)
