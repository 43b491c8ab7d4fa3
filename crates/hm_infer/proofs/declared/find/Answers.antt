use Rattle.std.proofs.Common.{◌≡◌, Some, sym, ap, ◌∙◌}
use Rattle.std.specs.List.{slice_get}
use Rattle.std.specs.Option.{option_copied}
use Rattle.std.proofs.lemmas.Result.{IfOk-weaker}
use Rattle.hm_terms.specs.Stores.{store}
use Rattle.hm_infer.proofs.Declarations.{found_body, found_built}
use Rattle.hm_infer.proofs.declared.find.Goals as goal

pub returns-in-Some-body_of : goal.returns-in-Some-body_of
returns-in-Some-body_of c = IfOk-weaker c.expanded.result _ _ (λ o f.
    let at : slice_get c.args.table.now.nodes c.args.ty.0 ≡ Some c.in-Some.node.now = ap (λ ns. slice_get ns c.args.ty.0) (sym c.as_slice.ensures) ∙ sym c.at.ensures ∙ ap option_copied c.in-Some.is in
    found_body c.args.d.now.types c.args.table.now.nodes (store c.args.solver.now) (store c.expanded.new.solver) c.args.ty c.in-Some-body_of.body c.in-Some.node.now o at (sym c.in-Some-body_of.ensures) f) c.expanded.ensures

pub returns-in-None : goal.returns-in-None
returns-in-None c = IfOk-weaker c.built.result _ _ (λ o f.
    let at : slice_get c.args.table.now.nodes c.args.ty.0 ≡ Some c.in-Some.node.now = ap (λ ns. slice_get ns c.args.ty.0) (sym c.as_slice.ensures) ∙ sym c.at.ensures ∙ ap option_copied c.in-Some.is in
    found_built c.args.d.now.types c.args.table.now.nodes (store c.args.solver.now) (store c.built.new.solver) c.args.ty c.in-Some.node.now o at (sym c.in-None.ensures) f) c.built.ensures
