use Rattle.std.proofs.Common.{Option, IfSome, subst, arith}
use Rattle.std.proofs.lemmas.List.{length_push}
use Rattle.mode_lattice.specs.declared.clause.Clause.{Clause}
use Rattle.mode_lattice.specs.declared.clause.Form.{Form}
use Rattle.mode_lattice.specs.Clauses.{IsBelow}
use Rattle.mode_lattice.proofs.ClauseLaws.{IsClosed-nil, IsClosed-push}
use Rattle.mode_solver.proofs.tests.clauses.Goals as goal

pub loop-word-init : goal.loop-word-init
loop-word-init c = rw c.new-list.ensures (record { closed = IsClosed-nil c.args.bits; short = omega arith })

pub loop-word-preserved : goal.loop-word-preserved
loop-word-preserved c =
    let P : Option Form → Type 0 = λ o. IfSome o (λ f. IsBelow c.args.bits f) in
    let below : IsBelow c.args.bits c.in_ok-form.form = subst P c.in_ok-form.ensures.ok_part c.form.ensures in
    rw c.in_ok-push.ensures.ok (record {
      closed = IsClosed-push c.args.bits c.loop-word.list _ c.loop-word.invariant.closed below;
      short = omega (arith, length_push {X = Clause}, c.in_ok-try_from.ensures.0, c.len.ensures);
    })
