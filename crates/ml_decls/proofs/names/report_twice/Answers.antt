use Rattle.std.proofs.Common.{ℕ, ◌∙◌}
use Rattle.std.specs.Global.{Vec}
use Rattle.ml_decls.proofs.Seen.{so_far_start, so_far_step, so_far_end}
use Rattle.ml_decls.proofs.Members.{same_at}
use Rattle.ml_decls.proofs.names.report_twice.Goals as goal

pub loop-name-init : goal.loop-name-init
loop-name-init c = so_far_start c.args.text.now (λ (key : Vec ℕ). key.items) _ c.args.names.now _ c.new-seen.ensures.empty

pub loop-name-preserved : goal.loop-name-preserved
loop-name-preserved c = so_far_step c.args.text.now (λ (key : Vec ℕ). key.items) _ _ c.args.names.now c.loop-name.name-index _ _ _ _ _ _ c.loop-name.invariant c.loop-name-test.true (same_at c.args.names.now c.loop-name.name-index _ c.loop-name-test.true) (c.in_ok-key.ensures.items ∙ c.bytes_at.ensures) c.in_ok-was.ensures.was c.in_ok-was.ensures.now c.in_ok-offence_where.ensures

pub returns : goal.returns
returns c = so_far_end c.args.text.now (λ (key : Vec ℕ). key.items) _ c.args.names.now c.loop-name.name-index _ _ c.loop-name-test.false c.loop-name.invariant
