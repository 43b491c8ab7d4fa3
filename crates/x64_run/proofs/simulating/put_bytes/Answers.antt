-- Each byte that is pushed is the next of the write.
use Rattle.std.proofs.Common.{sym, ap, ◌∙◌, ◌++◌, append-nil, ◌≤◌, arith, unwrap_or}
use Rattle.x64_run.specs.Simulation.{pairs}
use Rattle.x64_run.proofs.Writes.{put_zero, put_more, put_part, pushed_ok, pushed_err}
use Rattle.x64_run.proofs.simulating.put_bytes.Goals as goal

pub loop-k-init : goal.loop-k-init
loop-k-init c =
    sym (append-nil (pairs c.args.out.now.items)) ∙ sym (ap (λ l. pairs c.args.out.now.items ++ l) (put_zero c.args.machine.now.segments c.args.channel c.args.at))

pub loop-k-preserved : goal.loop-k-preserved
loop-k-preserved c =
    put_more c.args.machine.now.segments c.args.channel c.args.at c.loop-k.k c.args.out.now.items c.loop-k.out.items c.push.new.self.items c.unwrap_or-byte.result c.loop-k.invariant (c.unwrap_or-byte.ensures ∙ ap (λ o. unwrap_or o 0) c.byte.ensures) (pushed_ok _ c.loop-k.out.items c.push.new.self.items (record { channel = c.args.channel; byte = c.unwrap_or-byte.result }) c.push.ensures.items c.if-is_err.ensures.negation)

pub returns-then-is_err-clause-err : goal.returns-then-is_err-clause-err
returns-then-is_err-clause-err c =
    let h : c.loop-k.k ≤ c.args.n = omega arith in
    put_part c.args.machine.now.segments c.args.channel c.args.at c.loop-k.k c.args.n c.args.out.now.items c.push.new.self.items h (pushed_err _ c.loop-k.out.items c.push.new.self.items (record { channel = c.args.channel; byte = c.unwrap_or-byte.result }) c.push.ensures.items c.if-is_err.ensures.negation ∙ c.loop-k.invariant)
