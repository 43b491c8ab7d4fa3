-- The bytes so far, and the run from there on, are the whole run.
use Rattle.std.proofs.Common.{sym, ap, take, ◌≡◌, ◌∙◌, ◌<◌, ◌≤◌, ◌+◌, ◌%◌, ◌^◌, length, arith, length-set}
use Rattle.x64_table.specs.Machine.{code_byte, run_of_bytes}
use Rattle.x64_table.specs.View.{loaded}
use Rattle.x64_table.proofs.Bytewise.{run_more, run_stops, run_ends}
use Rattle.x64_table.proofs.fetching.run_of_bytes.Goals as goal

pub returns-in_default-clause-bytes : goal.returns-in_default-clause-bytes
returns-in_default-clause-bytes c =
    let byte = code_byte (loaded c.args.segments.now) in
    let below : c.loop-i.i < 15 = omega arith in
    run_stops byte c.loop-i.part (run_of_bytes byte 15 c.args.a) c.loop-i.i 15 c.args.a below (sym c.code_byte.ensures ∙ c.in_default.is) c.loop-i.invariant.1

pub loop-i-preserved : goal.loop-i-preserved
loop-i-preserved c =
    let byte = code_byte (loaded c.args.segments.now) in
    let below : c.loop-i.i < 15 = omega arith in
    let within : c.loop-i.i < length c.loop-i.part = omega arith in
    (length-set c.loop-i.part c.loop-i.i c.in-Some.b ∙ c.loop-i.invariant.0, run_more byte c.loop-i.part (run_of_bytes byte 15 c.args.a) c.loop-i.i 15 c.args.a c.in-Some.b below within (sym c.in-Some.ensures) c.loop-i.invariant.1)

pub returns-clause-bytes : goal.returns-clause-bytes
returns-clause-bytes c =
    let byte = code_byte (loaded c.args.segments.now) in
    let past : 15 ≤ c.loop-i.i = omega arith in
    let is : c.loop-i.i ≡ 15 = omega arith in
    ap (λ j. take j c.loop-i.part) (sym is) ∙ run_ends byte c.loop-i.part (run_of_bytes byte 15 c.args.a) c.loop-i.i 15 ((c.args.a + c.loop-i.i) % 2 ^ 64) past c.loop-i.invariant.1
