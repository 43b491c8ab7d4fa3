use Rattle.std.proofs.Common.{rules, ◌≡◌, to_z, of_z, w64, ap₂, ◌∙◌}
use Rattle.ml_meaning.specs.Arithmetic.{arithmetic}
use Rattle.ml_values.proofs.Runs.{divided_by_zero}
use Rattle.ml_values.proofs.operations.computed.Goals as goal

pub returns-in_ok-fail-in-None : goal.returns-in_ok-fail-in-None
returns-in_ok-fail-in-None c = λ names fields code top append.
    let a_is : to_z w64 (of_z w64 c.in-Number-Number.a) ≡ c.in-Number-Number.a = search rules in
    let b_is : to_z w64 (of_z w64 c.in-Number-Number.b) ≡ c.in-Number-Number.b = search rules in
    divided_by_zero names fields code top append _ _ c.args.op c.in-Number-Number.a c.in-Number-Number.b c.args.one c.args.other _
    c.in-Number-Number.is-0 c.in-Number-Number.is-1 (c.in-None.ensures ∙ ap₂ (arithmetic c.args.op) a_is b_is) c.in_ok-fail-in-None.ensures.told c.in_ok-fail-in-None.ensures.ending
