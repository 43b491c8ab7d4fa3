-- The casts lose nothing, so the steps are the definition's.
use Rattle.std.proofs.Common.{rules, ◌≡◌, sym, ◌∙◌, subst, ◌<◌, ℤ, FitsSigned, int_div, int_rem}
use Rattle.std.specs.Int.{w64, w128, cast_unsigned}
use Rattle.std.proofs.lemmas.Int.{to_z-of_z}
use Rattle.x64_table.specs.Machine.{fitting}
use Rattle.x64_table.proofs.Divide.{divided_is, remainder_fits}
use Rattle.x64_table.proofs.arith.divided.Goals as goal

pub returns : goal.returns
returns c =
    let a = c.joined-a.result in
    let s = c.cast_signed.result in
    let d = c.from-d.result in
    let q = c.in_ok-quotient.quotient in
    let r = c.wrapping_rem-remainder.result in
    let fa : FitsSigned w128 a = search rules in
    let fs : FitsSigned w64 s = search rules in
    let fd : FitsSigned w128 d = search rules in
    let fq : FitsSigned w128 q = search rules in
    let fr : FitsSigned w128 r = search rules in
    let ea = to_z-of_z w128 a fa in
    let ed = to_z-of_z w128 d fd in
    let eq : q ≡ int_div a d = rw (ea, ed) at c.in_ok-quotient.ensures.1 in
    let er : r ≡ int_rem a d = rw (ea, ed) at c.wrapping_rem-remainder.ensures in
    let is : d ≡ s = c.from-d.ensures ∙ to_z-of_z w64 s fs in
    let P : ℤ → Type 0 = λ z. FitsSigned w64 z in
    let fd64 : FitsSigned w64 d = subst P (sym is) fs in
    let some : 0 < cast_unsigned w128 d = rw (ed) at c.in_ok-quotient.ensures.0.0 in
    let fr64 : FitsSigned w64 r = remainder_fits a d r fd64 some er in
    let eo : c.fitting.result ≡ fitting q r = rw (to_z-of_z w128 q fq, to_z-of_z w128 r fr, to_z-of_z w64 r fr64) at c.fitting.ensures in
    divided_is c.args.high c.args.low c.args.by a d q r c.fitting.result c.if-by-eq0.false c.joined-a.ensures (c.from-d.ensures ∙ to_z-of_z w64 s fs ∙ c.cast_signed.ensures) eq er eo
