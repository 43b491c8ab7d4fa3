use Rattle.std.proofs.Common.{rules, ◌≡◌, ◌∙◌, ap, ◌-◌, ◌+◌, ◌<◌, length, arith}
use Rattle.std.proofs.Math.ListN.{length-set}
use Rattle.ml_cursor.specs.Lets.{role_of}
use Rattle.ml_cursor.proofs.Walk.{closings_end, table_end, left_step, table_step}
use Rattle.ml_cursor.proofs.lets.closed_lets.Goals as goal

pub loop-at-init : goal.loop-at-init
loop-at-init c =
    let long : length c.in_ok-table.table.items ≡ length c.args.tokens.now = search rules in
    record { within = omega arith; long = long; left = rw closings_end (search rules); table = table_end _ _ long }

pub loop-at-preserved : goal.loop-at-preserved
loop-at-preserved c =
    let r = c.role_of.ensures ∙ ap role_of c.of_kind.ensures in
    let w = c.in_ok-table-2.ensures in
    let i = c.loop-at.invariant in
    let ts = c.args.tokens.now in
    let here = c.loop-at.at - 1 in
    let lt : here < length ts = omega arith in
    let back : c.loop-at.at ≡ here + 1 = omega arith in
    record {
      within = omega arith;
      long = simp length-set i.long;
      left = left_step ts c.loop-at.at here _ c.role_of.result _ _ back lt r i.left w.left;
      table = table_step ts c.loop-at.at here _ c.role_of.result _ c.loop-at.table.items _ back lt r i.left i.long i.table w.closed;
    }
