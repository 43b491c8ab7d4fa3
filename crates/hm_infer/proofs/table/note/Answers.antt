use Rattle.std.proofs.Common.{nat_eq, sym, ◌∙◌}
use Rattle.std.specs.HashMap.{get}
use Rattle.hm_infer.proofs.Uses.{note_new}
use Rattle.hm_infer.proofs.table.note.Goals as goal

pub returns : goal.returns
returns c = note_new (get nat_eq c.args.seen.now) (get nat_eq c.insert.new.self) c.args.vars.now c.push.new.self c.args.number (sym c.contains_key.ensures ∙ c.if-contains_key.false) c.in_ok-insert.ensures.updates.0 c.in_ok-push.ensures.ok
