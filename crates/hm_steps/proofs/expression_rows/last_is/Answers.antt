use Rattle.std.proofs.Common.{sym, ◌∙◌}
use Rattle.hm_steps.proofs.RowParts.{if_ok_each, begun, last_some, last_none}
use Rattle.hm_steps.proofs.expression_rows.last_is.Goals as goal

pub returns-in-Some : goal.returns-in-Some
returns-in-Some c = if_ok_each _ (λ es names h. last_some names c.args.n c.args.list.now _ _ es (sym c.in-Some.ensures.value) c.node.ensures (h ∙ begun _ _ c.new.ensures)) c.part_is.ensures

pub returns-in-None : goal.returns-in-None
returns-in-None c = λ names. c.new-in-None.ensures ∙ last_none names c.args.n c.args.list.now (sym c.in-None.ensures.value)
