use Rattle.std.proofs.Common.{sym, ap}
use Rattle.ml_meaning.specs.declared.event.Event.{Event}
use Rattle.ml_meaning.specs.Tellings.{made}
use Rattle.ml_meaning.specs.Values.{cell}
use Rattle.ml_values.specs.Shown.{value}
use Rattle.ml_steps.specs.Left.{chain_run, step_run}
use Rattle.ml_steps.specs.Worlds.{setting_of}
use Rattle.ml_steps.proofs.Telling.{told_as, told_then}
use Rattle.ml_steps.proofs.resumes.link.Goals as goal

pub returns : goal.returns
returns c =
    let s = setting_of c.args.world in
    told_then (step_run s) _ _ _ (made Event s c.args.node 3) c.chain.result (chain_run s c.args.node c.args.items.now c.args.left (cell (value c.args.head) (value c.args.tail)) c.args.here) c.in_ok-made.ensures
    (told_as (step_run s) _ _ c.chain.result _ _ (ap (λ v. chain_run s c.args.node c.args.items.now c.args.left v c.args.here) (sym c.in_ok-tail.ensures)) (c.chain.ensures s.names s.fields s.code s.top s.append))
