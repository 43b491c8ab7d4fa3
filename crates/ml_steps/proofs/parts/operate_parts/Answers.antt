use Rattle.std.proofs.Common.{ap, ◌∙◌}
use Rattle.ml_meaning.specs.declared.event.Event.{Event}
use Rattle.ml_meaning.specs.Evaluation.{operation_result}
use Rattle.ml_meaning.specs.Runs.{◌>>=◌}
use Rattle.ml_values.proofs.Walks.{list_end, list_more}
use Rattle.ml_values.specs.Givings.{given_run}
use Rattle.ml_values.specs.Shown.{values_list}
use Rattle.ml_values.specs.Telling.{mode_of}
use Rattle.ml_steps.specs.Left.{next_run}
use Rattle.ml_steps.specs.Worlds.{setting_of}
use Rattle.ml_steps.proofs.Telling.{operated_parts, over_told, told_as}
use Rattle.ml_steps.proofs.parts.operate_parts.Goals as goal

pub returns-in-Empty : goal.returns-in-Empty
returns-in-Empty c =
    let s = setting_of c.args.world in
    operated_parts s (next_run s) _ _ _ c.finish_given.result c.args.node c.args.op c.args.here (values_list c.in_ok-both.both.first) (values_list c.in_ok-both.both.rest) (values_list c.args.parts) (given_run c.in_ok-given.given)
    c.in_ok-both.ensures.parts (c.in_ok-both.ensures.first ∙ c.operation_arity.ensures) (c.in_ok-given.ensures s.names s.fields s.code s.top s.append)
    (told_as (next_run s) _ _ c.finish_given.result _ _ (ap (λ vs. given_run c.in_ok-given.given >>= operation_result Event s (mode_of c.args.here.mode) vs) (list_end c.in_ok-both.both.rest c.in-Empty.is)) (c.finish_given.ensures s.names s.fields s.code s.top s.append))

pub returns-in-And : goal.returns-in-And
returns-in-And c =
    let s = setting_of c.args.world in
    operated_parts s (next_run s) _ _ _ c.over_applied.result c.args.node c.args.op c.args.here (values_list c.in_ok-both.both.first) (values_list c.in_ok-both.both.rest) (values_list c.args.parts) (given_run c.in_ok-given.given)
    c.in_ok-both.ensures.parts (c.in_ok-both.ensures.first ∙ c.operation_arity.ensures) (c.in_ok-given.ensures s.names s.fields s.code s.top s.append)
    (told_as (next_run s) _ _ c.over_applied.result _ _ (ap (λ vs. given_run c.in_ok-given.given >>= operation_result Event s (mode_of c.args.here.mode) vs) (list_more c.in_ok-both.both.rest c.in-And.field-0 c.in-And.is)) (over_told s _ c.over_applied.result (given_run c.in_ok-given.given) c.over_applied.ensures))
