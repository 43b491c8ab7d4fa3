use Rattle.ml_parse_patterns.proofs.Relays.{if_ok, if_err}
use Rattle.ml_grammar.proofs.Handed.{params_read, params_says}
use Rattle.ml_parse_forms.proofs.target.read_all_params.Goals as goal

pub returns-clause-ok : goal.returns-clause-ok
returns-clause-ok c = if_ok c.read_params.result (λ f h. params_read h) c.read_params.ensures.ok

pub returns-clause-err : goal.returns-clause-err
returns-clause-err c = if_err c.read_params.result (λ e h. params_says _ _ _ _ e h) c.read_params.ensures.err
