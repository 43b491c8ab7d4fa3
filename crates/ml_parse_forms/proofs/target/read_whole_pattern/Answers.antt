use Rattle.ml_parse_patterns.proofs.Relays.{if_ok, if_err}
use Rattle.ml_grammar.proofs.Handed.{pattern_read, pattern_says}
use Rattle.ml_parse_forms.proofs.target.read_whole_pattern.Goals as goal

pub returns-clause-ok : goal.returns-clause-ok
returns-clause-ok c = if_ok c.read_pattern.result (λ f h. pattern_read h) c.read_pattern.ensures.ok

pub returns-clause-err : goal.returns-clause-err
returns-clause-err c = if_err c.read_pattern.result (λ e h. pattern_says _ _ _ _ e h) c.read_pattern.ensures.err
