use Rattle.std.proofs.Common.{◌≡◌, ◌≢◌, drop, rules}
use Rattle.ml_cursor.specs.declared.front.Front.TheVariants.{As}
use Rattle.ml_cursor.specs.Fronts.{front}
use Rattle.ml_parse_patterns.proofs.Chains.{names_go_on, names_end}
use Rattle.ml_parse_patterns.proofs.levels.add_names.Goals as goal

pub names-preserved : goal.names-preserved
names-preserved c =
    let here : front (drop c.names.at c.args.tokens.now) ≡ As = search rules in
    names_go_on _ _ _ _ _ _ _ _ c.names.invariant here c.in_ok-found.ensures.ok

pub returns-clause-ok : goal.returns-clause-ok
returns-clause-ok c =
    let here : front (drop c.names.at c.args.tokens.now) ≢ As = search rules in
    names_end _ _ _ _ _ _ c.names.invariant here
