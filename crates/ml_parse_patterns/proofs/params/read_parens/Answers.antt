use Rattle.std.proofs.Common.{◌≡◌, ◌≢◌, drop, ap₂, rules}
use Rattle.ml_tree.specs.declared.pattern.Pat.{Pat}
use Rattle.ml_tree.specs.declared.pattern.Param.{Param}
use Rattle.ml_tree.specs.declared.words.Words.{Words}
use Rattle.ml_cursor.specs.declared.front.Front.TheVariants as Front
use Rattle.ml_cursor.specs.Fronts.{front}
use Rattle.ml_parse_patterns.proofs.Relays.{relay}
use Rattle.ml_parse_patterns.proofs.ParamReadings.{param_deep, param_open, param_full, param_untyped, parens_found, typed_found}
use Rattle.ml_parse_patterns.proofs.params.read_parens.Goals as goal

pub returns-in_err-inner-clause-err : goal.returns-in_err-inner-clause-err
returns-in_err-inner-clause-err c = relay _ _ _ (param_deep _ _ _ _ _ _ c.requires.begins c.pass.ensures c.in_ok-words.ensures.ok) c.in_err-inner.ensures.err c.from_residual-in_err-inner.ensures.1

pub returns-then-closes-clause-ok : goal.returns-then-closes-clause-ok
returns-then-closes-clause-ok c =
    let closed : front (drop c.read_pattern.new.at c.args.tokens.now) ≡ Front.CloseParen = search rules in
    let param = ap₂ (λ (w : Words) (p : Pat). let m : Param = record { words = w; pat = p } in m) c.found.ensures.words c.found.ensures.pat in
    parens_found _ _ _ _ _ _ _ c.in_ok-words.words c.in_ok-inner.inner _ c.requires.begins c.pass.ensures c.in_ok-words.ensures.ok c.in_ok-inner.ensures.ok closed c.pass-then-closes.ensures param c.found.ensures.depth

pub returns-then-not-goes_on-clause-err : goal.returns-then-not-goes_on-clause-err
returns-then-not-goes_on-clause-err c =
    let open_still : front (drop c.read_pattern.new.at c.args.tokens.now) ≢ Front.CloseParen = search rules in
    let untyped : front (drop c.read_pattern.new.at c.args.tokens.now) ≢ Front.Colon = search rules in
    (c.give_up.ensures, param_open _ _ _ _ _ _ _ _ c.in_ok-inner.inner c.requires.begins c.pass.ensures c.in_ok-words.ensures.ok c.in_ok-inner.ensures.ok open_still untyped)

pub returns-then-inner-left-clause-err : goal.returns-then-inner-left-clause-err
returns-then-inner-left-clause-err c =
    let colon : front (drop c.read_pattern.new.at c.args.tokens.now) ≡ Front.Colon = search rules in
    (c.give_up-then-inner-left.ensures, param_full _ _ _ _ _ _ _ _ c.in_ok-inner.inner c.requires.begins c.pass.ensures c.in_ok-words.ensures.ok c.in_ok-inner.ensures.ok colon c.if-inner-left.true)

pub returns-in_err-add_type-clause-err : goal.returns-in_err-add_type-clause-err
returns-in_err-add_type-clause-err c =
    let colon : front (drop c.read_pattern.new.at c.args.tokens.now) ≡ Front.Colon = search rules in
    relay _ _ _ (param_untyped _ _ _ _ _ _ _ _ c.in_ok-inner.inner c.requires.begins c.pass.ensures c.in_ok-words.ensures.ok c.in_ok-inner.ensures.ok colon) c.in_err-add_type.ensures.err c.from_residual-in_err-add_type.ensures.1

pub returns-clause-ok : goal.returns-clause-ok
returns-clause-ok c =
    let colon : front (drop c.read_pattern.new.at c.args.tokens.now) ≡ Front.Colon = search rules in
    let param = ap₂ (λ (w : Words) (p : Pat). let m : Param = record { words = w; pat = p } in m) c.found-2.ensures.words c.found-2.ensures.pat in
    typed_found _ _ _ c.args.tokens.now _ _ _ _ _ c.in_ok-words.words c.in_ok-inner.inner c.in_ok-add_type.field-0 _ c.requires.begins c.pass.ensures c.in_ok-words.ensures.ok c.in_ok-inner.ensures.ok c.if-inner-left.false colon c.in_ok-add_type.ensures.ok param c.found-2.ensures.depth
