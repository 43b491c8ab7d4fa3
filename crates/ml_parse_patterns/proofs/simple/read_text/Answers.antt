use Rattle.std.proofs.Common.{refl, sym, ap, ◌∙◌}
use Rattle.std.specs.Option.{option_copied}
use Rattle.ml_parse_patterns.proofs.Founds.{text_found}
use Rattle.ml_parse_patterns.proofs.TextTokens.{text_absent, text_token}
use Rattle.ml_parse_patterns.proofs.simple.read_text.Goals as goal

pub unreachable-requires : goal.unreachable-requires
unreachable-requires c = text_absent c.args.tokens.now c.args.at.now c.requires.begins (sym c.at.ensures ∙ ap option_copied c.in_default.is)

pub text_bytes-requires : goal.text_bytes-requires
text_bytes-requires c = text_token c.args.text.now c.args.tokens.now c.args.at.now _ c.requires.texts c.requires.begins (sym c.at.ensures ∙ ap option_copied c.in-Some.is)

pub returns-clause-ok : goal.returns-clause-ok
returns-clause-ok c =
    text_found c.args.text.now c.args.tokens.now c.args.at.now c.in-Some.field-0.now c.in-Ok.literal.bytes _ _ c.requires.begins
    (sym c.at.ensures ∙ ap option_copied c.in-Some.is) c.in-Ok.ensures c.pass.ensures (record { tree = c.node.ensures; depth_is = refl })
