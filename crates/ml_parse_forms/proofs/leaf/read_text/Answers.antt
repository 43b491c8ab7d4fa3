use Rattle.std.proofs.Common.{◌<◌, sym, ap, arith, ◌∙◌}
use Rattle.std.specs.Option.{option_copied}
use Rattle.ml_parse_forms.proofs.Leaves.{sound_text, text_there, text_absent, text_other}
use Rattle.ml_parse_forms.proofs.leaf.read_text.Goals as goal

pub returns-in_default-clause-err : goal.returns-in_default-clause-err
returns-in_default-clause-err c = (c.refusal_at.ensures, text_absent c.args.source.now.tokens.now c.args.at.now (sym c.at.ensures ∙ ap option_copied c.in_default.is))

pub returns-in_default-kind-clause-err : goal.returns-in_default-kind-clause-err
returns-in_default-kind-clause-err c = (c.refusal_at-in_default-kind.ensures, text_other c.args.source.now.tokens.now c.args.at.now c.in-Some.token.now (sym c.at.ensures ∙ ap option_copied c.in-Some.is) c.in_default-kind.not-Text)

pub text_bytes-requires : goal.text_bytes-requires
text_bytes-requires c = sound_text c.args.source.now.text.now c.args.source.now.tokens.now c.args.at.now c.in-Some.token.now c.requires.texts (sym c.at.ensures ∙ ap option_copied c.in-Some.is) c.in-Text.is

pub returns-in_ok-node-in-Ok-clause-ok : goal.returns-in_ok-node-in-Ok-clause-ok
returns-in_ok-node-in-Ok-clause-ok c =
    let room : 0 < c.args.left = omega (arith, c.in_ok-head.ensures.below) in
    text_there c.args.source.now.text.now c.args.source.now.tokens.now c.args.at.now c.in-Some.token.now (sym c.at.ensures ∙ ap option_copied c.in-Some.is) c.in-Text.is c.in_ok-head.ensures.passed c.in-Ok.ensures c.in_ok-head.ensures.span c.in_ok-node-in-Ok.ensures.tree c.in_ok-node-in-Ok.ensures.depth room
