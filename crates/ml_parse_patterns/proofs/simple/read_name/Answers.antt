use Rattle.std.proofs.Common.{refl, ap, ◌∙◌, drop}
use Rattle.oxml_base.specs.declared.span.Span.{Span}
use Rattle.ml_tree.specs.declared.pattern.PatKind.TheVariants as Kind
use Rattle.ml_parse_patterns.specs.Looks.{node}
use Rattle.ml_parse_patterns.proofs.Relays.{relay}
use Rattle.ml_parse_patterns.proofs.Exits.{name_absent, name_read}
use Rattle.ml_parse_patterns.proofs.simple.read_name.Goals as goal

pub returns-in_err-name-clause-err : goal.returns-in_err-name-clause-err
returns-in_err-name-clause-err c = λ text. relay _ _ _ (name_absent text _ _ _ c.requires c.in_ok-words.ensures.ok) c.in_err-name.ensures.err c.from_residual-in_err-name.ensures.1

pub returns-clause-ok : goal.returns-clause-ok
returns-clause-ok c = λ text.
    let took = c.in_ok-name.ensures.ok in
    name_read text _ _ _ c.in_ok-words.words _ c.requires c.in_ok-words.ensures.ok took.stands took.rest_is (record {
      tree = c.node.ensures ∙ ap (λ (s : Span). node (drop c.args.at.now c.args.tokens.now) (drop c.take.new.at c.args.tokens.now) (Kind.Name c.in_ok-words.words s)) took.span_is;
      depth_is = refl;
    })
