use Rattle.std.proofs.Common.{refl, ap, ap₂, ◌∙◌, drop}
use Rattle.ml_tree.specs.declared.pattern.Pat.{Pat}
use Rattle.ml_tree.specs.declared.pattern.PatKind.{PatKind}
use Rattle.ml_tree.specs.declared.pattern.Param.{Param}
use Rattle.ml_tree.specs.declared.words.Words.{Words}
use Rattle.ml_parse_patterns.specs.Looks.{node}
use Rattle.ml_parse_patterns.proofs.ParamReadings.{short_found}
use Rattle.ml_parse_patterns.proofs.params.read_short.Goals as goal

pub returns : goal.returns
returns c = λ text. short_found text c.args.leaf c.args.width _ _ _ c.requires c.pass_all.ensures
    (ap₂ (λ (w : Words) (p : Pat). let m : Param = record { words = w; pat = p } in m) c.no_words.ensures
    (c.node.ensures ∙ ap (λ (k : PatKind). node (drop c.args.at.now c.args.tokens.now) (drop c.pass_all.new.at c.args.tokens.now) k) c.leaf_kind.ensures))
    refl
