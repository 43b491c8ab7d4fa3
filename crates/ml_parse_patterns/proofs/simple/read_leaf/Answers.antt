use Rattle.std.proofs.Common.{refl, ap, ◌∙◌, drop}
use Rattle.ml_tree.specs.declared.pattern.PatKind.{PatKind}
use Rattle.ml_parse_patterns.specs.Looks.{node}
use Rattle.ml_parse_patterns.proofs.Founds.{leaf_found}
use Rattle.ml_parse_patterns.proofs.simple.read_leaf.Goals as goal

pub returns : goal.returns
returns c = λ text. leaf_found text c.args.leaf c.args.width _ _ _ c.requires c.pass_all.ensures (record {
  tree = c.node.ensures ∙ ap (λ (k : PatKind). node (drop c.args.at.now c.args.tokens.now) (drop c.pass_all.new.at c.args.tokens.now) k) c.leaf_kind.ensures;
  depth_is = refl;
})
