use Rattle.std.proofs.Common.{sym, ap, ◌∙◌}
use Rattle.std.proofs.lemmas.Option.{slice_get_within}
use Rattle.hm_unify.specs.Closing.{class_of}
use Rattle.hm_unify.proofs.Searches.{HasSize-free, Finds-root}
use Rattle.hm_unify.proofs.measure.measure.Goals as goal

pub returns-in_default : goal.returns-in_default
returns-in_default c = λ pairs seen k m.
    (HasSize-free c.args.nodes.now (class_of c.args.nodes.now c.args.bound.now k.root_of) _ c.in_default.field-0 (ap k.root_of (sym c.end.ensures) ∙ c.in_ok-class.ensures.named k.root_of k.forest ∙ c.in_default.is), m)

pub search-requires-clause-within : goal.search-requires-clause-within
search-requires-clause-within c =
    let kk = c.requires.closure.2 in
    let class = ap kk.root_of (sym c.end.ensures) ∙ c.in_ok-class.ensures.named kk.root_of kk.forest ∙ c.in-Built.is in
    let b = kk.closing.built c.args.id c.in-Built.top c.requires.within class in
    slice_get_within c.args.nodes.now c.in-Built.top b.node b.at_root

pub returns-in_ok-found-in-None : goal.returns-in_ok-found-in-None
returns-in_ok-found-in-None c = λ pairs seen k m.
    let class = ap k.root_of (sym c.end.ensures) ∙ c.in_ok-class.ensures.named k.root_of k.forest ∙ c.in-Built.is in
    Finds-root c.args.nodes.now c.args.bound.now pairs (class_of c.args.nodes.now c.args.bound.now k.root_of) c.args.id c.in-Built.top _ _ class (c.in_ok-found-in-None.ensures pairs seen k (k.closing.built c.args.id c.in-Built.top c.requires.within class) m)
