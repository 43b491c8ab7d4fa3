use Rattle.std.proofs.Common.{sym, ◌∙◌}
use Rattle.hm_unify.specs.Solutions.{here, there}
use Rattle.hm_unify.proofs.Ends.{link-within, none_from}
use Rattle.hm_unify.proofs.bound.end_of.Goals as goal

pub loop-further-preserved : goal.loop-further-preserved
loop-further-preserved c =
    record {
      inside = link-within _ _ c.requires.tabled c.loop-further.at c.in-Some.further (sym c.in-Some.ensures);
      leads = λ e h. c.loop-further.invariant.leads e (there c.loop-further.at c.in-Some.further e (sym c.in-Some.ensures) h);
    }

pub returns-clause-ends : goal.returns-clause-ends
returns-clause-ends c =
    c.loop-further.invariant.leads c.loop-further.at (here c.loop-further.at (sym c.target.ensures ∙ none_from _ c.in_default.not-Some))
