use Rattle.std.proofs.Common.{ap, sym}
use Rattle.ml_lexer.specs.Literals.{passes_text}
use Rattle.ml_lexer.proofs.NoText.{quote_alone, HasNoText-at_quote}
use Rattle.ml_lexer.proofs.comments.passes_text.Goals as goal

pub returns-then-not-texts_end-clause-here : goal.returns-then-not-texts_end-clause-here
returns-then-not-texts_end-clause-here c =
    sym (ap (passes_text c.args.at) (quote_alone c.args.text.now c.args.at c.requires.place c.requires.quote (c.requires.none cc)))

pub returns-in-None-clause-none : goal.returns-in-None-clause-none
returns-in-None-clause-none c =
    λ e. HasNoText-at_quote c.args.text.now c.args.at c.requires.place (sym c.in-None.ensures.end)
