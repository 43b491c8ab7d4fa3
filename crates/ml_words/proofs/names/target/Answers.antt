use Rattle.ml_words.proofs.Lookups.{found_is_lookup}
use Rattle.ml_words.proofs.names.target.Goals as goal

pub returns-in-Some : goal.returns-in-Some
returns-in-Some c = found_is_lookup c.args.s.now.refs c.args.node c.in-Some.to c.args.s.now.refs_rise c.in-Some.ensures.some
