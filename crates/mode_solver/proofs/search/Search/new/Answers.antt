use Rattle.mode_solver.proofs.Searches.{IsSearch-start}
use Rattle.mode_solver.proofs.search.Search.new.Goals as goal

pub returns-clause-complete : goal.returns-clause-complete
returns-clause-complete c = IsSearch-start c.args.bits _ c.in_ok-new.ensures.first c.in_ok-new.ensures.next c.in_ok-nothing.ensures c.in_ok-new-2.ensures.place c.in_ok-new-2.ensures.reached
