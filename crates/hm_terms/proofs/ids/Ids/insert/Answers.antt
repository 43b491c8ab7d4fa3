use Rattle.std.proofs.Common.{nat_eq}
use Rattle.std.specs.Prelude.{◌&&◌, ◌==◌}
use Rattle.std.specs.HashMap.{get}
use Rattle.hm_terms.proofs.Keys.{fresh_others}
use Rattle.hm_terms.proofs.ids.Ids.insert.Goals as goal

pub returns-in_ok-insert-in-Fresh-clause-others : goal.returns-in_ok-insert-in-Fresh-clause-others
returns-in_ok-insert-in-Fresh-clause-others c = λ u d.
    fresh_others (get nat_eq c.args.self.now.nodes) (get nat_eq c.args.self.now.binders) (get (λ x y. x.0 == y.0 && x.1 == y.1) c.args.self.now.fresh) (get (λ x y. x.0 == y.0 && x.1 == y.1) c.insert-in-Fresh.new.self)
    c.in-Fresh.node c.in-Fresh.number c.in_ok-insert-in-Fresh.ensures.updates.2 u c.args.unknown c.in-Fresh.is d
