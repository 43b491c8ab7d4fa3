use Rattle.std.proofs.Common.{◌≡◌, [], ◌∷◌, ◌++◌, sym, subst, rules}
use Rattle.hm_unify.specs.Solutions.{Pairs, NoInfinite}
use Rattle.hm_unify.specs.Closing.{IsClosure}
use Rattle.hm_unify.proofs.Starts.{IsClosure-start}
use Rattle.hm_unify.proofs.closure.close.Goals as goal

pub loop-step-init : goal.loop-step-init
loop-step-init c =
    subst (λ s. IsClosure c.args.nodes.now c.args.bound.now c.args.pairs.now c.new-classes.result c.in_ok-todo.todo.items s) (sym c.new-seen.ensures.items)
    (subst (λ t. IsClosure c.args.nodes.now c.args.bound.now c.args.pairs.now c.new-classes.result t []) (sym c.in_ok-todo.ensures.items)
    (IsClosure-start _ _ c.requires.tabled c.args.pairs.now c.new-classes.result c.new-classes.ensures c.requires.within))

pub returns-then-not-stepped : goal.returns-then-not-stepped
returns-then-not-stepped c =
    let e : c.loop-step.todo.items ≡ c.pop.new.self.items ++ (c.in-Some.first, c.in-Some.second) ∷ [] = search rules in
    let no : (pairs seen : Pairs) → IsClosure c.args.nodes.now c.args.bound.now pairs c.loop-step.classes (c.pop.new.self.items ++ (c.in-Some.first, c.in-Some.second) ∷ []) seen → NoInfinite c.args.nodes.now c.args.bound.now pairs = search rules in
    no c.args.pairs.now c.loop-step.seen.items (subst (λ t. IsClosure c.args.nodes.now c.args.bound.now c.args.pairs.now c.loop-step.classes t c.loop-step.seen.items) e c.loop-step.invariant)
