use Rattle.std.proofs.Common.{◌≡◌, [], ◌∷◌, sym, ap, ◌∙◌, rules}
use Rattle.hm_unify.specs.Closing.{Merges, Clashes}
use Rattle.hm_unify.proofs.Equations.{PairsWithin-back}
use Rattle.hm_unify.proofs.Steps.{IsClosure-merge, IsClosure-same, NoInfinite-clash, IsBuiltIn-root}
use Rattle.hm_unify.proofs.closure.step.Goals as goal

pub end-requires-clause-within : goal.end-requires-clause-within
end-requires-clause-within c =
    (PairsWithin-back _ c.args.todo.now.items ((c.args.first, c.args.second) ∷ []) c.requires.closure.2.todo_within).0

pub end-requires-2-clause-within : goal.end-requires-2-clause-within
end-requires-2-clause-within c =
    (PairsWithin-back _ c.args.todo.now.items ((c.args.first, c.args.second) ∷ []) c.requires.closure.2.todo_within).1

pub returns-then-eq-clause-yes : goal.returns-then-eq-clause-yes
returns-then-eq-clause-yes c = λ pairs seen k.
    let e : c.in_ok-left.left ≡ c.in_ok-right.right = search rules in
    IsClosure-same _ _ pairs _ _ seen c.args.first c.args.second k
    (ap k.root_of (sym c.end.ensures) ∙ c.in_ok-left.ensures.named k.root_of k.forest ∙ e ∙ sym (c.in_ok-right.ensures.named k.root_of k.forest) ∙ ap k.root_of c.end-2.ensures)

pub merge-requires-clause-built_left : goal.merge-requires-clause-built_left
merge-requires-clause-built_left c =
    let k = c.requires.closure.2 in
    IsBuiltIn-root _ _ _ _ _ _ c.args.first _ k (PairsWithin-back _ c.args.todo.now.items ((c.args.first, c.args.second) ∷ []) k.todo_within).0
    (ap k.root_of (sym c.end.ensures) ∙ c.in_ok-left.ensures.named k.root_of k.forest)

pub merge-requires-clause-built_right : goal.merge-requires-clause-built_right
merge-requires-clause-built_right c =
    let k = c.requires.closure.2 in
    IsBuiltIn-root _ _ _ _ _ _ c.args.second _ k (PairsWithin-back _ c.args.todo.now.items ((c.args.first, c.args.second) ∷ []) k.todo_within).1
    (ap k.root_of (sym c.end-2.ensures) ∙ c.in_ok-right.ensures.named k.root_of k.forest)

pub returns-clause-yes : goal.returns-clause-yes
returns-clause-yes c = λ pairs seen k.
    let m : Merges c.args.nodes.now c.args.classes.now c.merge.new.classes c.args.todo.now.items c.merge.new.todo.items c.in_ok-left.left c.in_ok-right.right = search rules in
    let apart : c.in_ok-left.left ≡ c.in_ok-right.right → ⊥ = search rules in
    IsClosure-merge _ _ c.requires.tabled pairs _ _ _ _ seen c.args.first c.args.second _ _ k
    (ap k.root_of (sym c.end.ensures) ∙ c.in_ok-left.ensures.named k.root_of k.forest)
    (ap k.root_of (sym c.end-2.ensures) ∙ c.in_ok-right.ensures.named k.root_of k.forest)
    c.in_ok-left.ensures.root
    c.in_ok-right.ensures.root
    apart
    m

pub returns-then-not-merged-clause-no : goal.returns-then-not-merged-clause-no
returns-then-not-merged-clause-no c = λ pairs seen k.
    let m : Clashes c.args.nodes.now c.in_ok-left.left c.in_ok-right.right = search rules in
    NoInfinite-clash _ _ pairs _ _ seen c.args.first c.args.second _ _ k
    (ap k.root_of (sym c.end.ensures) ∙ c.in_ok-left.ensures.named k.root_of k.forest)
    (ap k.root_of (sym c.end-2.ensures) ∙ c.in_ok-right.ensures.named k.root_of k.forest)
    m
