use Rattle.std.proofs.Common.{◌≡◌, [], ◌∷◌, ◌++◌, sym, subst}
use Rattle.hm_unify.specs.Solutions.{Pairs, Equates}
use Rattle.hm_unify.specs.Closing.{PairsWithin}
use Rattle.hm_unify.proofs.Equations.{Equates-front, Equates-back, Equates-append, PairsWithin-append, trees-at, trees-next}
use Rattle.hm_unify.proofs.closure.push_parts.Goals as goal

pub loop-at-preserved : goal.loop-at-preserved
loop-at-preserved c =
    let xs : Pairs = c.loop-at.todo.items in
    let more : Pairs = (c.in-Some.first, c.in-Some-part.second) ∷ [] in
    let e : c.push.new.self.items ≡ xs ++ more = c.in_ok-push.ensures.items in
    let p = sym c.in-Some.ensures in
    let q = sym c.in-Some-part.ensures in
    record {
      old = λ d h. c.loop-at.invariant.old d (Equates-front d xs more (subst (Equates d) e h));
      parts = λ d h. let g : Equates d (xs ++ more) = subst (Equates d) e h in trees-next d _ _ _ _ _ p q (c.loop-at.invariant.parts d (Equates-front d xs more g)) ((Equates-back d xs more g).0);
      new = λ d h t. subst (Equates d) (sym e) (Equates-append d xs more (c.loop-at.invariant.new d h t) (trees-at d _ _ _ _ _ t p q, tt));
      within = λ n a b h. subst (PairsWithin n) (sym e) (PairsWithin-append n xs more (c.loop-at.invariant.within n a b h) (a _ _ p, b _ _ q, tt));
    }
