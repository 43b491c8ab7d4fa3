-- A loop over declarations that adds those that are marked.
use Rattle.std.proofs.Common.{◌≡◌, ℕ, suc, ◌+◌, ◌<◌, ◌≤◌, List, [], ◌∷◌, ◌++◌, length, drop, get_or, Bool, false, slice_index_or, refl, sym, ap, ◌∙◌, append_assoc, add-one}
use Rattle.std.proofs.lemmas.List.{drop_all}
use Rattle.oxml_base.specs.declared.refusal.Refusal.{Refusal}
use Rattle.oxml_base.specs.declared.rule.Rule.TheVariants.{CyclicAbbreviation}
use Rattle.ml_mentions.specs.declared.outline.Outline.{Outline}
use Rattle.ml_mentions.proofs.Appends.{from_place}
use Rattle.ml_decls.specs.Verdicts.{where_wrong, marked_from}

-- how far the loop has come
pub record IsMarkedSoFar (marks : List Bool) (os : List Outline) (i : ℕ) (place : ℕ) (now start : List Refusal) : Type 0 where
  pub counted : place ≡ i
  pub rest : now ++ marked_from marks i (drop i os) ≡ start ++ marked_from marks 0 os

pub marked_start : (marks : List Bool) (os : List Outline) (start : List Refusal) → IsMarkedSoFar marks os 0 0 start start
marked_start marks os start = record { counted = refl; rest = refl }

pub marked_step : (marks : List Bool) (os : List Outline) (i : ℕ) (o : Outline) (place : ℕ) (wrong : Bool) (now next start : List Refusal) → IsMarkedSoFar marks os i place now start → i < length os → o ≡ get_or os i o → wrong ≡ slice_index_or marks place false → next ≡ now ++ where_wrong wrong CyclicAbbreviation o.name → IsMarkedSoFar marks os (i + 1) (place + 1) next start
marked_step marks os i o place wrong now next start s h is w e = record { counted = ap (λ z. z + 1) s.counted; rest = rest' }
  where
    is_wrong : wrong ≡ slice_index_or marks i false
    is_wrong = w ∙ ap (λ z. slice_index_or marks z false) s.counted

    rest' : next ++ marked_from marks (i + 1) (drop (i + 1) os) ≡ start ++ marked_from marks 0 os
    rest' =
        let tail : List Refusal = marked_from marks (suc i) (drop (i + 1) os) in
        ap (λ z. next ++ marked_from marks z (drop (i + 1) os)) (add-one i)
        ∙ ap (λ z. z ++ tail) e
        ∙ append_assoc now (where_wrong wrong CyclicAbbreviation o.name) tail
        ∙ ap (λ b. now ++ (where_wrong b CyclicAbbreviation o.name ++ tail)) is_wrong
        ∙ ap (λ z. now ++ marked_from marks i z) (sym (from_place os i o h is))
        ∙ s.rest

pub marked_end : (marks : List Bool) (os : List Outline) (i place : ℕ) (now start : List Refusal) → length os ≤ i → IsMarkedSoFar marks os i place now start → now ≡ start ++ marked_from marks 0 os
marked_end marks os i place now start h s = sym (nothing_more now) ∙ ap (λ z. now ++ marked_from marks i z) (sym (drop_all i os h)) ∙ s.rest
  where
    nothing_more : (xs : List Refusal) → xs ++ [] ≡ xs
    nothing_more [] = refl
    nothing_more (x ∷ xs) = ap (λ z. x ∷ z) (nothing_more xs)
