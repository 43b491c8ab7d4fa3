-- Lists that are evaluated one element after the other, from some place on.
use Rattle.std.proofs.Common.{◌≡◌, ℕ, suc, ◌<◌, ◌≤◌, List, [], ◌∷◌, ◌++◌, map, take, drop, length, Some, slice_get, get_or, sym, ap, ◌∙◌, append-nil}
use Rattle.std.proofs.Math.Seq.{drop-cons}
use Rattle.std.proofs.lemmas.List.{at_drop_all}
use Rattle.ml_tree.specs.declared.expr.Expr.{Expr}
use Rattle.ml_meaning.specs.declared.event.Event.{Event}
use Rattle.ml_meaning.specs.Runs.{Run, Done, after, ◌>>=◌}
use Rattle.ml_meaning.specs.Values.{Value, cell}
use Rattle.ml_meaning.specs.Tellings.{Setting, Meaning, Inner, finish, made}
use Rattle.ml_meaning.specs.Evaluation as m
use Rattle.ml_meaning.specs.Programs.{evaluate}
use Rattle.ml_values.specs.Shown.{names}
use Rattle.ml_values.specs.Telling.{mode_of}
use Rattle.ml_steps.specs.declared.frame.Here.{Here}
use Rattle.ml_steps.specs.Left.{at_place, calls_of, chain_onto, chain_run, evaluated, followed, inner_run, link_run, sequence_run}
use Rattle.ml_steps.proofs.RunsVisits.{after_none, bind_after, bind_bind, bind_same, drop_first, take_last}

module _ (s : Setting Event) (here : Here) where
  -- ---- the elements of a list literal, the last first

  -- a cell of this element before the rest
  abbrev celled : ℕ → Meaning Event → Value → Run Event Value
  celled node a more = a (calls_of s here) Inner (names here.env) >>= λ head. Done (made Event s node 3) (cell head more)

  onto_last : (node : ℕ) (ms : List (Meaning Event)) (a : Meaning Event) (tail : Value) → chain_onto s node (ms ++ (a ∷ [])) here tail ≡ (a (calls_of s here) Inner (names here.env) >>= λ head. after (made Event s node 3) (chain_onto s node ms here (cell head tail)))
  onto_last node [] a tail =
      after_none (celled node a tail)
      ∙ bind_same (a (calls_of s here) Inner (names here.env)) _ _ (λ head. ap (λ es. Done es (cell head tail)) (sym (append-nil (made Event s node 3))))
  onto_last node (b ∷ ms) a tail =
      ap (λ r. r >>= celled node b) (onto_last node ms a tail)
      ∙ (bind_bind (a (calls_of s here) Inner (names here.env)) (λ head. after (made Event s node 3) (chain_onto s node ms here (cell head tail))) (celled node b)
      ∙ bind_same (a (calls_of s here) Inner (names here.env)) _ _ (λ head. bind_after (made Event s node 3) (chain_onto s node ms here (cell head tail)) (celled node b)))

  -- the last element that is left comes first, and the others before the cell that it makes
  pub chain_last : (node : ℕ) (items : List Expr) (left k : ℕ) (x : Expr) (tail : Value) → left ≡ suc k → slice_get items k ≡ Some x → chain_run s node items left tail here ≡ followed (inner_run s x here) (λ v. link_run s node items k v tail here)
  chain_last node items left k x tail is at =
      ap (λ n. chain_run s node items n tail here) is
      ∙ (ap (λ ms. chain_onto s node ms here tail >>= finish Event s (mode_of here.mode)) (take_last (evaluate Event s) items k x at)
      ∙ (ap (λ r. r >>= finish Event s (mode_of here.mode)) (onto_last node (take k (map (evaluate Event s) items)) (evaluate Event s x) tail)
      ∙ (bind_bind (inner_run s x here) (λ head. after (made Event s node 3) (chain_onto s node (take k (map (evaluate Event s) items)) here (cell head tail))) (finish Event s (mode_of here.mode))
      ∙ bind_same (inner_run s x here) _ _ (λ v. bind_after (made Event s node 3) (chain_onto s node (take k (map (evaluate Event s) items)) here (cell v tail)) (finish Event s (mode_of here.mode))))))

  -- ---- expressions, the first first

  first_of_more : (x : Expr) (rest : List Expr) (y : Expr) (ys : List Expr) → rest ≡ y ∷ ys → at_place s (m.sequence Event s (map (evaluate Event s) (x ∷ rest))) here ≡ followed (inner_run s x here) (λ v. at_place s (m.sequence Event s (map (evaluate Event s) rest)) here)
  first_of_more x rest y ys is =
      ap (λ zs. at_place s (m.sequence Event s (map (evaluate Event s) (x ∷ zs))) here) is
      ∙ ap (λ zs. followed (inner_run s x here) (λ v. at_place s (m.sequence Event s (map (evaluate Event s) zs)) here)) (sym is)

  pub sequence_more : (items : List Expr) (k n : ℕ) (x : Expr) → n ≡ suc k → slice_get items k ≡ Some x → n < length items → sequence_run s items k here ≡ followed (inner_run s x here) (λ v. sequence_run s items n here)
  sequence_more items k n x is at less =
      ap (λ es. at_place s (m.sequence Event s (map (evaluate Event s) es)) here) (drop_first items k x at ∙ ap (λ j. x ∷ drop j items) (sym is))
      ∙ first_of_more x (drop n items) (get_or items n x) (drop (suc n) items) (drop-cons items n x less)

  pub sequence_last : (items : List Expr) (k : ℕ) (x : Expr) → slice_get items k ≡ Some x → length items ≤ suc k → sequence_run s items k here ≡ evaluated s x here
  sequence_last items k x at all =
      ap (λ es. at_place s (m.sequence Event s (map (evaluate Event s) es)) here) (drop_first items k x at)
      ∙ at_drop_all (λ es. at_place s (m.sequence Event s (map (evaluate Event s) (x ∷ es))) here) items (suc k) all
