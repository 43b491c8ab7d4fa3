-- What an overwrite does, by the construction that is written into the block.
use Rattle.std.proofs.Common.{◌≡◌, ℕ, List, [], ◌∷◌, Some, refl, sym, ap, ◌∙◌}
use Rattle.ml_tree.specs.declared.pattern.ConName.{ConName}
use Rattle.ml_tree.specs.declared.expr.Expr.{Expr, out-Expr}
use Rattle.ml_tree.specs.declared.expr.ExprKind.TheOpen as e
use Rattle.ml_tree.specs.declared.expr.ExprKind.TheVariants as E
use Rattle.ml_meaning.specs.declared.event.Event.{Event}
use Rattle.ml_meaning.specs.Names.{constructor_place}
use Rattle.ml_meaning.specs.Runs.{Run, ◌>>=◌}
use Rattle.ml_meaning.specs.Values.{Value}
use Rattle.ml_meaning.specs.Tellings.{Setting, Meaning}
use Rattle.ml_meaning.specs.Evaluation as m
use Rattle.ml_meaning.specs.Evaluation.{Form, Ordinary, Named, Several, Builds, inside}
use Rattle.ml_meaning.specs.Programs.{evaluate, expr_meaning}
use Rattle.ml_values.specs.Shown.{names}
use Rattle.ml_steps.specs.declared.frame.Finish.TheVariants as last
use Rattle.ml_steps.specs.declared.frame.Here.{Here}
use Rattle.ml_steps.specs.declared.frame.Parts.{Parts}
use Rattle.ml_steps.specs.Left.{all_parts_run, at_place, calls_of, overwritten_run, parts_runs}
use Rattle.ml_steps.proofs.KindRuns.{form_at}
use Rattle.ml_steps.proofs.RunsVisits.{after_none, bind_same}

module _ (s : Setting Event) (node : ℕ) (here : Here) where
  abbrev pub over : Form (Meaning Event) → Run Event Value
  over form = at_place s (m.overwritten Event s node form) here

  inside_is : (form : Form (Meaning Event)) → over (inside form) ≡ over form
  inside_is Ordinary = refl
  inside_is (Named o) = refl
  inside_is (Several ms) = refl
  inside_is (Builds place ms) = refl

  -- the parts, and then the block with them
  builds_is : (place : ℕ) (ms : List (Meaning Event)) → over (Builds (Some place) ms) ≡ (m.values Event s ms (calls_of s here) (names here.env) >>= overwritten_run s node place here)
  builds_is place ms = bind_same (m.values Event s ms (calls_of s here) (names here.env)) _ _ (λ vs. after_none (overwritten_run s node place here vs))

  pub over_paren : (x inner : Expr) → (out-Expr x).kind ≡ E.Paren inner → over (expr_meaning Event s x).form ≡ over (expr_meaning Event s inner).form
  over_paren x inner is =
      ap over (form_at s x (e.Paren inner) _ is (E.rolls-Paren inner)) ∙ inside_is (expr_meaning Event s inner).form

  pub over_cons : (x a b : Expr) → (out-Expr x).kind ≡ E.Cons a b → over (expr_meaning Event s x).form ≡ (m.values Event s (evaluate Event s a ∷ (evaluate Event s b ∷ [])) (calls_of s here) (names here.env) >>= overwritten_run s node 1 here)
  over_cons x a b is =
      ap over (form_at s x (e.Cons a b) _ is (E.rolls-Cons a b)) ∙ builds_is 1 (evaluate Event s a ∷ (evaluate Event s b ∷ []))

  pub over_con : (x a : Expr) (name : ConName) → (out-Expr x).kind ≡ E.Con name (Some a) → over (expr_meaning Event s x).form ≡ over (m.constructed Event s (out-Expr x).id name (Some (expr_meaning Event s a))).form
  over_con x a name is = ap over (form_at s x (e.Con name (Some a)) _ is (E.rolls-Con name (Some a)))

  pub over_constructed : (of : ℕ) (name : ConName) (a : Expr) (place count : ℕ) (ps : Parts) → constructor_place s.names name of ≡ Some place → count ≡ m.field_count Event s (s.names of) → parts_runs s ps ≡ m.fields_of Event s count (expr_meaning Event s a) → over (m.constructed Event s of name (Some (expr_meaning Event s a))).form ≡ all_parts_run s ps (last.Overwrite node place) here
  over_constructed of name a place count ps at counted parts =
      let fields = m.fields_of Event s (m.field_count Event s (s.names of)) (expr_meaning Event s a) in
      ap (λ p. over (Builds p fields)) at
      ∙ (builds_is place fields
      ∙ ap (λ ms. m.values Event s ms (calls_of s here) (names here.env) >>= overwritten_run s node place here) (sym (parts ∙ ap (λ n. m.fields_of Event s n (expr_meaning Event s a)) counted)))
