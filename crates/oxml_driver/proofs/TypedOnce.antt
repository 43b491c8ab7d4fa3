-- Items have types and good comparisons, or a first fault, and only one of these.
use Rattle.std.proofs.Common.{ℕ, List, Option, inl, inr}
use Rattle.oxml_base.specs.declared.refusal.Refusal.{Refusal}
use Rattle.oxml_base.specs.declared.span.Span.{Span}
use Rattle.oxml_base.specs.Rules.{rule_number}
use Rattle.ml_typing.specs.declared.typed.Typed.{Typed}
use Rattle.ml_typing.specs.Terms.{Context}
use Rattle.ml_typing.specs.Typing.{ItemSteps}
use Rattle.ml_typing.specs.Refusals.{FirstFault, IsTooLarge, IsUnsolved}
use Rattle.ml_typing.specs.Laws.{ItemsApart}
use Rattle.ml_typing.proofs.Programs.{typed_or_unsolved, typed_or_large, first_unsolved_or_large}
use Rattle.ml_typing.proofs.Comparisons.{compare_or_bad}
use Rattle.hm_infer.specs.declared.error.InferErr.TheVariants.{Refused}
use Rattle.hm_infer.specs.Answers.{IsTypedAs, IsRefusedBy}
use Rattle.oxml_driver.proofs.SameContexts.{IsSame, unsolved_too, large_too, has_types_too, first_too}

module _ (uses : ℕ → Option ℕ) (c : Context) (items : List ItemSteps) (apart : ItemsApart uses items) where
  pub typed_or_refused : (count : ℕ) (typed : Typed) (r : Refusal) → IsTypedAs c items count typed → IsRefusedBy c items (Refused r) → ⊥
  typed_or_refused count typed r is (inl fault) = typed_or_unsolved uses c items is.types (rule_number r.rule) r.span apart is.has fault
  typed_or_refused count typed r is (inr (rule, (types, has, bad))) =
      compare_or_bad uses c items is.types types r.span apart is.has.typed has.typed is.compare bad

  pub typed_or_too_large : (count : ℕ) (typed : Typed) (span : Span) → IsTypedAs c items count typed → FirstFault c items (λ e steps. IsTooLarge e steps span) → ⊥
  typed_or_too_large count typed span is fault = typed_or_large uses c items is.types span apart is.has fault

  pub refused_or_too_large : (r : Refusal) (span : Span) → IsRefusedBy c items (Refused r) → FirstFault c items (λ e steps. IsTooLarge e steps span) → ⊥
  refused_or_too_large r span (inl fault) large = first_unsolved_or_large uses c items (rule_number r.rule) r.span span apart fault large
  refused_or_too_large r span (inr (rule, (types, has, bad))) large = typed_or_large uses c items types span apart has large

-- ---- a refusal in one of two contexts in which terms stand for the same types is one in the other

module _ (c d : Context) (same : IsSame c d) (items : List ItemSteps) where
  pub refused_too : (r : Refusal) → IsRefusedBy c items (Refused r) → IsRefusedBy d items (Refused r)
  refused_too r (inl fault) =
      inl (first_too (λ e steps. IsUnsolved e steps (rule_number r.rule) r.span) (λ e f s ss h. unsolved_too e f s ss (rule_number r.rule) r.span h) c d same items fault)
  refused_too r (inr (rule, (types, has, bad))) = inr (rule, (types, has_types_too c d same items types has, bad))

  pub first_large_too : (span : Span) → FirstFault c items (λ e steps. IsTooLarge e steps span) → FirstFault d items (λ e steps. IsTooLarge e steps span)
  first_large_too span fault = first_too (λ e steps. IsTooLarge e steps span) (λ e f s ss h. large_too e f s ss span h) c d same items fault
