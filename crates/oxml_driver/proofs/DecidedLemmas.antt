-- Where nothing fails, the words and the source decide the answer.
use Rattle.std.proofs.Common.{◌≡◌, ℕ, ◌+◌, ◌<◌, ◌⊎◌, inl, inr, List, length, Option, Some, None, sym, ◌∙◌, ap, subst}
use Rattle.oxml_base.specs.declared.outside.ShelfCall.TheVariants.{Save}
use Rattle.oxml_base.specs.Outside.{Rose, ShelfFails}
use Rattle.oxml_base.specs.declared.refusal.Limit.{Limit}
use Rattle.oxml_base.specs.declared.refusal.Limit.TheVariants.{Bytes}
use Rattle.oxml_base.specs.declared.refusal.Refusal.{Refusal}
use Rattle.oxml_base.specs.declared.span.Span.{Span}
use Rattle.oxml_driver.specs.Build.{IsRefused, Passes, bytes, PrintsTexts, most_bytes}
use Rattle.oxml_driver.specs.Command.{World, HasSource, IsMisread, IsOver, of_bytes, of_source, IsTooLong, IsWriteFault, Answers, built, refused, usage, read_fault, write_fault, limit, no_memory, NothingFailed, TellsSource, IsDecided}
use Rattle.oxml_driver.proofs.TakenOnce.{accepted_or_refused, accepted_or_over, refused_or_over}
use Rattle.oxml_driver.specs.Types.{UsesApart}
use Rattle.oxml_driver.specs.Words.{IsBuild}

-- words name one file
same_file : (words : List (List ℕ)) (file out_name other other_name : List ℕ) → IsBuild words file out_name → IsBuild words other other_name → file ≡ other
same_file words file out_name other other_name one two = let e = sym one.spelled ∙ two.spelled in cc

-- the source that an answer speaks of is the one that the shelf tells
same_source : (words : List (List ℕ)) (old : World) (file out_name source told : List ℕ) → HasSource words old file out_name source → TellsSource words old told → source ≡ told
same_source words old file out_name source told has tells =
    let same = same_file words file out_name tells.file tells.out_name has.words_are tells.words_are in
    let holds : old.shelf.held file ≡ Some told = ap old.shelf.held same ∙ tells.holds in
    let had = has.told tells.tells in
    cc

-- a told source that is too long for an answer is too long
is_long : (words : List (List ℕ)) (old : World) (file out_name told : List ℕ) → IsTooLong words old file out_name → TellsSource words old told → most_bytes < length told
is_long words old file out_name told long tells =
    let same = same_file words file out_name tells.file tells.out_name long.words_are tells.words_are in
    let more = long.holds_more.told tells.tells in
    let holds : old.shelf.held file ≡ Some told = ap old.shelf.held same ∙ tells.holds in
    let bytes : more.0 ≡ told = cc in
    subst (λ l. most_bytes < length l) bytes more.2

-- the limit that an answer speaks of is passed by the told source
is_over : (words : List (List ℕ)) (old : World) (file out_name line told : List ℕ) → IsOver words old file out_name line → TellsSource words old told → (passed : Limit) × (place : Option Span) × Passes told passed place
is_over words old file out_name line told (of_bytes long) tells =
    (Bytes (most_bytes + 1), None, bytes (is_long words old file out_name told long tells))
is_over words old file out_name line told (of_source {source} {passed} {place} over) tells =
    let same = same_source words old file out_name source told over.has_source tells in
    (passed, place, subst (λ s. Passes s passed place) same over.passes)

over_words : (words : List (List ℕ)) (old : World) (file out_name line : List ℕ) → IsOver words old file out_name line → IsBuild words file out_name
over_words words old file out_name line (of_bytes long) = long.words_are
over_words words old file out_name line (of_source over) = over.has_source.words_are

no_write_fault : (words : List (List ℕ)) (old new : World) → NothingFailed old new → IsWriteFault words old new → ⊥
no_write_fault words old new nothing fault = by_cause fault.cause
  where
    by_cause : ((file out_name : List ℕ) × IsBuild words file out_name × ShelfFails old.shelf new.shelf Save out_name) ⊎ Rose old.err.faults new.err.faults → ⊥
    by_cause (inl (file, out_name, words_are, fails)) = nothing.shelf fails.rose
    by_cause (inr rose) = nothing.err rose

module _ (words : List (List ℕ)) (old new : World) (status : ℕ) (nothing : NothingFailed old new) where
  accepted_is : Answers words old new status → (source : List ℕ) (texts : List (List ℕ)) → TellsSource words old source → UsesApart source → PrintsTexts source texts → (status ≡ 0) ⊎ (status ≡ 6)
  accepted_is (built is b) source texts tells apart prints = inl is
  accepted_is (refused is r) source texts tells apart prints =
      let same = same_source words old r.file r.out_name r.source source r.cause.has_source tells in
      absurd (accepted_or_refused apart prints (subst (λ s. IsRefused s r.refusal) same r.cause.refused))
  accepted_is (usage is u) source texts tells apart prints =
      absurd (u.cause tells.file tells.out_name tells.words_are)
  accepted_is (read_fault is f) source texts tells apart prints = absurd (nothing.shelf f.fails.rose)
  accepted_is (write_fault is f) source texts tells apart prints =
      absurd (no_write_fault words old new nothing f)
  accepted_is (limit is l) source texts tells apart prints =
      let over = is_over words old l.file l.out_name l.line source l.cause tells in
      absurd (accepted_or_over apart prints over.2)
  accepted_is (no_memory is n) source texts tells apart prints = inr is

  refused_is : Answers words old new status → (source : List ℕ) (refusal : Refusal) → TellsSource words old source → UsesApart source → IsRefused source refusal → (status ≡ 1) ⊎ (status ≡ 6)
  refused_is (built is b) source refusal tells apart why =
      let same = same_source words old b.file b.out_name b.source source b.has_source tells in
      absurd (accepted_or_refused apart (subst (λ s. PrintsTexts s b.compiles.texts) same b.compiles.prints) why)
  refused_is (refused is r) source refusal tells apart why = inl is
  refused_is (usage is u) source refusal tells apart why =
      absurd (u.cause tells.file tells.out_name tells.words_are)
  refused_is (read_fault is f) source refusal tells apart why = absurd (nothing.shelf f.fails.rose)
  refused_is (write_fault is f) source refusal tells apart why =
      absurd (no_write_fault words old new nothing f)
  refused_is (limit is l) source refusal tells apart why =
      let over = is_over words old l.file l.out_name l.line source l.cause tells in
      absurd (refused_or_over apart why over.2)
  refused_is (no_memory is n) source refusal tells apart why = inr is

  misread_is : Answers words old new status → IsMisread words → (status ≡ 2) ⊎ (status ≡ 6)
  misread_is (built is b) misread = absurd (misread b.file b.out_name b.has_source.words_are)
  misread_is (refused is r) misread =
      absurd (misread r.file r.out_name r.cause.has_source.words_are)
  misread_is (usage is u) misread = inl is
  misread_is (read_fault is f) misread = absurd (misread f.file f.out_name f.words_are)
  misread_is (write_fault is f) misread = absurd (no_write_fault words old new nothing f)
  misread_is (limit is l) misread =
      absurd (misread l.file l.out_name (over_words words old l.file l.out_name l.line l.cause))
  misread_is (no_memory is n) misread = inr is

  over_is : Answers words old new status → (source : List ℕ) (passed : Limit) (place : Option Span) → TellsSource words old source → UsesApart source → Passes source passed place → (status ≡ 5) ⊎ (status ≡ 6)
  over_is (built is b) source passed place tells apart over =
      let same = same_source words old b.file b.out_name b.source source b.has_source tells in
      absurd (accepted_or_over apart (subst (λ s. PrintsTexts s b.compiles.texts) same b.compiles.prints) over)
  over_is (refused is r) source passed place tells apart over =
      let same = same_source words old r.file r.out_name r.source source r.cause.has_source tells in
      absurd (refused_or_over apart (subst (λ s. IsRefused s r.refusal) same r.cause.refused) over)
  over_is (usage is u) source passed place tells apart over =
      absurd (u.cause tells.file tells.out_name tells.words_are)
  over_is (read_fault is f) source passed place tells apart over = absurd (nothing.shelf f.fails.rose)
  over_is (write_fault is f) source passed place tells apart over =
      absurd (no_write_fault words old new nothing f)
  over_is (limit is l) source passed place tells apart over = inl is
  over_is (no_memory is n) source passed place tells apart over = inr is

pub decided : (words : List (List ℕ)) (old new : World) (status : ℕ) → Answers words old new status → NothingFailed old new → IsDecided words old status
decided words old new status answers nothing = record {
  accepted = accepted_is words old new status nothing answers;
  refused = refused_is words old new status nothing answers;
  misread = misread_is words old new status nothing answers;
  over = over_is words old new status nothing answers;
}
