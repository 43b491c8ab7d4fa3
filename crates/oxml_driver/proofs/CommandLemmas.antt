-- How the parts of the command make its answers.
use Rattle.std.proofs.Common.{◌≡◌, ℕ, ◌≤◌, ◌⊎◌, inl, inr, true, List, [], length, Option, Some, refl, sym, ◌∙◌, append-nil, subst}
use Rattle.oxml_base.specs.declared.outside.ShelfCall.{ShelfCall}
use Rattle.oxml_base.specs.declared.outside.ShelfCall.TheVariants.{Load, Save}
use Rattle.oxml_base.specs.declared.refusal.Refusal.{Refusal}
use Rattle.oxml_base.specs.declared.span.Span.{Span}
use Rattle.oxml_base.specs.Outside.{ShelfView, SinkView, Rose, Saves, SameHeld, SameBut, SameFaults, ShelfFails, HoldsMore, GainsPart}
use Rattle.oxml_base.specs.declared.refusal.Limit.{Limit}
use Rattle.oxml_driver.specs.Build.{Compiles, IsRefused, Passes, default_sizes, most_bytes}
use Rattle.oxml_driver.specs.Command.{World, HasSource, IsWrong, IsTooLong, IsOver, of_bytes, of_source, IsBuilt, Says, IsReadFault, IsLine, GainsParts, IsWriteFault, Answers, built, refused, usage, read_fault, write_fault, limit, no_memory}
use Rattle.oxml_driver.specs.Lines.{bytes_limit_line, limit_line, read_fault_line, refusal_line, write_fault_line}
use Rattle.oxml_driver.specs.Said.{Said, said, unsaid, not_made, SaidUnread, tried, not_tried, AnswersBuild}
use Rattle.oxml_driver.specs.Words.{IsBuild}

same_held : (shelf : ShelfView) → SameHeld shelf shelf
same_held shelf = record { tells = refl; held = λ name. refl }

same_faults : (shelf : ShelfView) → SameFaults shelf shelf
same_faults shelf = record { faults = refl; last_fault = refl }

gains_nothing : (sink : SinkView) → GainsPart sink sink []
gains_nothing sink = record {
  part = [];
  rest = [];
  split = refl;
  gains = record { tells = refl; written = λ told. sym (append-nil sink.written) };
}

-- a put that failed, of a line that the call would put
put_failed : (words : List (List ℕ)) (old new : World) (status : ℕ) (line : List ℕ) → status ≡ 4 → SameHeld old.shelf new.shelf → new.out ≡ old.out → IsLine words old line → Rose old.err.faults new.err.faults → GainsParts old.err new.err line write_fault_line → Answers words old new status
put_failed words old new status line is_4 held out is_line rose gains =
    write_fault is_4 (record {
      cause = inr rose;
      others = λ name other. held.held name;
      out = out;
      line = line;
      is_line = is_line;
      err = gains;
    })

module _ (file out_name : List ℕ) (shelf shelf' : ShelfView) (err err' : SinkView) (status : ℕ) where
  -- a limit is passed
  answers_over : (line : List ℕ) → ((words : List (List ℕ)) (out : SinkView) → IsBuild words file out_name → IsOver words (record { shelf = shelf; out = out; err = err }) file out_name line) → SameFaults shelf shelf' → SameHeld shelf shelf' → Said 5 status err err' line → AnswersBuild file out_name shelf shelf' err err' status
  answers_over line over calm held (said is_5 puts) = λ words out words_are.
      limit is_5 (record {
        file = file;
        out_name = out_name;
        line = line;
        cause = over words out words_are;
        says = record { held = held; calm = calm; out = refl; err = puts };
      })
  answers_over line over calm held (unsaid is_4 rose gains) = λ words out words_are.
      put_failed words _ _ status line is_4 held refl (inr (inr (inl (file, out_name, over words out words_are)))) rose gains
  answers_over line over calm held (not_made is_6 gains) = λ words out words_are.
      no_memory is_6 (record { held = held; out = refl; err = gains })

  -- the name holds too many bytes
  pub answers_limit : HoldsMore shelf file most_bytes → SameFaults shelf shelf' → SameHeld shelf shelf' → Said 5 status err err' (bytes_limit_line file) → AnswersBuild file out_name shelf shelf' err err' status
  answers_limit more = answers_over (bytes_limit_line file) (λ words out words_are. of_bytes (record { words_are = words_are; holds_more = more }))

  -- the name could not be loaded
  pub answers_unread : ShelfFails shelf shelf' Load file → SameHeld shelf shelf' → SaidUnread status err err' (read_fault_line file) → AnswersBuild file out_name shelf shelf' err err' status
  answers_unread fails held (tried is_3 gains) = λ words out words_are.
      read_fault is_3 (record {
        file = file;
        out_name = out_name;
        words_are = words_are;
        fails = fails;
        held = held;
        out = refl;
        err = gains;
      })
  answers_unread fails held (not_tried is_6 gains) = λ words out words_are.
      no_memory is_6 (record { held = held; out = refl; err = gains })

  -- the image could not be saved
  pub answers_unwritten : ShelfFails shelf shelf' Save out_name → SameBut shelf shelf' out_name → status ≡ 4 → GainsPart err err' write_fault_line → AnswersBuild file out_name shelf shelf' err err' status
  answers_unwritten fails others is_4 gains = λ words out words_are.
      write_fault is_4 (record {
        cause = inl (file, out_name, words_are, fails);
        others = λ name other. others.others name (λ same. other file (subst (λ n. IsBuild words file n) (sym same) words_are));
        out = refl;
        line = [];
        is_line = inr (inr (inr refl));
        err = record { between = err; one = gains_nothing err; two = gains };
      })

-- the image was saved
pub answers_built : (file out_name : List ℕ) (shelf shelf' : ShelfView) (err : SinkView) (source bytes saved : List ℕ) → (shelf.tells ≡ true → shelf.held file ≡ Some source) → Compiles source default_sizes bytes → saved ≡ bytes → Saves shelf shelf' out_name saved → SameBut shelf shelf' out_name → AnswersBuild file out_name shelf shelf' err err 0
answers_built file out_name shelf shelf' err source bytes saved told compiles is saves others = λ words out words_are.
    built refl (record {
      file = file;
      out_name = out_name;
      source = source;
      has_source = record { words_are = words_are; told = told };
      bytes = bytes;
      compiles = compiles;
      saved = subst (λ b. shelf.tells ≡ true → shelf'.held out_name ≡ Some b) is saves.told;
      others = others;
      calm = saves.calm;
      out = refl;
      err = refl;
    })

module _ (file out_name : List ℕ) (shelf : ShelfView) (err err' : SinkView) (status : ℕ) (source : List ℕ) (told : shelf.tells ≡ true → shelf.held file ≡ Some source) where
  -- the source violates a rule
  pub answers_refused : (refusal : Refusal) → IsRefused source refusal → Said 1 status err err' (refusal_line file source refusal) → AnswersBuild file out_name shelf shelf err err' status
  answers_refused refusal why (said is_1 puts) = λ words out words_are.
      refused is_1 (record {
        file = file;
        out_name = out_name;
        source = source;
        refusal = refusal;
        cause = record { has_source = record { words_are = words_are; told = told }; refused = why };
        says = record { held = same_held shelf; calm = same_faults shelf; out = refl; err = puts };
      })
  answers_refused refusal why (unsaid is_4 rose gains) = λ words out words_are.
      put_failed words _ _ status (refusal_line file source refusal) is_4 (same_held shelf) refl (inr (inl (file, out_name, source, (refusal, record { has_source = record { words_are = words_are; told = told }; refused = why }, refl)))) rose gains
  answers_refused refusal why (not_made is_6 gains) = λ words out words_are.
      no_memory is_6 (record { held = same_held shelf; out = refl; err = gains })

  -- the source, which is short, passes a limit
  pub answers_passed : {passed : Limit} {place : Option Span} → length source ≤ most_bytes → Passes source passed place → Said 5 status err err' (limit_line file source passed place) → AnswersBuild file out_name shelf shelf err err' status
  answers_passed {passed} {place} short passes =
      answers_over file out_name shelf shelf err err' status (limit_line file source passed place) (λ words out words_are. of_source (record { has_source = record { words_are = words_are; told = told }; short = short; passes = passes })) (same_faults shelf) (same_held shelf)

-- ---- a load that succeeded changes nothing that is seen

module _ (old mid : ShelfView) (held : SameHeld old mid) (calm : SameFaults old mid) where
  source_before : {file : List ℕ} {source : List ℕ} → (mid.tells ≡ true → mid.held file ≡ Some source) → old.tells ≡ true → old.held file ≡ Some source
  source_before {file} told tells = sym (held.held file) ∙ told (held.tells ∙ tells)

  held_after : {new : ShelfView} → SameHeld mid new → SameHeld old new
  held_after same =
      record { tells = same.tells ∙ held.tells; held = λ name. same.held name ∙ held.held name }

  calm_after : {new : ShelfView} → SameFaults mid new → SameFaults old new
  calm_after same =
      record { faults = same.faults ∙ calm.faults; last_fault = same.last_fault ∙ calm.last_fault }

  fails_after : {new : ShelfView} {call : ShelfCall} {name : List ℕ} → ShelfFails mid new call name → ShelfFails old new call name
  fails_after {new} fails =
      record { rose = subst (λ n. Rose n new.faults) calm.faults fails.rose; last_fault = fails.last_fault }

  long_before : {file : List ℕ} → HoldsMore mid file most_bytes → HoldsMore old file most_bytes
  long_before {file} more = record {
    told = λ tells. let long = more.told (held.tells ∙ tells) in (long.0, sym (held.held file) ∙ long.1, long.2);
  }

  others_after : {new : ShelfView} {name : List ℕ} → SameBut mid new name → SameBut old new name
  others_after same = record {
    tells = same.tells ∙ held.tells;
    others = λ other differs. same.others other differs ∙ held.held other;
  }

  module _ (words : List (List ℕ)) (new : ShelfView) (out out' err err' : SinkView) where
    before : World
    before = record { shelf = old; out = out; err = err }

    between : World
    between = record { shelf = mid; out = out; err = err }

    behind : World
    behind = record { shelf = new; out = out'; err = err' }

    source_is : {file out_name source : List ℕ} → HasSource words between file out_name source → HasSource words before file out_name source
    unfolding before between
    source_is has = record { words_are = has.words_are; told = source_before has.told }

    wrong_before : {file out_name source : List ℕ} {refusal : Refusal} → IsWrong words between file out_name source refusal → IsWrong words before file out_name source refusal
    wrong_before wrong =
        record { has_source = source_is wrong.has_source; refused = wrong.refused }

    too_long_before : {file out_name : List ℕ} → IsTooLong words between file out_name → IsTooLong words before file out_name
    unfolding before between
    too_long_before long =
        record { words_are = long.words_are; holds_more = long_before long.holds_more }

    over_before : {file out_name line : List ℕ} → IsOver words between file out_name line → IsOver words before file out_name line
    over_before (of_bytes long) = of_bytes (too_long_before long)
    over_before (of_source over) =
        of_source (record { has_source = source_is over.has_source; short = over.short; passes = over.passes })

    line_before : {line : List ℕ} → IsLine words between line → IsLine words before line
    line_before (inl misread) = inl misread
    line_before (inr (inl (file, out_name, source, (refusal, wrong, is)))) =
        inr (inl (file, out_name, source, (refusal, wrong_before wrong, is)))
    line_before (inr (inr (inl (file, out_name, over)))) =
        inr (inr (inl (file, out_name, over_before over)))
    line_before (inr (inr (inr none))) = inr (inr (inr none))

    says_after : {line : List ℕ} → Says between behind line → Says before behind line
    unfolding before between behind
    says_after says =
        record { held = held_after says.held; calm = calm_after says.calm; out = says.out; err = says.err }

    built_after : IsBuilt words between behind → IsBuilt words before behind
    unfolding before between behind
    built_after b = record {
      file = b.file;
      out_name = b.out_name;
      source = b.source;
      has_source = source_is b.has_source;
      bytes = b.bytes;
      compiles = b.compiles;
      saved = λ tells. b.saved (held.tells ∙ tells);
      others = others_after b.others;
      calm = calm_after b.calm;
      out = b.out;
      err = b.err;
    }

    cause_after : ((file out_name : List ℕ) × IsBuild words file out_name × ShelfFails mid new Save out_name) ⊎ Rose err.faults err'.faults → ((file out_name : List ℕ) × IsBuild words file out_name × ShelfFails old new Save out_name) ⊎ Rose err.faults err'.faults
    cause_after (inl (file, out_name, words_are, fails)) = inl (file, out_name, words_are, fails_after fails)
    cause_after (inr rose) = inr rose

    write_fault_after : IsWriteFault words between behind → IsWriteFault words before behind
    unfolding before between behind
    write_fault_after fault = record {
      cause = cause_after fault.cause;
      others = λ name other. fault.others name other ∙ held.held name;
      out = fault.out;
      line = fault.line;
      is_line = line_before fault.is_line;
      err = fault.err;
    }

    read_fault_after : IsReadFault words between behind → IsReadFault words before behind
    unfolding before between behind
    read_fault_after fault = record {
      file = fault.file;
      out_name = fault.out_name;
      words_are = fault.words_are;
      fails = fails_after fault.fails;
      held = held_after fault.held;
      out = fault.out;
      err = fault.err;
    }

    answers_after : {status : ℕ} → Answers words between behind status → Answers words before behind status
    unfolding before between behind
    answers_after (built is b) = built is (built_after b)
    answers_after (refused is r) =
        refused is (record { file = r.file; out_name = r.out_name; source = r.source; refusal = r.refusal; cause = wrong_before r.cause; says = says_after r.says })
    answers_after (usage is u) = usage is (record { cause = u.cause; says = says_after u.says })
    answers_after (read_fault is fault) = read_fault is (read_fault_after fault)
    answers_after (write_fault is fault) = write_fault is (write_fault_after fault)
    answers_after (limit is l) =
        limit is (record { file = l.file; out_name = l.out_name; line = l.line; cause = over_before l.cause; says = says_after l.says })
    answers_after (no_memory is n) =
        no_memory is (record { held = held_after n.held; out = n.out; err = n.err })

pub after_load : (file out_name : List ℕ) (old mid new : ShelfView) (err err' : SinkView) (status : ℕ) → SameHeld old mid → SameFaults old mid → AnswersBuild file out_name mid new err err' status → AnswersBuild file out_name old new err err' status
unfolding before between behind
after_load file out_name old mid new err err' status held calm answers = λ words out words_are.
    answers_after old mid held calm words new out out err err' (answers words out words_are)
