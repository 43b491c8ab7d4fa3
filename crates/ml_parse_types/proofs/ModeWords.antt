-- One step along the mode words at the front of a list of tokens.
use Rattle.std.proofs.Common.{◌≡◌, ◌<◌, List, [], ◌∷◌, length, drop, subst, sym, ◌∙◌, arith}
use Rattle.ml_lexer.specs.declared.token.Token.{Token}
use Rattle.ml_tree.specs.declared.words.Words.{Words}
use Rattle.ml_cursor.specs.Fronts.{front}
use Rattle.ml_parse_types.specs.declared.words.WordStep.{WordStep}
use Rattle.ml_parse_types.specs.declared.words.WordStep.TheVariants.{Done, Twice, Adds}
use Rattle.ml_parse_types.specs.Looks.{mode_word, no_words, with_word}
use Rattle.ml_parse_types.specs.Types.{Got, got, WordsBy, words_end, word_more, WordsFrom, ReadsWords}
use Rattle.ml_parse_types.specs.Readers.{IsNone}

-- what the next token is behind words
abbrev pub step : List Token → Words → WordStep
step ts w = with_word w (mode_word (front ts))

-- the words from start on are those that go on with w at ts
pub record WordsAlong (start ts : List Token) (w : Words) : Type 0 where
  forth : (o : Got Words) → WordsFrom ts w o → ReadsWords start o
  back : (o : Got Words) → ReadsWords start o → WordsFrom ts w o

pub along_none : (ts : List Token) (w : Words) → w ≡ no_words → WordsAlong ts ts w
along_none ts w e = record {
  forth = λ o d. subst (λ (x : Words). WordsFrom ts x o) e d;
  back = λ o d. subst (λ (x : Words). WordsFrom ts x o) (sym e) d;
}

unmore : {ts : List Token} {v w : Words} {o : Got Words} → WordsBy (Adds v) ts w o → WordsFrom (drop 1 ts) v o
unmore (word_more d) = d

pub along_more : (start ts us : List Token) (w v : Words) (k : WordStep) → WordsAlong start ts w → k ≡ step ts w → k ≡ Adds v → us ≡ drop 1 ts → WordsAlong start us v
along_more start ts us w v k a s h e =
    let f = sym s ∙ h in
    record {
      forth = λ o d. a.forth o (subst (λ (k : WordStep). WordsBy k ts w o) (sym f) (word_more (subst (λ (x : List Token). WordsFrom x v o) e d)));
      back = λ o d. subst (λ (x : List Token). WordsFrom x v o) (sym e) (unmore (subst (λ (k : WordStep). WordsBy k ts w o) f (a.back o d)));
    }

pub along_done : (start ts : List Token) (w : Words) (k : WordStep) → WordsAlong start ts w → k ≡ step ts w → k ≡ Done → ReadsWords start (got w ts)
along_done start ts w k a s h = a.forth (got w ts) (subst (λ (k : WordStep). WordsBy k ts w (got w ts)) (sym (sym s ∙ h)) words_end)

none_twice : {ts : List Token} {w : Words} {o : Got Words} → WordsBy Twice ts w o → ⊥
none_twice d = elim d [ ]

pub along_twice : (start ts : List Token) (w : Words) (k : WordStep) → WordsAlong start ts w → k ≡ step ts w → k ≡ Twice → IsNone ReadsWords start
along_twice start ts w k a s h = record { none = λ o d. none_twice (subst (λ (k : WordStep). WordsBy k ts w o) (sym s ∙ h) (a.back o d)) }

done≢adds : {v : Words} (P : Type 0) → Done ≡ Adds v → P
done≢adds P h = cc

pub word_shorter : (ts us : List Token) (w v : Words) (k : WordStep) → k ≡ step ts w → k ≡ Adds v → us ≡ drop 1 ts → length us < length ts
word_shorter [] us w v k s h e = done≢adds _ (sym s ∙ h)
word_shorter (t ∷ ts) us w v k s h e = subst (λ (x : List Token). length x < length (t ∷ ts)) (sym e) (let h : length ts < length (t ∷ ts) = omega arith in h)
