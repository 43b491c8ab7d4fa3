-- What the layers of values, lists of values and names stand for, one by one.
use Rattle.std.proofs.Common.{◌≡◌, Bor, ℕ, ℤ, List, [], ◌∷◌, sym, ap, ◌∙◌}
use Rattle.ml_values.specs.declared.value.Code.{Code}
use Rattle.ml_values.specs.declared.value.Word.{Word, fold-roll-Word, map-Word, roll-Word}
use Rattle.ml_values.specs.declared.value.Word.TheOpen as w
use Rattle.ml_values.specs.declared.value.Word.TheOpen.{Word-F, Words-F, Pair-F}
use Rattle.ml_values.specs.declared.value.Word.TheVariants as W
use Rattle.ml_values.specs.declared.value.Words.{Words, fold-roll-Words, map-Words, roll-Words}
use Rattle.ml_values.specs.declared.value.Words.TheVariants as L
use Rattle.ml_values.specs.declared.value.Pair.{Pair, fold-Pair, fold_out-Pair, fold-roll-Pair, out-Pair, roll-Pair}
use Rattle.ml_values.specs.declared.value.Env.{Env, fold-roll-Env, map-Env, roll-Env}
use Rattle.ml_values.specs.declared.value.Env.TheOpen as n
use Rattle.ml_values.specs.declared.value.Env.TheOpen.{Env-F}
use Rattle.ml_values.specs.declared.value.Env.TheVariants as N
use Rattle.ml_values.specs.declared.value.Bound.{Bound, fold-Bound, fold_out-Bound, fold-roll-Bound, out-Bound, roll-Bound}
use Rattle.ml_values.specs.Shown.{value, values, names, code_of, word_step, words_step, pair_step, names_step, bound_step}
use Rattle.ml_meaning.specs.Patterns as p
use Rattle.ml_meaning.specs.Values as v
use Rattle.ml_meaning.specs.Values.{Value, Values}

abbrev pair_values : Pair → Values
pair_values pair = fold-Pair Value Values Values word_step words_step pair_step pair

abbrev shown_word : Word-F Word Words Pair → Word-F Value Values Values
shown_word l = map-Word Word Words Pair Value Values Values value values pair_values l

word_at_layer : (l : Word-F Word Words Pair) (x : Word) → roll-Word l ≡ x → value x ≡ word_step (shown_word l)
word_at_layer l x is = ap value (sym is) ∙ fold-roll-Word Value Values Values word_step words_step pair_step l

pub number_is : (z : ℤ) → value (W.Number z) ≡ v.Number z
number_is z = word_at_layer (w.Number z) (W.Number z) (W.rolls-Number z)

pub character_is : (c : ℕ) → value (W.Character c) ≡ v.Character c
character_is c = word_at_layer (w.Character c) (W.Character c) (W.rolls-Character c)

pub constant_is : (k : ℕ) → value (W.Constant k) ≡ v.Constant k
constant_is k = word_at_layer (w.Constant k) (W.Constant k) (W.rolls-Constant k)

pub block_is : (k : ℕ) (parts : Words) → value (W.Block k parts) ≡ v.Block k (values parts)
block_is k parts = word_at_layer (w.Block k parts) (W.Block k parts) (W.rolls-Block k parts)

pub function_is : (c : Code) (captured held : Words) → value (W.Function c captured held) ≡ v.Function (code_of c) (values captured) (values held)
function_is c captured held = word_at_layer (w.Function c captured held) (W.Function c captured held) (W.rolls-Function c captured held)

-- a text has the bytes that the reference points to
pub bytes_is : (b : Bor (List ℕ)) → value (W.Bytes b) ≡ v.Bytes b.now
bytes_is b = word_at_layer (w.Bytes b) (W.Bytes b) (W.rolls-Bytes b)

abbrev shown_words : Words-F Word Words Pair → Words-F Value Values Values
shown_words l = map-Words Word Words Pair Value Values Values value values pair_values l

words_at_layer : (l : Words-F Word Words Pair) (x : Words) → roll-Words l ≡ x → values x ≡ words_step (shown_words l)
words_at_layer l x is = ap values (sym is) ∙ fold-roll-Words Value Values Values word_step words_step pair_step l

pub empty_is : values L.Empty ≡ v.no_values
empty_is = words_at_layer w.Empty L.Empty L.rolls-Empty

pub and_at : (r : Bor Pair) → values (L.And r) ≡ v.value_and (value (out-Pair r.now).first) (values (out-Pair r.now).rest)
and_at r = words_at_layer (w.And r) (L.And r) (L.rolls-And r) ∙ fold_out-Pair Value Values Values word_step words_step pair_step r.now

pub and_of : (r : Bor Pair) (first : Word) (rest : Words) → r.now ≡ roll-Pair (record { first = first; rest = rest }) → values (L.And r) ≡ v.value_and (value first) (values rest)
and_of r first rest is = words_at_layer (w.And r) (L.And r) (L.rolls-And r) ∙ (ap pair_values is ∙ fold-roll-Pair Value Values Values word_step words_step pair_step (record { first = first; rest = rest }))

abbrev bound_names : Bound → p.Env
bound_names b = fold-Bound p.Env p.Env names_step bound_step b

abbrev shown_env : Env-F Env Bound → Env-F p.Env p.Env
shown_env l = map-Env Env Bound p.Env p.Env names bound_names l

env_at_layer : (l : Env-F Env Bound) (x : Env) → roll-Env l ≡ x → names x ≡ names_step (shown_env l)
env_at_layer l x is = ap names (sym is) ∙ fold-roll-Env p.Env p.Env names_step bound_step l

pub nothing_is : names N.Nothing ≡ []
nothing_is = env_at_layer n.Nothing N.Nothing N.rolls-Nothing

pub bound_at : (r : Bor Bound) → names (N.And r) ≡ ((out-Bound r.now).name, value (out-Bound r.now).word) ∷ names (out-Bound r.now).rest
bound_at r = env_at_layer (n.And r) (N.And r) (N.rolls-And r) ∙ fold_out-Bound p.Env p.Env names_step bound_step r.now

pub bound_of : (r : Bor Bound) (name : ℕ) (word : Word) (rest : Env) → r.now ≡ roll-Bound (record { name = name; word = word; rest = rest }) → names (N.And r) ≡ (name, value word) ∷ names rest
bound_of r name word rest is = env_at_layer (n.And r) (N.And r) (N.rolls-And r) ∙ (ap bound_names is ∙ fold-roll-Bound p.Env p.Env names_step bound_step (record { name = name; word = word; rest = rest }))
